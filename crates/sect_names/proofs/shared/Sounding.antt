-- What a sound step of a thread needs, and what it carries back, are locks that the thread's sections may take.
use Rattle.std.proofs.Common.{◌≡◌, ℕ, ◌<◌, List, [], length, Option, Some, None, refl, ap, inl, inr, arith}
use Rattle.std.proofs.{lemmas.Bool.{cases_lt}, lemmas.List.{get_or_past}, lemmas.Option.{slice_get_within}}
use Rattle.std.specs.Prelude.{slice_get, slice_index_or}
use Rattle.sect_types.specs.{Programs.{ProgramView}, Sound.{type_in}, declared.declarations.types.ValueType.{ValueType}}
use Rattle.sect_types.specs.declared.declarations.types.ValueType.TheVariants.{Refers}
use Rattle.sect_points.specs.declared.holders.Variable.{Variable}
use Rattle.sect_points.specs.{declared.holders.Variable.TheVariants.{Global, Local}, Paths.{PathView, var, dot}}
use Rattle.sect_names.specs.Locks.{IsVariable, IsPathOf, VariableTo, FieldTo, PathTo}

module _ (p : ProgramView) where
  variable_there : (v : Variable) (r : ℕ) → VariableTo p v r → IsVariable p v
  variable_there (Global g) r at = slice_get_within p.globals g r at
  variable_there (Local t x) r at =
      let within = slice_get_within (slice_index_or p.locals t []) x (Refers r) at in (
        elim (cases_lt t (length p.locals)) [
          | inl there ↦ there
          | inr past ↦ absurd (omega (arith, within, ap length (get_or_past p.locals t [] past)))
        ],
        within,
      )

  field_there : (q f r : ℕ) → FieldTo p q f r → (ts : List ValueType) × (slice_get p.records q ≡ Some ts)
      × (f < length ts)
  field_there q f r h = by (slice_get p.records q) refl h
    where
      by : (o : Option (List ValueType)) → slice_get p.records q ≡ o → type_in o f ≡ Some (Refers r)
          → (ts : List ValueType) × (slice_get p.records q ≡ Some ts) × (f < length ts)
      by None is h = absurd cc
      by (Some ts) is h = (ts, is, slice_get_within ts f (Refers r) h)

  -- what a path that refers to objects names is there
  pub path_there : (q : PathView) (r : ℕ) → PathTo p q r → IsPathOf p q
  path_there (var v) r to = variable_there v r to
  path_there (dot q f) r to = (path_there q f.of to.0, field_there f.of f.number r to.1)
