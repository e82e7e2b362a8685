use Rattle.std.proofs.Common.{◌≡◌, ◌++◌, ℕ, List, [], ◌∷◌, length, refl, sym, ap, ◌∙◌, arith, append-nil}
use Rattle.std.specs.String.{string_bytes}
use Rattle.sect_types.specs.{Programs.{ProgramView}, declared.expansion.action.Field.{Field}}
use Rattle.sect_points.specs.Paths.{PathView, fields_of}
use Rattle.sect_names.specs.declared.lock.Effect.{Effect}
use Rattle.sect_emit.proofs.shared.Numbered.{on_ok}
use Rattle.sect_c.specs.Sections.{again_c, second_look_by}
use Rattle.sect_c.proofs.sections.put_path_again.Goals as goal

-- without fields there is none
none_by : (p : ProgramView) (i : ℕ) (q : PathView) (e : Effect) (fields : List Field) → length fields ≡ 0
    → second_look_by p i q e fields ≡ []
none_by p i q e [] none = refl
none_by p i q e (f ∷ fields) none = absurd (omega (arith, none))

-- and with fields there is one
some_by : (p : ProgramView) (i : ℕ) (q : PathView) (e : Effect) (fields : List Field) → (length fields ≡ 0 → ⊥)
    → second_look_by p i q e fields ≡ again_c p i q e
some_by p i q e [] some = absurd (some refl)
some_by p i q e (f ∷ fields) some = refl

pub returns-then-count-eq0 : goal.returns-then-count-eq0
returns-then-count-eq0 c =
    let q = c.args.path.now in
    let old = string_bytes c.args.text.now in
    let none : length (fields_of q) ≡ 0 = omega (arith, c.if-count-eq0.true, ap length c.fields-fields.ensures.fields) in
    sym (ap (λ w. old ++ w) (none_by c.args.program.now c.args.section q c.args.effect (fields_of q) none)
    ∙ append-nil old)

pub returns : goal.returns
returns c =
    let q = c.args.path.now in
    let old = string_bytes c.args.text.now in
    let some : length (fields_of q) ≡ 0 → ⊥ = λ none.
    omega (arith, none, c.if-count-eq0.false, ap length c.fields-fields.ensures.fields) in
    on_ok c.put_again.result c.put_again.ensures (λ put.
    put ∙ ap (λ w. old ++ w)
    (sym (some_by c.args.program.now c.args.section q c.args.effect (fields_of q) some)))
