-- The plan of a section is in key order.
use Rattle.std.proofs.Common.{◌≡◌, ℕ, zero, suc, refl, sym, ◌∙◌, subst, List, [], ◌∷◌, Option, Some, None}
use Rattle.std.proofs.lemmas.Option.{get_or_from_slice_get}
use Rattle.std.specs.Prelude.{slice_get, slice_index_or}
use Rattle.sect_names.specs.declared.lock.Lock.{Lock}
use Rattle.sect_types.specs.{declared.meaning.store.Datum.{Datum}, Store.{StoreView}}
use Rattle.sect_emit.specs.{declared.plan.Grip.{Grip}, Plan.{plan_of, Ascends}, Compiled.{CompiledView, IsCompiled}}
use Rattle.sect_emit.specs.State.{plan_at}
use Rattle.sect_lemmas.proofs.Options.{none_or_some}
use Rattle.sect_emit.proofs.shared.Plans.{plan_ascends}
use Rattle.sect_world.proofs.Listing.{none_in_both}

past_end : {A : Type 0} (xs : List A) (i : ℕ) (d : A) → slice_get xs i ≡ None → slice_index_or xs i d ≡ d
past_end [] i d e = refl
past_end (x ∷ xs) zero d e = absurd (none_or_some x (sym e))
past_end (x ∷ xs) (suc i) d e = past_end xs i d e

-- the plan of a section ascends, also where there is no such section
pub plan_at_ascends : (c : CompiledView) → IsCompiled c → (i : ℕ) (s : StoreView) (locals : List Datum)
    → Ascends (plan_at c i s locals)
plan_at_ascends c is i s locals = by (slice_get c.sets i) refl (slice_get c.parts i) refl where
  no_plan : slice_get c.sets i ≡ None → slice_get c.parts i ≡ None → Ascends (plan_at c i s locals)
  no_plan a b = subst (λ part. Ascends (plan_of part (slice_index_or c.sets i []) s locals))
      (sym (past_end c.parts i [] b))
      (subst (λ locks. Ascends (plan_of [] locks s locals)) (sym (past_end c.sets i [] a)) tt)

  by : (o : Option (List Lock)) → slice_get c.sets i ≡ o → (q : Option (List Grip)) → slice_get c.parts i ≡ q
      → Ascends (plan_at c i s locals)
  by None a q b = no_plan a (none_in_both c.sets c.parts i (is.set_count ∙ sym is.part_count) a)
  by (Some locks) a None b = no_plan (none_in_both c.parts c.sets i (is.part_count ∙ sym is.set_count) b) b
  by (Some locks) a (Some part) b =
      subst (λ x. Ascends (plan_of x (slice_index_or c.sets i []) s locals))
      (sym (get_or_from_slice_get c.parts i part [] b))
      (subst (λ x. Ascends (plan_of part x s locals)) (sym (get_or_from_slice_get c.sets i locks [] a))
      (plan_ascends c.scheme part locks s locals (is.planned i locks part a b)))
