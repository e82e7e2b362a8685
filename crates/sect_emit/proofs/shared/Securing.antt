-- What is needed before a step secures what is needed after it.
use Rattle.std.proofs.Common.{◌≡◌, ◌⊎◌, ℕ, zero, suc, List, Bool, true, false, refl, sym, ap, ◌∙◌, subst, inl, inr}
use Rattle.std.proofs.{Common.{true≢false}, lemmas.Bool.{cases_lt}}
use Rattle.std.specs.Prelude.{if◌then◌else◌}
use Rattle.sect_lemmas.specs.Lists.{Has}
use Rattle.sect_types.specs.{Programs.{ProgramView}, Statements.{TextView, Stop, Do, Choose, Loop, Section, joined}}
use Rattle.sect_types.specs.{declared.expansion.action.Condition.{Condition}, declared.expansion.action.Label.{Label}}
use Rattle.sect_types.specs.declared.meaning.store.ObjectName.{ObjectName}
use Rattle.sect_types.specs.{declared.meaning.store.Datum.TheVariants.{Refers}, Store.{StoreView}}
use Rattle.sect_types.specs.Meaning.{WorkView, Change, Unchanged, after_change, Came, Went, Fell, one, looked, found_at}
use Rattle.sect_types.specs.Meaning.{is_true, Next, On, Off, going, taken}
use Rattle.sect_points.specs.Paths.{PathView}
use Rattle.sect_names.specs.{declared.lock.Effect.{Effect}, declared.lock.Lock.{Lock}, Schemes.{SchemeView, IsScheme}}
use Rattle.sect_names.specs.{Locks.{depth}, Carrying.{CarriedBack, right_for}, Laws.{IsProgramStep}}
use Rattle.sect_names.specs.{Records.{IsTypedProgram, IsNeedable}, Walks.{Leads, StandsInThread}, Along.{NeededIn}}
use Rattle.sect_emit.specs.{Plan.{path_datum}, Pointed.{IsPointed, StepsTo, IsMade, IsSecuredBy}, GoesOn.{GoesOnTo}}
use Rattle.sect_names.proofs.shared.{Placing.{step_sound}, Needing.{keeps_record, needed_needable}}
use Rattle.sect_names.proofs.shared.{Walking.{leads_stands, needed_step}, Owning.{own_before}}
use Rattle.sect_emit.proofs.shared.Pointing.{denoted}
use Rattle.sect_emit.proofs.Valuing.{step_value}
use Rattle.sect_types.specs.declared.expansion.action.Label.TheVariants as label
use Rattle.sect_names.specs.declared.lock.Lock.TheVariants as lock

module _ (s : SchemeView) (scheme : IsScheme s) (typed : IsTypedProgram s.program) (t : ℕ) (store : StoreView)
    (w : WorkView) (pointed : IsPointed s t store w) where
  -- where the path of a lock denotes an object after a step, a lock that it is carried back to secured it before, or
  -- the step makes it
  pub secured_by : (step : Label) → IsProgramStep s t step → (after : StoreView) (z : WorkView)
      → StepsTo s.program t step store w after z → (p : PathView) (e : Effect) (o : ObjectName)
      → IsNeedable s t (lock.Path p e)
      → path_datum after z.locals p ≡ Refers o → IsSecuredBy s (CarriedBack s t step (lock.Path p e)) store w e o
      ⊎ IsMade t w.made step p o
  secured_by step there after z does p e o (own, (r, to, free)) value =
      elim (step_value s scheme typed t store w pointed step there after z does p r o to own value) [
        | inr made ↦ inr made
        | inl (q, before, denotes) ↦
            let path = keeps_record s t step (step_sound s typed t step there) p q r before to in
            let k = denoted s scheme typed t store w pointed q r o path (own_before t s.classes step p q before own)
            denotes in
            elim (cases_lt s.most (depth q)) [
              | inl long ↦ inl (inr (k.4.0, (q, before, (k.4.0, k.4.1, inr (long, refl))), (k.0, k.1, k.4.2)))
              | inr short ↦ inl (inl (q, (q, before, (k.4.0, k.4.1, inl (short, refl))), denotes))
            ]
      ]

abbrev IsOn : Next → Type 0
IsOn (On rest w c) = Unit {0}
IsOn (Off why w) = ⊥

abbrev rest_in : TextView → Next → TextView
rest_in d (On rest w c) = rest
rest_in d (Off why w) = d

abbrev work_in : WorkView → Next → WorkView
work_in d (On rest w c) = w
work_in d (Off why w) = d

abbrev change_in : Next → Change
change_in (On rest w c) = c
change_in (Off why w) = Unchanged

module _ (p : ProgramView) (t : ℕ) (store : StoreView) where
  tested : (n : ℕ) (c : Condition) (a b : TextView) (w : WorkView) (rest : TextView) (after : StoreView) (z : WorkView)
      (change : Change) → taken n c a b w ≡ On rest z change → after ≡ after_change t store change
      → ((rest ≡ a) ⊎ (rest ≡ b)) × StepsTo p t (label.Test c) store w after z
  tested zero c a b w rest after z change e is = absurd (subst IsOn (sym e) tt)
  tested (suc n) c a b w rest after z change e is =
      let work : record w { fuel = n } ≡ z = ap (work_in w) e in
      let none : Unchanged ≡ change = ap change_in e in (
        by (is_true w.locals c) (ap (rest_in Stop) e),
        (
          is ∙ ap (after_change t store) (sym none),
          sym (ap (λ (y : WorkView). y.locals) work),
          sym (ap (λ (y : WorkView). y.made) work),
        ),
      )
    where
      by : (x : Bool) → (if x then a else b) ≡ rest → (rest ≡ a) ⊎ (rest ≡ b)
      by true e = inl (sym e)
      by false e = inr (sym e)

  -- a text that goes on does a step that it begins with
  pub next_does : (text : TextView) (w : WorkView) (rest : TextView) (after : StoreView) (z : WorkView)
      → GoesOnTo p t text store w rest after z
      → (step : Label) × Leads text step rest × StepsTo p t step store w after z
  next_does Stop w rest after z (begins, h) = absurd (true≢false (sym begins))
  next_does (Do a r) w rest after z (begins, (change, e, is)) =
      by (one p t a (found_at store (looked a w.locals)) w) refl e
    where
      by : (c : Came) → one p t a (found_at store (looked a w.locals)) w ≡ c → going r c ≡ On rest z change
          → (step : Label) × Leads (Do a r) step rest × StepsTo p t step store w after z
      by (Fell why v) k e = absurd (subst IsOn (sym e) tt)
      by (Went v c) k e =
          let work : v ≡ z = ap (work_in v) e in
          let changes : c ≡ change = ap change_in e in
          (label.Act a, (refl, sym (ap (rest_in Stop) e)), (change, k ∙ (λ i. Went (work i) (changes i)), is))
  next_does (Choose c a b r) w rest after z (begins, (change, e, is)) =
      let k = tested w.fuel c (joined a r) (joined b r) w rest after z change e is in
      (label.Test c, (refl, k.0), k.1)
  next_does (Loop c a r) w rest after z (begins, (change, e, is)) =
      let k = tested w.fuel c (joined a (Loop c a r)) r w rest after z change e is in
      (label.Test c, (refl, k.0), k.1)
  next_does (Section i a r) w rest after z (begins, h) = absurd (true≢false (sym begins))

-- what is needed after a step and refers to an object, that was secured before it, or the step makes the object
pub needed_secures : (s : SchemeView) → IsScheme s → IsTypedProgram s.program → (t : ℕ) (last : List Lock)
    → ((l : Lock) → Has last l → IsNeedable s t l)
    → (text : TextView) → StandsInThread s t text → (store : StoreView) (w : WorkView) → IsPointed s t store w
    → (step : Label) (rest : TextView) → Leads text step rest → (after : StoreView) (z : WorkView)
    → StepsTo s.program t step store w after z
    → (p : PathView) (e : Effect) (o : ObjectName) → NeededIn s t last rest (lock.Path p e)
    → path_datum after z.locals p ≡ Refers o
    → IsSecuredBy s (NeededIn s t last text) store w e o ⊎ IsMade t w.made step p o
needed_secures s scheme typed t last ends text stands store w pointed step rest leads after z does p e o needed value =
    let next = leads_stands s t text step rest leads stands in
    let own = needed_needable s t scheme typed last ends rest next.1 (lock.Path p e) needed in
    let back : (l : Lock) → CarriedBack s t step (lock.Path p e) l → NeededIn s t last text l =
    λ l carried. (needed_step s t last text l).1 (inr (step, rest, leads, inr (lock.Path p e, needed, carried))) in
    elim (secured_by s scheme typed t store w pointed step next.0 after z does p e o own value) [
      | inr made ↦ inr made
      | inl (inl (q, carried, denotes)) ↦ inl (inl (q, back (lock.Path q e) carried, denotes))
      | inl (inr (n, carried, class)) ↦ inl (inr (n, back (lock.Class n (right_for e)) carried, class))
    ]
