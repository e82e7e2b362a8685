-- A node takes over what is known behind it, and more is found then.
use Rattle.std.proofs.Common.{◌≡◌, inl, inr, ℕ, ◌<◌, List, [], ◌++◌, Some, Bool, true, false, set, length, length-set}
use Rattle.std.proofs.{Common.{refl, sym, ap, ◌∙◌, subst}, lemmas.Bool.{cases_eq}, lemmas.List.{set-set}}
use Rattle.std.specs.Prelude.{slice_get, slice_index_or}
use Rattle.sect_lemmas.proofs.Places.{one_at}
use Rattle.sect_graph.specs.declared.flow.Node.{Node}
use Rattle.sect_names.specs.{declared.lock.Lock.{Lock}, Schemes.{SchemeView}, Locks.{IsLockOf}, Carrying.{CarriedBack}}
use Rattle.sect_infer.specs.{Numbers.{AreApart}, Numberings.{NumberingView, HasLock, AreNumbers}}
use Rattle.sect_infer.specs.steps.Working.{AreLawfulAt, AreNumbered, IsDue, IsTakenOver, IsVisit}
use Rattle.sect_infer.proofs.Visiting.{here_is, other_is, each_is}

module _ (s : SchemeView) (t : ℕ) (g : List Node) (j next : ℕ) (a : NumberingView) (lists shared : List (List ℕ))
    (known : AreNumbered s g a lists) (lawful : AreLawfulAt s t a.keys lists)
    (from : IsTakenOver t g a.keys lists j next) (there : j < length lists)
    (is : shared ≡ set lists j (slice_index_or lists next [])) where
  -- what is taken over
  abbrev pub taken : List ℕ
  taken = slice_index_or lists next []

  -- the node has it
  got : slice_index_or shared j [] ≡ taken
  got = here_is lists shared j taken there is

  -- so the lists are still such
  pub shared_numbered : AreNumbered s g a shared
  shared_numbered = record {
    numbering = known.numbering;
    count = ap length is ∙ length-set lists j taken ∙ known.count;
    numbers = each_is lists shared j taken there is (AreNumbers a.keys) (known.numbers next) known.numbers;
    apart = each_is lists shared j taken there is AreApart (known.apart next) known.apart;
  }

  pub shared_lawful : AreLawfulAt s t a.keys shared
  shared_lawful i l = each_is lists shared j taken there is (λ ns. HasLock a.keys ns l → IsLockOf s t l) (lawful next l)
      (λ k. lawful k l) i

  module _ (y : Node) (at : slice_get g j ≡ Some y) where
    -- it is due there
    stays_due : (l : Lock) → HasLock a.keys taken l → IsDue s t g a.keys lists j l
    stays_due l was = inr (
      y,
      next,
      l,
      at,
      from.leads y at,
      was,
      ((from.stay y at) l was s (lawful next l was) l).1 refl,
    )

    -- what is due then was due, and the other way round
    due_back : (l : Lock) → IsDue s t g a.keys shared j l → IsDue s t g a.keys lists j l
    due_back l due = elim due [
      | inl seed ↦ inl seed
      | inr c ↦ elim (cases_eq c.1 j) [
        | inl e ↦
            let was : HasLock a.keys taken c.2 =
            subst (λ ns. HasLock a.keys ns c.2) (ap (λ k. slice_index_or shared k []) e ∙ got) c.5 in
            let it : l ≡ c.2 = ((from.stay y at) c.2 was s (lawful next c.2 was) l).0
            (subst (λ z. CarriedBack s t z.label c.2 l) (one_at g j c.0 y c.3 at) c.6) in
            stays_due l (was.0, was.1, was.2 ∙ ap (λ x. Some x) (sym it))
        | inr n ↦ inr (
          c.0,
          c.1,
          c.2,
          c.3,
          c.4,
          subst (λ ns. HasLock a.keys ns c.2) (other_is lists shared j taken there is c.1 n) c.5,
          c.6,
        )
      ]
    ]

    due_on : (l : Lock) → IsDue s t g a.keys lists j l → IsDue s t g a.keys shared j l
    due_on l due = elim due [
      | inl seed ↦ inl seed
      | inr c ↦ elim (cases_eq c.1 j) [
        | inl e ↦ absurd (subst (λ ns. HasLock a.keys ns c.2) (ap (λ k. slice_index_or lists k []) e ∙ from.none) c.5).1
        | inr n ↦ inr (
          c.0,
          c.1,
          c.2,
          c.3,
          c.4,
          subst (λ ns. HasLock a.keys ns c.2) (sym (other_is lists shared j taken there is c.1 n)) c.5,
          c.6,
        )
      ]
    ]

    module _ (d : NumberingView) (after : List (List ℕ)) (any more : Bool) (v : IsVisit s t g a shared d after j any)
      where
        list_is : slice_index_or after j [] ≡ taken ++ v.more
        list_is = v.here ∙ ap (λ xs. xs ++ v.more) got

        all_is : after ≡ set lists j (taken ++ v.more)
        all_is = v.changed ∙ ap (λ xs. set shared j (xs ++ v.more)) got ∙ ap (λ ls. set ls j (taken ++ v.more)) is
            ∙ set-set lists j taken (taken ++ v.more)

        -- behind none they are all that there is
        behind : taken ++ v.more ≡ slice_index_or lists j [] ++ (taken ++ v.more)
        behind = ap (λ l. l ++ (taken ++ v.more)) (sym from.none)

        -- so the node has been gone over
        pub taken_visit : (more ≡ false → slice_index_or after j [] ≡ [])
            → (more ≡ true → 0 < length (slice_index_or after j [])) → IsVisit s t g a lists d after j more
        taken_visit none some = record {
          numbered = v.numbered;
          longer = v.longer;
          more = taken ++ v.more;
          changed = all_is ∙ ap (set lists j) behind;
          others = λ i n. v.others i n ∙ other_is lists shared j taken there is i n;
          here = list_is ∙ behind;
          none = λ off. sym list_is ∙ none off;
          some = λ on. subst (λ xs. 0 < length xs) list_is (some on);
          only = λ l h. elim (v.only l h) [
            | inl was ↦ inr (stays_due l (subst (λ ns. HasLock a.keys ns l) got was))
            | inr due ↦ inr (due_back l due)
          ];
          put = λ l due. v.put l (due_on l due);
        }
