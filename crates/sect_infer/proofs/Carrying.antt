-- Locks that are found one after another.
use Rattle.std.proofs.Common.{◌≡◌, ◌↔◌, ◌⊎◌, inl, inr, ℕ, ◌+◌, ◌<◌, ◌≤◌, List, [], ◌∷◌, ◌++◌, Option, Some, None}
use Rattle.std.proofs.Common.{length, get_or, take}
use Rattle.std.proofs.{Common.{refl, sym, ap, ◌∙◌, subst, append_assoc, arith}, lemmas.List.{append-nil, take_all}}
use Rattle.std.proofs.lemmas.{Bool.{cases_lt}, Option.{slice_get_within}}
use Rattle.std.specs.Prelude.{slice_get}
use Rattle.sect_lemmas.specs.Lists.{Has}
use Rattle.sect_lemmas.proofs.{Membership.{Has-left, Has-get_or}, Places.{at_of, one_at}, Making.{last_of, so_far}}
use Rattle.sect_types.specs.declared.expansion.action.Label.{Label}
use Rattle.sect_points.specs.{Paths.{PathView}, Partitions.{HasClass}}
use Rattle.sect_names.specs.{declared.lock.Effect.{Effect}, declared.lock.Lock.{Lock}, Schemes.{SchemeView}}
use Rattle.sect_names.specs.{Locks.{depth}, Carrying.{CarriedBack, LockOn, right_for}}
use Rattle.sect_infer.specs.Numbers.{with_number, with_numbers}
use Rattle.sect_infer.specs.Numberings.{NumberingView, HasLock, AreNumbers, IsOfClass, IsNumbered, IsFinding, Finds}
use Rattle.sect_infer.specs.steps.Putting.{AreOn}
use Rattle.sect_infer.proofs.shared.Apart.{with_has}
use Rattle.sect_infer.proofs.shared.Extending.{extends_none, extends_then, extends_at, extends_back, extends_numbers}
use Rattle.sect_names.specs.declared.lock.Lock.TheVariants as lock
use Rattle.sect_infer.proofs.{Apart.{with_apart, with_behind}, Extending.{extends_lock, numbered_there}}

module _ (s : SchemeView) where
  -- nothing is found
  pub finds_none : (a : NumberingView) (ns : List ℕ) (P : Lock → Type 0) → IsFinding s a ns → ((l : Lock) → P l → ⊥)
      → Finds s a ns a ns P
  finds_none a ns P f nothing = record {
    finding = f;
    longer = extends_none a;
    behind = ([], sym (append-nil ns));
    each = λ l p. absurd (nothing l p);
    only = λ l h. inl h;
  }

  -- the same, said of another property that holds of the same locks
  pub finds_as : (a b : NumberingView) (ns ms : List ℕ) (P Q : Lock → Type 0) → ((l : Lock) → Q l ↔ P l)
      → Finds s a ns b ms P → Finds s a ns b ms Q
  finds_as a b ns ms P Q same f = record {
    finding = f.finding;
    longer = f.longer;
    behind = f.behind;
    each = λ l q. f.each l ((same l).0 q);
    only = λ l h. elim (f.only l h) [ inl k ↦ inl k | inr p ↦ inr ((same l).1 p) ];
  }

  -- first some and then others
  pub finds_then : (a b c : NumberingView) (ns ms os : List ℕ) (P Q : Lock → Type 0) → Finds s a ns b ms P
      → Finds s b ms c os Q → Finds s a ns c os (λ l. P l ⊎ Q l)
  finds_then a b c ns ms os P Q f g = record {
    finding = g.finding;
    longer = extends_then a b c f.longer g.longer;
    behind = (
      f.behind.0 ++ g.behind.0,
      g.behind.1 ∙ ap (λ l. l ++ g.behind.0) f.behind.1
          ∙ append_assoc ns f.behind.0 g.behind.0,
    );
    each = λ l h. elim h [ inl p ↦ kept l (f.each l p) | inr q ↦ g.each l q ];
    only = λ l h. elim (g.only l h) [
      | inl k ↦ elim (f.only l k) [ inl o ↦ inl o | inr p ↦ inr (inl p) ]
      | inr q ↦ inr (inr q)
    ];
  }
    where
      kept : (l : Lock) → HasLock b.keys ms l → HasLock c.keys os l
      kept l h =
          let k = extends_lock b c g.longer ms l h in
          (k.0, subst (λ xs. Has xs k.0) (sym g.behind.1) (Has-left ms g.behind.0 k.0 k.1), k.2)

  -- one lock
  pub finds_one : (a b : NumberingView) (ns : List ℕ) (l : Lock) (n : ℕ) → IsFinding s a ns → IsNumbered s a b l n
      → Finds s a ns b (with_number ns n) (λ x. x ≡ l)
  finds_one a b ns l n f k = record {
    finding = record {
      numbering = k.numbering;
      numbers = λ m h. elim ((with_has ns n m).0 h) [
        | inl old ↦ extends_numbers a b k.longer ns f.numbers m old
        | inr e ↦ (let w = slice_get_within b.keys n l k.there in omega (arith, w, e))
      ];
      apart = with_apart ns n f.apart;
    };
    longer = k.longer;
    behind = with_behind ns n;
    each = λ x e. (n, (with_has ns n n).1 (inr refl), k.there ∙ ap (λ y. Some y) (sym e));
    only = λ x h. elim ((with_has ns n h.0).0 h.1) [
      | inl old ↦ inl (let r = extends_back a b k.longer ns f.numbers x (h.0, old, h.2) in r)
      | inr e ↦ inr (one_at b.keys n x l (subst (λ m. slice_get b.keys m ≡ Some x) e h.2) k.there)
    ];
  }

  -- the locks with these numbers
  pub finds_numbers : (a : NumberingView) (ns ms : List ℕ) → IsFinding s a ns → AreNumbers a.keys ms
      → Finds s a ns a (with_numbers ns ms) (HasLock a.keys ms)
  finds_numbers a ns [] f there = finds_none a ns (HasLock a.keys []) f (λ l h. h.1)
  finds_numbers a ns (m ∷ ms) f there =
      let l = at_of a.keys m (there m (inl refl)) in
      let more = with_number ns m in
      let one = finds_one a a ns l.0 m f (numbered_there s a l.0 m f.numbering l.1) in
      finds_as a a ns (with_numbers more ms) (λ x. (x ≡ l.0) ⊎ HasLock a.keys ms x) (HasLock a.keys (m ∷ ms))
      (λ x. (
        λ h. elim h.1 [
          | inl e ↦ inl (one_at a.keys m x l.0 (subst (λ k. slice_get a.keys k ≡ Some x) (sym e) h.2) l.1)
          | inr k ↦ inr (h.0, k, h.2)
        ],
        λ h. elim h [ inl e ↦ (m, inl refl, l.1 ∙ ap (λ y. Some y) (sym e)) | inr k ↦ (k.0, inr k.1, k.2) ],
      ))
      (finds_then a a a ns more (with_numbers more ms) (λ x. x ≡ l.0) (HasLock a.keys ms) one
      (finds_numbers a more ms one.finding (λ n h. there n (inr h))))

  -- the lock on a path is the one that was found for it
  pub lock_on_is : (e : Effect) (p : PathView) (o : Option ℕ) → ((m : ℕ) → (o ≡ Some m) ↔ HasClass s.classes p m)
      → (n : ℕ) → o ≡ Some n → (x : Lock) → (depth p ≤ s.most → x ≡ lock.Path p e)
      → (s.most < depth p → x ≡ lock.Class n (right_for e)) → (l : Lock) → LockOn s e p l ↔ (l ≡ x)
  lock_on_is e p o tells n is x short long l = (
    λ h. elim h.2 [
      | inl a ↦ a.1 ∙ sym (short a.0)
      | inr b ↦ (let t = (tells h.0).1 h.1 in let own : n ≡ h.0 = cc in
          b.1 ∙ sym (long b.0 ∙ ap (λ m. lock.Class m (right_for e)) own))
    ],
    λ same. (
      n,
      (tells n).0 is,
      elim (cases_lt s.most (depth p))
          [ inl deep ↦ inr (deep, same ∙ long deep) | inr flat ↦ inl (flat, same ∙ short flat) ],
    ),
  )

  -- and it is of the class
  pub lock_of_class : (e : Effect) (p : PathView) (n : ℕ) → ((m : ℕ) → (Some n ≡ Some m) ↔ HasClass s.classes p m)
      → (x : Lock) → (depth p ≤ s.most → x ≡ lock.Path p e) → (s.most < depth p → x ≡ lock.Class n (right_for e))
      → IsOfClass s.classes x n
  lock_of_class e p n tells x short long = elim (cases_lt s.most (depth p)) [
    | inl deep ↦ subst (λ l. IsOfClass s.classes l n) (sym (long deep)) tt
    | inr flat ↦ subst (λ l. IsOfClass s.classes l n) (sym (short flat)) tells
  ]

  -- a path without a class has no lock on it
  pub no_lock_on : (e : Effect) (p : PathView) (o : Option ℕ) → ((m : ℕ) → (o ≡ Some m) ↔ HasClass s.classes p m)
      → o ≡ None → (l : Lock) → LockOn s e p l → ⊥
  no_lock_on e p o tells is l h = let t = (tells h.0).1 h.1 in absurd cc

  -- the locks on one path more
  pub finds_on_more : (e : Effect) (a b c : NumberingView) (ns ms os : List ℕ) (q : PathView) (paths : List PathView)
      → Finds s a ns b ms (AreOn s e paths) → Finds s b ms c os (LockOn s e q)
      → Finds s a ns c os (AreOn s e (q ∷ paths))
  finds_on_more e a b c ns ms os q paths f g =
      finds_as a c ns os (λ l. AreOn s e paths l ⊎ LockOn s e q l) (AreOn s e (q ∷ paths))
      (λ l. (
        λ h. elim h.1 [ inl same ↦ inr (subst (λ p. LockOn s e p l) (sym same) h.2) | inr old ↦ inl (h.0, old, h.2) ],
        λ h. elim h [ inl k ↦ (k.0, inr k.1, k.2) | inr k ↦ (q, inl refl, k) ],
      ))
      (finds_then a b c ns ms os (AreOn s e paths) (LockOn s e q) f g)

  module _ (t : ℕ) (label : Label) where
    -- what is carried back of locks with these numbers
    abbrev pub CarriedOf : List Lock → List ℕ → Lock → Type 0
    CarriedOf keys numbers r = (l : Lock) × HasLock keys numbers l × CarriedBack s t label l r

    -- where each stays, they are carried back to themselves
    pub all_carried : (keys : List Lock) (numbers : List ℕ)
        → ((k : Lock) → HasLock keys numbers k → (l : Lock) → CarriedBack s t label k l ↔ (l ≡ k))
        → (l : Lock) → CarriedOf keys numbers l ↔ HasLock keys numbers l
    all_carried keys numbers stay l = (
      λ h. subst (HasLock keys numbers) (sym ((stay h.0 h.1 l).0 h.2)) h.1,
      λ h. (l, h, (stay l h l).1 refl),
    )

    -- the next number, and all of them
    pub carried_next : (a b c : NumberingView) (ns ms os numbers : List ℕ) (i n : ℕ) → i < length numbers
        → n ≡ get_or numbers i n → AreNumbers a.keys numbers
        → Finds s a ns b ms (CarriedOf a.keys (take i numbers))
        → ((l : Lock) → slice_get b.keys n ≡ Some l → Finds s b ms c os (CarriedBack s t label l))
        → Finds s a ns c os (CarriedOf a.keys (take (i + 1) numbers))
    carried_next a b c ns ms os numbers i n within is there f g =
        let l = at_of a.keys n (there n (subst (Has numbers) (sym is) (Has-get_or numbers i n within))) in
        finds_as a c ns os (λ r. CarriedOf a.keys (take i numbers) r ⊎ CarriedBack s t label l.0 r)
        (CarriedOf a.keys (take (i + 1) numbers))
        (λ r. (
          λ h. elim (last_of numbers i n h.1.0 within is h.1.1) [
            | inl old ↦ inl (h.0, (h.1.0, old, h.1.2), h.2)
            | inr e ↦ inr (subst (λ k. CarriedBack s t label k r)
                (one_at a.keys n h.0 l.0 (subst (λ m. slice_get a.keys m ≡ Some h.0) e h.1.2) l.1) h.2)
          ],
          λ h. elim h [
            | inl k ↦ (k.0, (k.1.0, so_far numbers i n k.1.0 within is (inl k.1.1), k.1.2), k.2)
            | inr k ↦ (l.0, (n, so_far numbers i n n within is (inr refl), l.1), k)
          ],
        ))
        (finds_then a b c ns ms os (CarriedOf a.keys (take i numbers)) (CarriedBack s t label l.0) f
        (g l.0 (extends_at a b f.longer n l.0 l.1)))

    pub carried_done : (a b : NumberingView) (ns ms numbers : List ℕ) (i : ℕ) → length numbers ≤ i
        → Finds s a ns b ms (CarriedOf a.keys (take i numbers)) → Finds s a ns b ms (CarriedOf a.keys numbers)
    carried_done a b ns ms numbers i past f =
        subst (λ xs. Finds s a ns b ms (CarriedOf a.keys xs)) (take_all i numbers past) f
