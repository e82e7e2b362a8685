-- What is known behind a node is passed on to it.
use Rattle.std.proofs.Common.{◌≡◌, inl, inr, ℕ, ◌<◌, List, [], ◌∷◌, ◌++◌, Option, Some, None, Bool, true, false, set}
use Rattle.std.proofs.Common.{length, length-set, refl, sym, ap, ◌∙◌, ◌↔◌, subst, true≢false}
use Rattle.std.proofs.{lemmas.List.{append-nil, set-get_or, set-set}, lemmas.Option.{slice_get_within}}
use Rattle.std.specs.Prelude.{slice_get, slice_index_or, ◌||◌}
use Rattle.sect_lemmas.specs.Lists.{Has}
use Rattle.sect_lemmas.proofs.{Membership.{Has-left, Has-right, Has-cases}, Places.{one_at}}
use Rattle.sect_graph.specs.{declared.flow.Node.{Node}, Paths.{LeadsTo, IsSuccessor}}
use Rattle.sect_names.specs.{declared.lock.Lock.{Lock}, Schemes.{SchemeView}, Locks.{Covers}}
use Rattle.sect_names.specs.Carrying.{Generated, CarriedBack}
use Rattle.sect_names.proofs.shared.Covering.{covers_refl}
use Rattle.sect_infer.specs.Numbers.{has_number, AreApart}
use Rattle.sect_infer.specs.Numberings.{NumberingView, HasLock, AreNumbers, IsNumbering, IsNumbered, Extends, is_under}
use Rattle.sect_infer.specs.steps.Needs.{need, IsSeed}
use Rattle.sect_infer.specs.steps.Working.{AreLawfulAt, AreNumbered, IsPassedOn, IsToldBy, IsVisit, IsOwnPut}
use Rattle.sect_infer.specs.steps.Working.{IsGeneratedPut}
use Rattle.sect_infer.proofs.{Apart.{apart_join}, Extending.{extends_lock}, Visiting.{here_is, other_is, each_is}}
use Rattle.sect_infer.proofs.shared.{Apart.{number_tells}, Undone.{under_is}}
use Rattle.sect_infer.proofs.shared.Extending.{extends_none, extends_back, extends_numbers}

-- one of the locks covers it then
told_covers : (s : SchemeView) (keys : List Lock) (ns : List ℕ) (l : Lock) → IsToldBy s keys ns l
    → (big : Lock) × HasLock keys ns big × Covers s big l
told_covers s keys ns l told =
    elim told [ inl h ↦ (l, h, covers_refl s l) | inr out ↦ (out.0, out.1, out.2) ]

-- node j got the list of the next one, and behind it the numbers of what it generates
module _ (s : SchemeView) (t : ℕ) (g : List Node) (j next : ℕ) (y : Node) (at : slice_get g j ≡ Some y)
    (a d : NumberingView) (lists : List (List ℕ)) (known : AreNumbered s g a lists)
    (lawful : AreLawfulAt s t a.keys lists) (passed : IsPassedOn t g a.keys lists j next)
    (numbering : IsNumbering s d) (longer : Extends a d) (own : List ℕ) where
  -- those of the next node
  abbrev pub taken : List ℕ
  taken = slice_index_or lists next []

  module _ (its : (n : ℕ) → Has own n → ((l : Lock) × (slice_get d.keys n ≡ Some l) × IsSeed s t g (need j l))
      × (Has taken n → ⊥)) (own_apart : AreApart own)
      (told : (l : Lock) → IsSeed s t g (need j l) → IsToldBy s d.keys (taken ++ own) l) where
    numbers : AreNumbers d.keys (taken ++ own)
    numbers n h = elim (Has-cases taken own n h) [
      | inl k ↦ extends_numbers a d longer taken (known.numbers next) n k
      | inr k ↦ own_within d.keys n (its n k).0.0 (its n k).0.1
    ]
      where
        own_within : (keys : List Lock) (m : ℕ) (l : Lock) → slice_get keys m ≡ Some l → m < length keys
        own_within keys m l is = slice_get_within keys m l is

    module _ (there : j < length lists) (after : List (List ℕ)) (any : Bool) (is : after ≡ set lists j (taken ++ own))
        (none : any ≡ false → taken ++ own ≡ []) (some : any ≡ true → 0 < length (taken ++ own)) where
      here : slice_index_or after j [] ≡ taken ++ own
      here = here_is lists after j (taken ++ own) there is

      each : (P : List ℕ → Type 0) → P (taken ++ own) → ((i : ℕ) → P (slice_index_or lists i [])) → (i : ℕ)
          → P (slice_index_or after i [])
      each = each_is lists after j (taken ++ own) there is

      -- behind none they are all that there is
      behind : taken ++ own ≡ slice_index_or lists j [] ++ (taken ++ own)
      behind = ap (λ l. l ++ (taken ++ own)) (sym passed.none)

      pub passed_visit : IsVisit s t g a lists d after j any
      passed_visit = record {
        numbered = record {
          numbering = numbering;
          count = ap length is ∙ length-set lists j (taken ++ own) ∙ known.count;
          numbers = each (AreNumbers d.keys) numbers
              (λ i. extends_numbers a d longer (slice_index_or lists i []) (known.numbers i));
          apart = each AreApart (apart_join taken own (known.apart next) own_apart (λ n h k. (its n k).1 h))
              known.apart;
        };
        longer = longer;
        more = taken ++ own;
        changed = is ∙ ap (set lists j) behind;
        others = other_is lists after j (taken ++ own) there is;
        here = here ∙ behind;
        none = none;
        some = some;
        only = λ l h. elim (Has-cases taken own h.0 (subst (λ xs. Has xs h.0) here h.1)) [
          | inl k ↦
              let was : HasLock a.keys taken l = extends_back a d longer taken (known.numbers next) l (h.0, k, h.2) in
              inr (inr (
                y,
                next,
                l,
                at,
                subst (λ o. IsSuccessor o next) (sym (passed.goes y at)) refl,
                was,
                ((passed.stay y at) l was s (lawful next l was) l).1 refl,
              ))
          | inr k ↦
              let seed = (its h.0 k).0 in
              inr (inl (subst (λ x. IsSeed s t g (need j x)) (one_at d.keys h.0 seed.0 l seed.1 h.2) seed.2))
        ];
        put = λ l due. elim due [
          | inl seed ↦
              let over = told_covers s d.keys (taken ++ own) l (told l seed) in
              (over.0, subst (λ ns. HasLock d.keys ns over.0) (sym here) over.1, over.2)
          | inr c ↦
              let same = one_at g j c.0 y c.3 at in
              let goes : c.1 ≡ next =
              subst (λ o. IsSuccessor o c.1) (passed.goes y at) (subst (λ z. LeadsTo z c.1) same c.4) in
              let was : HasLock a.keys taken c.2 =
              subst (λ m. HasLock a.keys (slice_index_or lists m []) c.2) goes c.5 in
              let it : l ≡ c.2 = ((passed.stay y at) c.2 was s (lawful next c.2 was) l).0
              (subst (λ z. CarriedBack s t z.label c.2 l) same c.6) in
              let now = extends_lock a d longer taken c.2 was in (
                l,
                subst (λ ns. HasLock d.keys ns l) (sym here)
                    (now.0, Has-left taken own now.0 now.1, now.2 ∙ ap (λ x. Some x) (sym it)),
                covers_refl s l,
              )
        ];
      }

-- the same, where the node has got the list before what it generates is put behind it
module _ (s : SchemeView) (t : ℕ) (g : List Node) (j next : ℕ) (y : Node) (at : slice_get g j ≡ Some y)
    (a d : NumberingView) (lists shared after : List (List ℕ)) (known : AreNumbered s g a lists)
    (lawful : AreLawfulAt s t a.keys lists) (passed : IsPassedOn t g a.keys lists j next) (any : Bool)
    (there : j < length lists) (is : shared ≡ set lists j (slice_index_or lists next []))
    (put : IsGeneratedPut s t g a shared d after j) where
  -- the node has it
  got : slice_index_or shared j [] ≡ slice_index_or lists next []
  got = here_is lists shared j (slice_index_or lists next []) there is

  all_is : after ≡ set lists j (slice_index_or lists next [] ++ put.own)
  all_is = put.changed ∙ ap (λ xs. set shared j (xs ++ put.own)) got
      ∙ ap (λ ls. set ls j (slice_index_or lists next [] ++ put.own)) is
      ∙ set-set lists j (slice_index_or lists next []) (slice_index_or lists next [] ++ put.own)

  list_is : slice_index_or after j [] ≡ slice_index_or lists next [] ++ put.own
  list_is = here_is lists after j (slice_index_or lists next [] ++ put.own) there all_is

  pub passed_own : (any ≡ false → slice_index_or after j [] ≡ [])
      → (any ≡ true → 0 < length (slice_index_or after j [])) → IsVisit s t g a lists d after j any
  passed_own none some =
      passed_visit s t g j next y at a d lists known lawful passed put.numbering put.longer put.own
      (λ n h. (put.its n h, λ k. put.fresh n h (subst (λ xs. Has xs n) (sym got) k))) put.apart
      (λ l seed. subst (λ xs. IsToldBy s d.keys (xs ++ put.own) l) got (put.told l seed)) there after any all_is
      (λ off. sym list_is ∙ none off) (λ on. subst (λ xs. 0 < length xs) list_is (some on))

-- a lock that was numbered is put behind the numbers of node j, or they told of it
module _ (s : SchemeView) (a d : NumberingView) (lists : List (List ℕ)) (j number : ℕ) (l : Lock)
    (numbered : IsNumbered s a d l number) (told : Bool)
    (is : told ≡ has_number (slice_index_or lists j []) number || is_under d.above (slice_index_or lists j []) number)
  where
    -- its own numbers
    abbrev pub had : List ℕ
    had = slice_index_or lists j []

    pub put_new : (after : List (List ℕ)) → after ≡ set lists j (had ++ number ∷ []) → told ≡ false
        → IsOwnPut s a lists d after j l
    put_new after changed free = record {
      numbering = numbered.numbering;
      longer = numbered.longer;
      own = number ∷ [];
      changed = changed;
      its = λ n h. elim h [
        | inl e ↦ (
          ap (slice_get d.keys) (sym e) ∙ numbered.there,
          λ k. untold told (has_number had number) (is_under d.above had number) is free
              ((number_tells had number).1 (subst (Has had) (sym e) k)),
        )
        | inr none ↦ absurd none
      ];
      apart = (λ h. h, tt);
      told = inl (number, Has-right had (number ∷ []) number (inl refl), numbered.there);
    }
      where
        untold : (b x y : Bool) → b ≡ (x || y) → b ≡ false → x ≡ true → ⊥
        untold b true y e f h = true≢false (sym e ∙ f)
        untold b false y e f h = true≢false (sym h)

    pub put_old : told ≡ true → j < length lists → IsOwnPut s a lists d lists j l
    put_old off there = record {
      numbering = numbered.numbering;
      longer = numbered.longer;
      own = [];
      changed = sym (ap (set lists j) (append-nil had) ∙ set-get_or lists j []);
      its = λ n h. absurd h;
      apart = tt;
      told = subst (λ ns. IsToldBy s d.keys ns l) (sym (append-nil had))
          (by told (has_number had number) (is_under d.above had number) is off refl refl);
    }
      where
        by : (b x y : Bool) → b ≡ (x || y) → b ≡ true → x ≡ has_number had number → y ≡ is_under d.above had number
            → IsToldBy s d.keys had l
        by b true y e f g h = inl (number, (number_tells had number).0 (sym g), numbered.there)
        by b false true e f g h = inr (under_is s d numbered.numbering had number l numbered.there (sym h))
        by b false false e f g h = absurd (true≢false (sym f ∙ e))

-- what node j generates is put, where it generates one lock or none
module _ (s : SchemeView) (t : ℕ) (g : List Node) (j : ℕ) (y : Node) (at : slice_get g j ≡ Some y) (o : Option Lock)
    (tells : (l : Lock) → (o ≡ Some l) ↔ Generated s t y.label l) (a : NumberingView) (lists : List (List ℕ)) where
  -- what it generates
  seed_is : (l : Lock) → IsSeed s t g (need j l) ↔ (o ≡ Some l)
  seed_is l = (
    λ h. (tells l).1 (subst (λ z. Generated s t z.label l) (one_at g j h.0 y h.1 at) h.2),
    λ e. (y, at, (tells l).0 e),
  )

  pub generated_none : o ≡ None → IsNumbering s a → j < length lists → IsGeneratedPut s t g a lists a lists j
  generated_none is numbering there = record {
    numbering = numbering;
    longer = extends_none a;
    own = [];
    changed = sym (ap (set lists j) (append-nil (slice_index_or lists j [])) ∙ set-get_or lists j []);
    its = λ n h. absurd h;
    fresh = λ n h. absurd h;
    apart = tt;
    told = λ l seed. let e = (seed_is l).0 seed in absurd cc;
  }

  pub generated_some : (d : NumberingView) (after : List (List ℕ)) (l : Lock) → o ≡ Some l
      → IsOwnPut s a lists d after j l → IsGeneratedPut s t g a lists d after j
  generated_some d after l is put = record {
    numbering = put.numbering;
    longer = put.longer;
    own = put.own;
    changed = put.changed;
    its = λ n h. (l, (put.its n h).0, (seed_is l).1 is);
    fresh = λ n h. (put.its n h).1;
    apart = put.apart;
    told = λ x seed.
        let e = (seed_is x).0 seed in
        let same : l ≡ x = cc in
        subst (IsToldBy s d.keys (slice_index_or lists j [] ++ put.own)) same put.told;
  }
