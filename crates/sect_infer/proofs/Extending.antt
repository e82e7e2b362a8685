-- Numberings that are extended.
use Rattle.std.proofs.Common.{◌≡◌, ◌↔◌, ◌⊎◌, inl, inr, ℕ, zero, suc, ◌+◌, ◌<◌, List, [], ◌∷◌, ◌++◌, Option, Some, None}
use Rattle.std.proofs.{Common.{Bool, true, false, length, refl, sym, ap, ◌∙◌, subst, length-append, arith}}
use Rattle.std.proofs.lemmas.Bool.{cases_eq}
use Rattle.std.proofs.lemmas.List.{append-nil, get_or-set_same, get_or-set_other, length-set}
use Rattle.std.proofs.lemmas.Option.{slice_get_within}
use Rattle.std.specs.Prelude.{slice_get, slice_index_or, IsTrue, IsFalse, not, if◌then◌else◌}
use Rattle.sect_lemmas.specs.Lists.{Has}
use Rattle.sect_lemmas.proofs.{Places.{pushed_at}, Options.{some_injective}, Elements.{slice_get-left}}
use Rattle.sect_lemmas.proofs.Membership.{Has-left, Has-right, Has-cases, Has-slice_get}
use Rattle.sect_points.specs.Paths.{PathView}
use Rattle.sect_names.specs.{declared.lock.Right.{Right}, declared.lock.Effect.{Effect}, declared.lock.Lock.{Lock}}
use Rattle.sect_names.specs.{Schemes.{SchemeView}, Locks.{Grants, Includes}, Climbing.{IsAbove, AreCoverers}}
use Rattle.sect_names.specs.Above.{over_class, over_path}
use Rattle.sect_names.proofs.shared.Climbing.{below_write, class_coverers, all_coverers, coverers_of_path}
use Rattle.sect_names.proofs.shared.Telling.{lock_cases}
use Rattle.sect_infer.specs.Numbers.{AreApart}
use Rattle.sect_infer.specs.Numberings.{NumberingView, HasLock, IsToWrite, ClassIs, AreClassed, AreAbove, IsNumbering}
use Rattle.sect_infer.specs.Numberings.{Extends, IsNumbered}
use Rattle.sect_infer.specs.steps.Putting.{IsPut, IsSame, IsTold, IsToldBelow}
use Rattle.sect_infer.specs.steps.Putting.{IsBroad, AreThere, over_writes, over_reads}
use Rattle.sect_infer.proofs.shared.Apart.{apart_push, apart_one}
use Rattle.sect_infer.proofs.shared.Extending.{extends_none, extends_at}
use Rattle.sect_names.specs.declared.lock.Effect.TheVariants as effect
use Rattle.sect_names.specs.declared.lock.Right.TheVariants as right
use Rattle.sect_names.specs.declared.lock.Lock.TheVariants as lock

-- what stands behind a list, and before that
pub get_last : {X : Type 0} (xs : List X) (x d : X) (i : ℕ) → i ≡ length xs → slice_index_or (xs ++ x ∷ []) i d ≡ x
get_last [] x d zero e = refl
get_last [] x d (suc i) e = absurd (omega (arith, e))
get_last (z ∷ xs) x d zero e = absurd (omega (arith, e))
get_last (z ∷ xs) x d (suc i) e = get_last xs x d i (omega (arith, e))

pub get_before : {X : Type 0} (xs : List X) (x d : X) (i : ℕ) → i < length xs
    → slice_index_or (xs ++ x ∷ []) i d ≡ slice_index_or xs i d
get_before [] x d i within = absurd (omega (arith, within))
get_before (z ∷ xs) x d zero within = refl
get_before (z ∷ xs) x d (suc i) within = get_before xs x d i (omega (arith, within))

-- what is added was absent
pub added_is : (added there b : Bool) → added ≡ not there → added ≡ b → there ≡ not b
added_is added true b is e = sym (ap not (sym e ∙ is))
added_is added false b is e = sym (ap not (sym e ∙ is))

-- what holds of the locks holds whether one more was there or comes behind the others
pub still_added : (P : List Lock → Type 0) (keys now new : List Lock) (l : Lock) (there : Bool) → keys ≡ now
    → new ≡ (if there then keys else keys ++ l ∷ []) → P now → P (now ++ l ∷ []) → P new
still_added P keys now new l true was is here behind = subst P (sym (is ∙ was)) here
still_added P keys now new l false was is here behind = subst P (sym (is ∙ ap (λ ks. ks ++ l ∷ []) was)) behind

-- one that is no lock to write a path adds none
pub writes_other : (keys : List Lock) (l : Lock) → ((p : PathView) → Has keys (lock.Path p effect.Write) → ⊥)
    → (IsToWrite l → ⊥) → (p : PathView) → Has (keys ++ l ∷ []) (lock.Path p effect.Write) → ⊥
writes_other keys l none other p h = elim (Has-cases keys (l ∷ []) (lock.Path p effect.Write) h) [
  | inl k ↦ none p k
  | inr last ↦ elim last [ inl e ↦ other (p, e) | inr k ↦ k ]
]

-- and one that isn't broad adds no broad one
pub broad_other : (keys : List Lock) (l : Lock) → ((k : Lock) → IsBroad k → Has keys k → ⊥) → (IsBroad l → ⊥)
    → (k : Lock) → IsBroad k → Has (keys ++ l ∷ []) k → ⊥
broad_other keys l none other k broad h = elim (Has-cases keys (l ∷ []) k h) [
  | inl there ↦ none k broad there
  | inr last ↦ elim last [ inl e ↦ other (subst IsBroad (sym e) broad) | inr n ↦ n ]
]

pub extends_lock : (old new : NumberingView) → Extends old new → (ns : List ℕ) (l : Lock) → HasLock old.keys ns l
    → HasLock new.keys ns l
extends_lock old new e ns l h = (h.0, h.1, extends_at old new e h.0 l h.2)

-- the number of one lock more
has_more : (keys : List Lock) (ns : List ℕ) (n : ℕ) (l : Lock) → HasLock keys ns l → HasLock keys (ns ++ n ∷ []) l
has_more keys ns n l h = (h.0, Has-left ns (n ∷ []) h.0 h.1, h.2)

-- and one lock more
has_longer : (keys more : List Lock) (ns : List ℕ) (l : Lock) → HasLock keys ns l → HasLock (keys ++ more) ns l
has_longer keys more ns l h = (h.0, h.1, slice_get-left keys more h.0 l h.2)

-- none of the locks is there, and so none is missing
pub there_none : (keys locks : List Lock) → ((l : Lock) → Has locks l → Has keys l → ⊥) → AreThere keys locks []
there_none keys locks none = record { only = λ n h. absurd h; each = λ l h. inr (none l h) }

-- one lock more, which is there
pub there_found : (keys locks : List Lock) (ns : List ℕ) (l : Lock) (n : ℕ) → AreThere keys locks ns
    → slice_get keys n ≡ Some l → AreThere keys (locks ++ l ∷ []) (ns ++ n ∷ [])
there_found keys locks ns l n are at = record {
  only = λ m h. elim (Has-cases ns (n ∷ []) m h) [
    | inl old ↦ (let o = are.only m old in (o.0, Has-left locks (l ∷ []) o.0 o.1, o.2))
    | inr last ↦ elim last [
      | inl e ↦ (l, Has-right locks (l ∷ []) l (inl refl), ap (slice_get keys) (sym e) ∙ at)
      | inr none ↦ absurd none
    ]
  ];
  each = λ k h. elim (Has-cases locks (l ∷ []) k h) [
    | inl old ↦ elim (are.each k old) [ inl one ↦ inl (has_more keys ns n k one) | inr absent ↦ inr absent ]
    | inr last ↦ elim last [
      | inl e ↦ inl (n, Has-right ns (n ∷ []) n (inl refl), at ∙ ap (λ x. Some x) e)
      | inr none ↦ absurd none
    ]
  ];
}

-- or isn't
pub there_absent : (keys locks : List Lock) (ns : List ℕ) (l : Lock) → AreThere keys locks ns → (Has keys l → ⊥)
    → AreThere keys (locks ++ l ∷ []) ns
there_absent keys locks ns l are absent = record {
  only = λ m h. (let o = are.only m h in (o.0, Has-left locks (l ∷ []) o.0 o.1, o.2));
  each = λ k h. elim (Has-cases locks (l ∷ []) k h) [
    | inl old ↦ are.each k old
    | inr last ↦ elim last [ inl e ↦ inr (λ has. absent (subst (Has keys) (sym e) has)) | inr none ↦ absurd none ]
  ];
}

-- where no broad lock is there, none of those above a path is
pub no_writes_over : (keys : List Lock) (o : Option ℕ) → ((l : Lock) → IsBroad l → Has keys l → ⊥)
    → AreThere keys (over_writes o) []
no_writes_over keys None none = there_none keys (lock.All ∷ []) (λ l h. elim h [
  | inl e ↦ none l (subst IsBroad e tt)
  | inr n ↦ absurd n
])
no_writes_over keys (Some c) none = there_none keys (lock.All ∷ lock.Class c right.Write ∷ []) (λ l h. elim h [
  | inl e ↦ none l (subst IsBroad e tt)
  | inr k ↦ elim k [ inl e ↦ none l (subst IsBroad e tt) | inr n ↦ absurd n ]
])

-- a lock is there, at some place, or isn't
find_or : (keys : List Lock) (l : Lock) → ((n : ℕ) × (slice_get keys n ≡ Some l)) ⊎ (Has keys l → ⊥)
find_or [] l = inr (λ h. h)
find_or (k ∷ keys) l = elim (lock_cases k l) [
  | inl e ↦ inl (0, ap (λ x. Some x) e)
  | inr other ↦ elim (find_or keys l) [
    | inl at ↦ inl (suc at.0, at.1)
    | inr absent ↦ inr (λ h. elim h [ inl e ↦ other e | inr there ↦ absent there ])
  ]
]

module _ (s : SchemeView) where
  -- the numbers of the coverers of a lock that are there are those of the locks above it
  above_there : (keys : List Lock) (l : Lock) (coverers : List Lock) (ns : List ℕ) → AreCoverers s l coverers
      → AreThere keys coverers ns → AreAbove s keys l ns
  above_there keys l coverers ns are there = record {
    cover = λ n h. (let c = there.only n h in (c.0, c.2, (are.all c.0).0 c.1));
    all = λ big h. there.each big ((are.all big).1 h);
  }

  pub write_above : (keys : List Lock) (p : PathView) (o : Option ℕ) (ns : List ℕ)
      → ClassIs s (lock.Path p effect.Write) o → AreThere keys (over_writes o) ns
      → AreAbove s keys (lock.Path p effect.Write) ns
  write_above keys p None ns told there = above_there keys (lock.Path p effect.Write) (over_path None p effect.Write) ns
      (coverers_of_path s p None told effect.Write) there
  write_above keys p (Some c) ns told there = above_there keys (lock.Path p effect.Write)
      (over_path (Some c) p effect.Write) ns (coverers_of_path s p (Some c) told effect.Write) there

  pub read_above : (keys : List Lock) (p : PathView) (o : Option ℕ) (ns : List ℕ)
      → ClassIs s (lock.Path p effect.Read) o
      → AreThere keys (over_reads o ++ lock.Path p effect.Write ∷ []) ns → AreAbove s keys (lock.Path p effect.Read) ns
  read_above keys p None ns told there = above_there keys (lock.Path p effect.Read) (over_path None p effect.Read) ns
      (coverers_of_path s p None told effect.Read) there
  read_above keys p (Some c) ns told there = above_there keys (lock.Path p effect.Read)
      (over_path (Some c) p effect.Read) ns (coverers_of_path s p (Some c) told effect.Read) there

  -- what is above a lock stays so where one more is there that isn't above it
  above_more : (keys : List Lock) (x l : Lock) (ns : List ℕ) → (IsAbove s x l → ⊥) → AreAbove s keys l ns
      → AreAbove s (keys ++ x ∷ []) l ns
  above_more keys x l ns free a = record {
    cover = λ n h. (let c = a.cover n h in (c.0, slice_get-left keys (x ∷ []) n c.0 c.1, c.2));
    all = λ big h. elim (a.all big h) [
      | inl one ↦ inl (has_longer keys (x ∷ []) ns big one)
      | inr absent ↦ inr (λ there. elim (Has-cases keys (x ∷ []) big there) [
        | inl k ↦ absent k
        | inr last ↦ elim last [ inl e ↦ free (subst (λ b. IsAbove s b l) (sym e) h) | inr none ↦ none ]
      ])
    ];
  }

  -- and where it is above it, and its number is put behind
  above_told : (keys : List Lock) (x l : Lock) (ns : List ℕ) (n : ℕ) → slice_get (keys ++ x ∷ []) n ≡ Some x
      → IsAbove s x l → AreAbove s keys l ns → AreAbove s (keys ++ x ∷ []) l (ns ++ n ∷ [])
  above_told keys x l ns n at over a = record {
    cover = λ m h. elim (Has-cases ns (n ∷ []) m h) [
      | inl one ↦ (let c = a.cover m one in (c.0, slice_get-left keys (x ∷ []) m c.0 c.1, c.2))
      | inr last ↦ elim last [
        | inl e ↦ (x, ap (slice_get (keys ++ x ∷ [])) (sym e) ∙ at, over)
        | inr none ↦ absurd none
      ]
    ];
    all = λ big h. elim (a.all big h) [
      | inl one ↦ inl (has_more (keys ++ x ∷ []) ns n big (has_longer keys (x ∷ []) ns big one))
      | inr absent ↦ elim (lock_cases x big) [
        | inl e ↦ inl (n, Has-right ns (n ∷ []) n (inl refl), at ∙ ap (λ l. Some l) e)
        | inr other ↦ inr (λ there. elim (Has-cases keys (x ∷ []) big there) [
          | inl k ↦ absent k
          | inr last ↦ elim last [ inl e ↦ other e | inr none ↦ none ]
        ])
      ]
    ];
  }

  -- where none of the locks that are there is below another, there is none to tell
  pub none_below : (t : NumberingView) (x : Lock) (m : ℕ) → ((l : Lock) → Has t.keys l → IsAbove s x l → ⊥)
      → IsToldBelow s t t x m
  none_below t x m none = record {
    keys = refl;
    classes = refl;
    count = refl;
    each = λ n l at. inr (none l (Has-slice_get t.keys n l at), refl);
  }

  -- the lock to read a path is the only one to be told of that to write it
  pub read_below : (t new : NumberingView) (p : PathView) (r m : ℕ) → AreApart t.keys → length t.above ≡ length t.keys
      → slice_get t.keys r ≡ Some (lock.Path p effect.Read) → IsTold t new r m
      → IsToldBelow s t new (lock.Path p effect.Write) m
  read_below t new p r m apart count at_read told = record {
    keys = told.keys;
    classes = told.classes;
    count = ap length told.above ∙ length-set t.above r (slice_index_or t.above r [] ++ m ∷ []);
    each = λ n l at. elim (cases_eq n r) [
      | inl same ↦
          let one : l ≡ lock.Path p effect.Read =
          some_injective l (lock.Path p effect.Read) (sym at ∙ ap (slice_get t.keys) same ∙ at_read) in
          let within = slice_get_within t.keys r (lock.Path p effect.Read) at_read in
          inl (
            subst (IsAbove s (lock.Path p effect.Write)) (sym one) ((refl, tt), λ e. cc),
            ap (λ i. slice_index_or new.above i []) same ∙ ap (λ ns. slice_index_or ns r []) told.above
                ∙ get_or-set_same t.above r (slice_index_or t.above r [] ++ m ∷ []) [] (omega (arith, within, count))
                ∙ ap (λ i. slice_index_or t.above i [] ++ m ∷ []) (sym same),
          )
      | inr other ↦ inr (
        λ h. other (apart_one t.keys n r (lock.Path p effect.Read) apart
            (at ∙ ap (λ k. Some k) (below_write s p l h)) at_read),
        ap (λ ns. slice_index_or ns n []) told.above
            ∙ get_or-set_other t.above r n (slice_index_or t.above r [] ++ m ∷ []) [] other,
      )
    ];
  }

  -- where that isn't there, none is below that to write it
  pub write_alone : (t : NumberingView) (p : PathView) (m : ℕ) → (Has t.keys (lock.Path p effect.Read) → ⊥)
      → IsToldBelow s t t (lock.Path p effect.Write) m
  write_alone t p m absent =
      none_below t (lock.Path p effect.Write) m (λ l h over. absent (subst (Has t.keys) (below_write s p l over) h))

  -- nor is any below one to read a path, or one to make objects of a class
  pub read_over : (p : PathView) (l : Lock) → IsAbove s (lock.Path p effect.Read) l → ⊥
  read_over p lock.All h = h.0
  read_over p (lock.Class c r) h = h.0
  read_over p (lock.Path q effect.Read) h = h.1 (ap (λ o. lock.Path o effect.Read) h.0.0)
  read_over p (lock.Path q effect.Write) h = h.0.1

  -- which locks on a class another on a class stands above
  pub class_over : (c d : ℕ) (r q : Right)
      → ((d ≡ c) × (q ≡ r → ⊥) × Includes r q) ↔ IsAbove s (lock.Class c r) (lock.Class d q)
  class_over c d r q = (
    λ h. ((sym h.0, h.2), λ e. (let same : r ≡ q = cc in h.1 (sym same))),
    λ h. (sym h.0.0, λ e. h.1 (ap (λ n. lock.Class n r) h.0.0 ∙ ap (λ x. lock.Class d x) (sym e)), h.0.1),
  )

  -- and which locks on a path
  path_over_at : (c : ℕ) (r : Right) (p : PathView) (e : Effect) (o : Option ℕ) → ClassIs s (lock.Path p e) o
      → ((o ≡ Some c) × Grants r e) ↔ IsAbove s (lock.Class c r) (lock.Path p e)
  path_over_at c r p e o told = (λ h. (((told c).0 h.0, h.1), λ f. cc), λ h. ((told c).1 h.0.0, h.0.1))

  pub path_over : (c : ℕ) (r : Right) (p : PathView) (e : Effect) (o : Option ℕ) (l : Lock) → l ≡ lock.Path p e
      → ClassIs s l o → ((o ≡ Some c) × Grants r e) ↔ IsAbove s (lock.Class c r) l
  path_over c r p e o l is told = subst (λ k. ((o ≡ Some c) × Grants r e) ↔ IsAbove s (lock.Class c r) k) (sym is)
      (path_over_at c r p e o (subst (λ k. ClassIs s k o) is told))

  pub make_over : (c : ℕ) (l : Lock) → IsAbove s (lock.Class c right.Make) l → ⊥
  make_over c lock.All h = h.0
  make_over c (lock.Class d right.Read) h = h.0.1
  make_over c (lock.Class d right.Write) h = h.0.1
  make_over c (lock.Class d right.Make) h = h.1 (ap (λ n. lock.Class n right.Make) h.0.0)
  make_over c (lock.Path p e) h = h.0.1

  -- as many lists of numbers as locks
  pub count_put : (t mid : NumberingView) (x : Lock) (o : Option ℕ) (ns : List ℕ) → IsNumbering s t
      → IsPut t mid x o ns → length mid.above ≡ length mid.keys
  count_put t mid x o ns is put = ap length put.above ∙ length-append t.above (ns ∷ []) ∙ ap (λ i. i + 1) is.count
      ∙ sym (ap length put.keys ∙ length-append t.keys (x ∷ []))

  pub counted_put : (t mid : NumberingView) (x : Lock) (o : Option ℕ) (ns : List ℕ) → IsNumbering s t
      → IsPut t mid x o ns → length mid.classes ≡ length mid.keys
  counted_put t mid x o ns is put = ap length put.classes ∙ length-append t.classes (o ∷ [])
      ∙ ap (λ i. i + 1) is.counted ∙ sym (ap length put.keys ∙ length-append t.keys (x ∷ []))

  -- and the class of each is told
  pub classed_put : (t mid : NumberingView) (x : Lock) (o : Option ℕ) (ns : List ℕ) → IsNumbering s t
      → IsPut t mid x o ns → ClassIs s x o → AreClassed s mid
  classed_put t mid x o ns is put class n l there =
      subst (λ cs. ClassIs s l (slice_index_or cs n None)) (sym put.classes)
      (elim (pushed_at t.keys x l n (subst (λ ks. slice_get ks n ≡ Some l) put.keys there)) [
        | inl e ↦
            subst (ClassIs s l) (sym (get_last t.classes o None n (e.0 ∙ sym is.counted)))
            (subst (λ k. ClassIs s k o) e.1 class)
        | inr old ↦
            let within = slice_get_within t.keys n l old in
            subst (ClassIs s l) (sym (get_before t.classes o None n (omega (arith, within, is.counted))))
            (is.classed n l old)
      ])

  module _ (t mid new : NumberingView) (x : Lock) (o : Option ℕ) (ns : List ℕ) (m : ℕ) (is : IsNumbering s t)
      (put : IsPut t mid x o ns) (fresh : AreAbove s t.keys x ns) (class : ClassIs s x o)
      (at : slice_get mid.keys m ≡ Some x) (told : IsToldBelow s mid new x m) where
    keys : new.keys ≡ t.keys ++ x ∷ []
    keys = told.keys ∙ put.keys

    -- what is above each is told
    late_told : (n : ℕ) (l : Lock) → slice_get new.keys n ≡ Some l
        → AreAbove s new.keys l (slice_index_or new.above n [])
    late_told n l there = subst (λ ks. AreAbove s ks l (slice_index_or new.above n [])) (sym keys)
        (elim (pushed_at t.keys x l n (subst (λ ks. slice_get ks n ≡ Some l) keys there)) [
          | inl e ↦
              let here : slice_index_or mid.above n [] ≡ ns = ap (λ ms. slice_index_or ms n []) put.above
              ∙ get_last t.above ns [] n (e.0 ∙ sym is.count) in
              elim (told.each n l (subst (λ ks. slice_get ks n ≡ Some l) told.keys there)) [
                | inl h ↦ absurd (h.0.1 e.1)
                | inr h ↦
                    subst (AreAbove s (t.keys ++ x ∷ []) l) (sym (h.1 ∙ here))
                    (subst (λ k. AreAbove s (t.keys ++ x ∷ []) k ns) e.1
                    (above_more t.keys x x ns (λ over. over.1 refl) fresh))
              ]
          | inr old ↦
              let within = slice_get_within t.keys n l old in
              let here : slice_index_or mid.above n [] ≡ slice_index_or t.above n [] =
              ap (λ ms. slice_index_or ms n []) put.above
              ∙ get_before t.above ns [] n (omega (arith, within, is.count)) in
              elim (told.each n l (subst (λ ks. slice_get ks n ≡ Some l) told.keys there)) [
                | inl h ↦
                    subst (AreAbove s (t.keys ++ x ∷ []) l) (sym (h.1 ∙ ap (λ ms. ms ++ m ∷ []) here))
                    (above_told t.keys x l (slice_index_or t.above n []) m
                    (subst (λ ks. slice_get ks m ≡ Some x) put.keys at) h.0 (is.told n l old))
                | inr h ↦
                    subst (AreAbove s (t.keys ++ x ∷ []) l) (sym (h.1 ∙ here))
                    (above_more t.keys x l (slice_index_or t.above n []) h.0 (is.told n l old))
              ]
        ])

    -- a lock that has been put behind the others, and told to those below it, has its number
    pub numbered_late : IsNumbered s t new x m
    numbered_late = record {
      numbering = record {
        count = told.count ∙ count_put t mid x o ns is put ∙ sym (ap length told.keys);
        counted = ap length told.classes ∙ counted_put t mid x o ns is put ∙ sym (ap length told.keys);
        apart = subst (λ ks. AreApart ks) (sym keys) (apart_push t.keys x is.apart put.absent);
        classed = λ n l there. subst (λ cs. ClassIs s l (slice_index_or cs n None)) (sym told.classes)
            (classed_put t mid x o ns is put class n l (subst (λ ks. slice_get ks n ≡ Some l) told.keys there));
        told = late_told;
      };
      longer = (x ∷ [], keys);
      there = subst (λ ks. slice_get ks m ≡ Some x) (sym told.keys) at;
    }

  -- no lock more
  numbering_same : (t new : NumberingView) → IsSame t new → IsNumbering s t → IsNumbering s new
  numbering_same t new same is = record {
    count = ap length same.above ∙ is.count ∙ sym (ap length same.keys);
    counted = ap length same.classes ∙ is.counted ∙ sym (ap length same.keys);
    apart = subst (λ ks. AreApart ks) (sym same.keys) is.apart;
    classed = λ n l at. subst (λ cs. ClassIs s l (slice_index_or cs n None)) (sym same.classes)
        (is.classed n l (subst (λ ks. slice_get ks n ≡ Some l) same.keys at));
    told = λ n l at. subst (λ ks. AreAbove s ks l (slice_index_or new.above n [])) (sym same.keys)
        (subst (λ ms. AreAbove s t.keys l (slice_index_or ms n [])) (sym same.above)
        (is.told n l (subst (λ ks. slice_get ks n ≡ Some l) same.keys at)));
  }

  -- a lock that is there has its number
  pub numbered_there : (t : NumberingView) (l : Lock) (n : ℕ) → IsNumbering s t → slice_get t.keys n ≡ Some l
      → IsNumbered s t t l n
  numbered_there t l n is at = record { numbering = is; longer = extends_none t; there = at }

  -- one that was there has its number still
  pub numbered_same : (t new : NumberingView) (l : Lock) (n : ℕ) → IsNumbering s t → IsSame t new
      → slice_get new.keys n ≡ Some l → IsNumbered s t new l n
  numbered_same t new l n is same at = record {
    numbering = numbering_same t new same is;
    longer = ([], same.keys ∙ sym (append-nil t.keys));
    there = at;
  }

  -- one that was to be put, and covers none that is there, has its number, whether it has come or was there
  pub numbered_added : (t new : NumberingView) (l : Lock) (o : Option ℕ) (ns : List ℕ) (n : ℕ) (is_new : Bool)
      → IsNumbering s t → AreAbove s t.keys l ns → ClassIs s l o → ((k : Lock) → IsAbove s l k → ⊥)
      → (IsTrue is_new → IsPut t new l o ns) → (IsFalse is_new → IsSame t new) → slice_get new.keys n ≡ Some l
      → IsNumbered s t new l n
  numbered_added t new l o ns n true is fresh class free put same at = numbered_late t new new l o ns n is (put refl)
      fresh class at (none_below new l n (λ k h. free k))
  numbered_added t new l o ns n false is fresh class free put same at = numbered_same t new l n is (same refl) at

  -- as many lists of numbers as locks still, whether it has come or was there
  pub count_added : (t mid : NumberingView) (x : Lock) (o : Option ℕ) (ns : List ℕ) (is_new : Bool) → IsNumbering s t
      → (IsTrue is_new → IsPut t mid x o ns) → (IsFalse is_new → IsSame t mid) → length mid.above ≡ length mid.keys
  count_added t mid x o ns true is put same = count_put t mid x o ns is (put refl)
  count_added t mid x o ns false is put same =
      ap length (same refl).above ∙ is.count ∙ sym (ap length (same refl).keys)

  -- so has one to write a path, of which that to read it is told where it has come
  pub numbered_write : (t mid new : NumberingView) (p : PathView) (o : Option ℕ) (ns : List ℕ) (m : ℕ) (is_new : Bool)
      → IsNumbering s t → AreAbove s t.keys (lock.Path p effect.Write) ns → ClassIs s (lock.Path p effect.Write) o
      → (IsTrue is_new → IsPut t mid (lock.Path p effect.Write) o ns) → (IsFalse is_new → IsSame t mid)
      → slice_get mid.keys m ≡ Some (lock.Path p effect.Write)
      → (IsTrue is_new → (r : ℕ) → slice_get mid.keys r ≡ Some (lock.Path p effect.Read) → AreApart mid.keys
      → IsTold mid new r m)
      → ((Has mid.keys (lock.Path p effect.Read) → ⊥) → new ≡ mid) → (IsFalse is_new → new ≡ mid)
      → IsNumbered s t new (lock.Path p effect.Write) m
  numbered_write t mid new p o ns m false is fresh class put same at told alone still =
      subst (λ a. IsNumbered s t a (lock.Path p effect.Write) m) (sym (still refl))
      (numbered_same t mid (lock.Path p effect.Write) m is (same refl) at)
  numbered_write t mid new p o ns m true is fresh class put same at told alone still =
      let write = lock.Path p effect.Write in
      let came = put refl in
      let apart : AreApart mid.keys =
      subst (λ ks. AreApart ks) (sym came.keys) (apart_push t.keys write is.apart came.absent) in
      let count : length mid.above ≡ length mid.keys =
      count_put t mid write o ns is came in
      elim (find_or mid.keys (lock.Path p effect.Read)) [
        | inl r ↦ numbered_late t mid new write o ns m is came fresh class at
            (read_below mid new p r.0 m apart count r.1 (told refl r.0 r.1 apart))
        | inr absent ↦
            subst (λ a. IsNumbered s t a write m) (sym (alone absent))
            (numbered_late t mid mid write o ns m is came fresh class at (write_alone mid p m absent))
      ]

  -- a broad lock is on no path
  pub broad_classed : (l : Lock) → IsBroad l → ClassIs s l None
  broad_classed lock.All b = tt
  broad_classed (lock.Class c r) b = tt
  broad_classed (lock.Path p e) b = absurd b

  -- above one on a class stand those locks that are there
  pub class_above : (keys : List Lock) (c : ℕ) (r : Right) (ns : List ℕ) → AreThere keys (over_class c r) ns
      → AreAbove s keys (lock.Class c r) ns
  class_above keys c r ns there = above_there keys (lock.Class c r) (over_class c r) ns (class_coverers s c r) there

  -- and above that on all none
  pub all_above : (keys : List Lock) → AreAbove s keys lock.All []
  all_above keys = above_there keys lock.All [] [] (all_coverers s) (there_none keys [] (λ l h. absurd h))
