-- Pairs of paths, lock by lock.
use Rattle.std.proofs.Common.{◌≡◌, ℕ, zero, suc, ◌+◌, ◌<◌, ◌++◌, List, [], ◌∷◌, length, take, get_or, Bool, true}
use Rattle.std.proofs.Common.{false, refl, sym, ap, ◌∙◌, subst, inl, inr, arith}
use Rattle.std.proofs.lemmas.List.{append_assoc, append-nil, take_more}
use Rattle.std.specs.{Prelude.{◌↔◌, if◌then◌else◌}, List.{AllZip}}
use Rattle.sect_lemmas.specs.Lists.{Has}
use Rattle.sect_lemmas.proofs.Membership.{Has-cases, Has-left, Has-right}
use Rattle.sect_points.specs.{declared.sites.SiteSet.{SiteSet}, Sites.{InBoth}, Paths.{PathView}}
use Rattle.sect_modes.specs.Mode.{are_compatible}
use Rattle.sect_names.specs.{declared.lock.Effect.{Effect}, declared.lock.Lock.{Lock}, Schemes.{SchemeView}}
use Rattle.sect_emit.specs.Plan.{object_mode}
use Rattle.sect_conflicts.specs.declared.conflict.PathPair.{PathPair}
use Rattle.sect_conflicts.specs.{Conflicts.{MayBeOne, paths_of_two, paths_with, paths_between}, Selecting.{Adds}}
use Rattle.sect_conflicts.specs.steps.Profiles.{AreSitesOfLock}
use Rattle.sect_conflicts.proofs.shared.Selecting.{adds_nothing, adds_one, adds_none, adds_both}
use Rattle.sect_names.specs.declared.lock.Lock.TheVariants as lock

-- one lock more on the second side
paths_with_more : (l : Lock) (others : List Lock) (other : Lock)
    → paths_with l (others ++ other ∷ []) ≡ paths_with l others ++ paths_of_two l other
paths_with_more l [] other = append-nil (paths_of_two l other)
paths_with_more l (x ∷ others) other =
    ap (λ r. paths_of_two l x ++ r) (paths_with_more l others other)
    ∙ sym (append_assoc (paths_of_two l x) (paths_with l others) (paths_of_two l other))

-- one lock more on the first side
paths_between_more : (locks : List Lock) (l : Lock) (others : List Lock)
    → paths_between (locks ++ l ∷ []) others ≡ paths_between locks others ++ paths_with l others
paths_between_more [] l others = append-nil (paths_with l others)
paths_between_more (x ∷ locks) l others =
    ap (λ r. paths_with x others ++ r) (paths_between_more locks l others)
    ∙ sym (append_assoc (paths_with x others) (paths_between locks others) (paths_with l others))

-- the elements of two lists at one place
pub zipped_here : {A B : Type 0} (R : A → B → Type 0) (xs : List A) (ys : List B) → AllZip R xs ys → (i : ℕ) (x : A)
    → i < length xs → x ≡ get_or xs i x → (d : B) → R x (get_or ys i d)
zipped_here R [] ys h i x lt e d = absurd (omega (arith, lt))
zipped_here R (a ∷ xs) [] h i x lt e d = absurd h
zipped_here R (a ∷ xs) (b ∷ ys) h zero x lt e d = subst (λ z. R z b) (sym e) h.0
zipped_here R (a ∷ xs) (b ∷ ys) h (suc i) x lt e d = zipped_here R xs ys h.1 i x (omega (arith, lt)) e d

-- the next lock on the second side
pub with_next : (s : SchemeView) (l : Lock) (others : List Lock) (i : ℕ) (other : Lock) (old mid new : List PathPair)
    → i < length others → other ≡ get_or others i other → Adds (MayBeOne s) (paths_with l (take i others)) old mid
    → Adds (MayBeOne s) (paths_of_two l other) mid new → Adds (MayBeOne s) (paths_with l (take (i + 1) others)) old new
with_next s l others i other old mid new within is before here =
    let next : take (i + 1) others ≡ take i others ++ other ∷ [] = take_more others i other within
    ∙ ap (λ z. take i others ++ z ∷ []) (sym is) in
    subst (λ ps. Adds (MayBeOne s) ps old new)
    (sym (ap (paths_with l) next ∙ paths_with_more l (take i others) other))
    (adds_both (MayBeOne s) (paths_with l (take i others)) (paths_of_two l other) old mid new before here)

-- and on the first
pub between_next : (s : SchemeView) (locks others : List Lock) (i : ℕ) (l : Lock) (old mid new : List PathPair)
    → i < length locks → l ≡ get_or locks i l → Adds (MayBeOne s) (paths_between (take i locks) others) old mid
    → Adds (MayBeOne s) (paths_with l others) mid new
    → Adds (MayBeOne s) (paths_between (take (i + 1) locks) others) old new
between_next s locks others i l old mid new within is before here =
    let next : take (i + 1) locks ≡ take i locks ++ l ∷ [] = take_more locks i l within
    ∙ ap (λ z. take i locks ++ z ∷ []) (sym is) in
    subst (λ ps. Adds (MayBeOne s) ps old new)
    (sym (ap (λ ls. paths_between ls others) next ∙ paths_between_more (take i locks) l others))
    (adds_both (MayBeOne s) (paths_between (take i locks) others) (paths_with l others) old mid new before here)

-- the paths of two locks
abbrev OfTwo : Lock → Lock → PathPair → Type 0
OfTwo l other pair =
    (e : Effect) × (f : Effect) × (l ≡ lock.Path pair.first e) × (other ≡ lock.Path pair.second f)
    × (are_compatible (object_mode e) (object_mode f) ≡ false)

of_two : (l other : Lock) (pair : PathPair) → Has (paths_of_two l other) pair → OfTwo l other pair
of_two lock.All other pair h = absurd h
of_two (lock.Class n r) other pair h = absurd h
of_two (lock.Path p e) lock.All pair h = absurd h
of_two (lock.Path p e) (lock.Class n r) pair h = absurd h
of_two (lock.Path p e) (lock.Path q f) pair h = by (are_compatible (object_mode e) (object_mode f)) refl h
  where
    by : (b : Bool) → are_compatible (object_mode e) (object_mode f) ≡ b
        → Has (if b then [] else record { first = p; second = q } ∷ []) pair
        → OfTwo (lock.Path p e) (lock.Path q f) pair
    by true is h = absurd h
    by false is (inl same) = (
      e,
      f,
      ap (λ (x : PathPair). lock.Path x.first e) same,
      ap (λ (x : PathPair). lock.Path x.second f) same,
      is,
    )
    by false is (inr none) = absurd none

pub two_of : (p q : PathView) (e f : Effect) → are_compatible (object_mode e) (object_mode f) ≡ false
    → paths_of_two (lock.Path p e) (lock.Path q f) ≡ record { first = p; second = q } ∷ []
two_of p q e f is = ap (λ b. if b then [] else record { first = p; second = q } ∷ []) is

pub none_of : (p q : PathView) (e f : Effect) → are_compatible (object_mode e) (object_mode f) ≡ true
    → paths_of_two (lock.Path p e) (lock.Path q f) ≡ []
none_of p q e f is = ap (λ b. if b then [] else record { first = p; second = q } ∷ []) is

-- each set has a lock on the path of its side, and not both only read
abbrev pub AreLocked : List Lock → List Lock → PathPair → Type 0
AreLocked locks others pair =
    (e : Effect) × (f : Effect) × Has locks (lock.Path pair.first e) × Has others (lock.Path pair.second f)
    × (are_compatible (object_mode e) (object_mode f) ≡ false)

with_locked : (l : Lock) (others : List Lock) (pair : PathPair) → Has (paths_with l others) pair
    → AreLocked (l ∷ []) others pair
with_locked l [] pair h = absurd h
with_locked l (other ∷ others) pair h = elim (Has-cases (paths_of_two l other) (paths_with l others) pair h) [
  | inl a ↦ (let k = of_two l other pair a in (k.0, k.1, inl k.2, inl k.3, k.4))
  | inr b ↦ (let k = with_locked l others pair b in (k.0, k.1, k.2, inr k.3, k.4))
]

pub between_locked : (locks others : List Lock) (pair : PathPair) → Has (paths_between locks others) pair
    → AreLocked locks others pair
between_locked [] others pair h = absurd h
between_locked (l ∷ locks) others pair h =
    elim (Has-cases (paths_with l others) (paths_between locks others) pair h) [
      | inl a ↦ (let k = with_locked l others pair a in (k.0, k.1, first k.0 k.2, k.3, k.4))
      | inr b ↦ (let k = between_locked locks others pair b in (k.0, k.1, inr k.2, k.3, k.4))
    ]
  where
    first : (e : Effect) → Has (l ∷ []) (lock.Path pair.first e) → Has (l ∷ locks) (lock.Path pair.first e)
    first e (inl is) = inl is
    first e (inr none) = absurd none

locked_with : (p q : PathView) (e f : Effect) (others : List Lock) → Has others (lock.Path q f)
    → are_compatible (object_mode e) (object_mode f) ≡ false
    → Has (paths_with (lock.Path p e) others) (record { first = p; second = q })
locked_with p q e f [] h apart = absurd h
locked_with p q e f (other ∷ others) (inl is) apart =
    Has-left (paths_of_two (lock.Path p e) other) (paths_with (lock.Path p e) others)
    (record { first = p; second = q })
    (subst (λ o. Has (paths_of_two (lock.Path p e) o) (record { first = p; second = q })) (sym is)
    (subst (λ ps. Has ps (record { first = p; second = q })) (sym (two_of p q e f apart)) (inl refl)))
locked_with p q e f (other ∷ others) (inr k) apart =
    Has-right (paths_of_two (lock.Path p e) other) (paths_with (lock.Path p e) others)
    (record { first = p; second = q }) (locked_with p q e f others k apart)

pub locked_between : (p q : PathView) (e f : Effect) (locks others : List Lock) → Has locks (lock.Path p e)
    → Has others (lock.Path q f) → are_compatible (object_mode e) (object_mode f) ≡ false
    → Has (paths_between locks others) (record { first = p; second = q })
locked_between p q e f [] others h k apart = absurd h
locked_between p q e f (l ∷ locks) others (inl is) k apart =
    Has-left (paths_with l others) (paths_between locks others) (record { first = p; second = q })
    (subst (λ x. Has (paths_with x others) (record { first = p; second = q })) (sym is)
    (locked_with p q e f others k apart))
locked_between p q e f (l ∷ locks) others (inr h) k apart =
    Has-right (paths_with l others) (paths_between locks others) (record { first = p; second = q })
    (locked_between p q e f locks others h k apart)

-- two locks of which one isn't on a path have no paths
abbrev pub IsOnPath : Lock → Type 0
IsOnPath l = (p : PathView) × (e : Effect) × (l ≡ lock.Path p e)

pub first_has_none : (l other : Lock) → (IsOnPath l → ⊥) → paths_of_two l other ≡ []
first_has_none lock.All other none = refl
first_has_none (lock.Class n r) other none = refl
first_has_none (lock.Path p e) other none = absurd (none (p, e, refl))

pub second_has_none : (l other : Lock) → (IsOnPath other → ⊥) → paths_of_two l other ≡ []
second_has_none lock.All other none = refl
second_has_none (lock.Class n r) other none = refl
second_has_none (lock.Path p e) lock.All none = refl
second_has_none (lock.Path p e) (lock.Class n r) none = refl
second_has_none (lock.Path p e) (lock.Path q f) none = absurd (none (q, f, refl))

-- sets of sites of two paths share one exactly if the paths may denote one object
pub may_be_one : (s : SchemeView) (p q : PathView) (e f : Effect) (sites others : SiteSet)
    → AreSitesOfLock s (lock.Path p e) sites → AreSitesOfLock s (lock.Path q f) others
    → ((site : ℕ) × InBoth sites.words others.words site) ↔ MayBeOne s (record { first = p; second = q })
may_be_one s p q e f sites others mine theirs = (
  λ (site, both). (let x = (mine site).0 both.0 in let y = (theirs site).0 both.1 in (site, x.1, x.0, y.0)),
  λ (site, lt, a, b). (site, ((mine site).1 (a, lt), (theirs site).1 (b, lt))),
)

-- the paths of two locks come to the list where they may denote one object, and else not
module _ (s : SchemeView) (l other : Lock) (p q : PathView) (e f : Effect) (is : l ≡ lock.Path p e)
    (also : other ≡ lock.Path q f) (apart : are_compatible (object_mode e) (object_mode f) ≡ false) where
  abbrev pair : PathPair
  pair = record { first = p; second = q }

  one_pair : paths_of_two l other ≡ pair ∷ []
  one_pair = ap (λ x. paths_of_two x other) is ∙ ap (paths_of_two (lock.Path p e)) also ∙ two_of p q e f apart

  pub added : (old new : List PathPair) (x : PathPair) → MayBeOne s pair → new ≡ old ++ x ∷ [] → x.first ≡ p
      → x.second ≡ q → Adds (MayBeOne s) (paths_of_two l other) old new
  added old new x may more first second =
      let same : x ≡ pair = λ i. record { first = first i; second = second i } in
      subst (λ ps. Adds (MayBeOne s) ps old new) (sym one_pair)
      (adds_one (MayBeOne s) pair old new may (more ∙ ap (λ y. old ++ y ∷ []) same))

  pub not_added : (old : List PathPair) → (MayBeOne s pair → ⊥) → Adds (MayBeOne s) (paths_of_two l other) old old
  not_added old never =
      subst (λ ps. Adds (MayBeOne s) ps old old) (sym one_pair) (adds_none (MayBeOne s) pair old never)

-- two locks without a pair of paths add nothing
pub adds_no_pair : (s : SchemeView) (l other : Lock) (old : List PathPair) → paths_of_two l other ≡ []
    → Adds (MayBeOne s) (paths_of_two l other) old old
adds_no_pair s l other old none = subst (λ ps. Adds (MayBeOne s) ps old old) (sym none) (adds_nothing (MayBeOne s) old)
