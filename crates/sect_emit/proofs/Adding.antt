-- A key that is added to a list, place by place.
use Rattle.std.proofs.Common.{◌≡◌, ℕ, suc, ◌+◌, ◌<◌, Bool, true, false, List, [], ◌∷◌, ◌++◌, length, take, drop, get_or}
use Rattle.std.proofs.Common.{slice_set, refl, sym, ap, ◌∙◌, subst, arith}
use Rattle.std.proofs.{lemmas.List.{take-append-drop, take-set, drop-set, append_assoc}, Math.Seq.{take-suc}}
use Rattle.std.specs.{Prelude.{if◌then◌else◌, Result, Ok, Err, OnOk}, List.{insert}}
use Rattle.sect_lemmas.proofs.Elements.{drop_next}
use Rattle.sect_points.specs.{Paths.{PathView}, Partitions.{HasClass}}
use Rattle.sect_names.specs.{declared.lock.Effect.{Effect}, declared.lock.Lock.{Lock}, Schemes.{SchemeView}}
use Rattle.sect_names.specs.declared.lock.Right.{Right}
use Rattle.sect_modes.specs.{declared.mode.Mode.{Mode}, declared.mode.Mode.TheVariants.{Exclusive}}
use Rattle.sect_modes.specs.{Mode.{join_of, intention_of}, Key.{is_same_key, is_key_below}}
use Rattle.sect_emit.specs.declared.plan.Grip.{Grip}
use Rattle.sect_emit.specs.Plan.{grip, with_grip, gathered, class_mode, intended, IsFixedPart}
use Rattle.sect_emit.specs.steps.Wishes.{with_grips, HasWishes}
use Rattle.sect_emit.proofs.Plans.{intended_again}
use Rattle.sect_names.specs.declared.lock.Lock.TheVariants as lock
use Rattle.sect_modes.specs.declared.key.Key.TheVariants as key

-- what a list is once an element of it is another
set_split : {X : Type 0} (xs : List X) (i : ℕ) (y : X) → i < length xs
    → slice_set xs i y ≡ take i xs ++ y ∷ drop (i + 1) xs
set_split xs i y h = sym (take-append-drop i (slice_set xs i y))
    ∙ ap (λ ys. ys ++ drop i (slice_set xs i y)) (take-set xs i y) ∙ ap (λ ys. take i xs ++ ys) (drop-set xs i y h)

-- a beginning with one element more
pub take_next : {X : Type 0} (xs : List X) (i : ℕ) (x : X) → i < length xs → x ≡ get_or xs i x
    → take (i + 1) xs ≡ take i xs ++ x ∷ []
take_next xs i x h is =
    let e : i + 1 ≡ suc i = omega arith in
    ap (λ n. take n xs) e ∙ take-suc xs i x h ∙ ap (λ y. take i xs ++ y ∷ []) (sym is)

module _ (w : Grip) (xs : List Grip) (i : ℕ) (h : Grip) (within : i < length xs) (is : h ≡ get_or xs i h)
    (far : with_grip w xs ≡ take i xs ++ with_grip w (drop i xs)) where
  abbrev joined : Grip
  joined = grip h.key (join_of w.mode h.mode)

  -- what stands in the place of this key and those behind it
  abbrev rest : Bool → Bool → List Grip
  rest same below =
      if same then joined ∷ drop (i + 1) xs else
      if below then w ∷ h ∷ drop (i + 1) xs else
      h ∷ with_grip w (drop (i + 1) xs)

  -- behind the keys that were passed stands this one
  here : (a b : Bool) → is_same_key w.key h.key ≡ a → is_key_below w.key h.key ≡ b
      → with_grip w xs ≡ take i xs ++ rest a b
  here a b same below =
      far ∙ ap (λ ys. take i xs ++ with_grip w ys) (drop_next xs i h within is)
      ∙ ap (λ x. take i xs ++ rest x (is_key_below w.key h.key)) same ∙ ap (λ y. take i xs ++ rest a y) below

  pub same_there : is_same_key w.key h.key ≡ true → slice_set xs i (grip h.key (join_of w.mode h.mode)) ≡ with_grip w xs
  same_there same = set_split xs i (grip h.key (join_of w.mode h.mode)) within
      ∙ sym (here true (is_key_below w.key h.key) same refl)

  pub above_there : is_same_key w.key h.key ≡ false → is_key_below w.key h.key ≡ true → insert xs i w ≡ with_grip w xs
  above_there other below = ap (λ ys. take i xs ++ w ∷ ys) (drop_next xs i h within is)
      ∙ sym (here false true other below)

  pub passed : is_same_key w.key h.key ≡ false → is_key_below w.key h.key ≡ false → with_grip w xs ≡ take (i + 1) xs
      ++ with_grip w (drop (i + 1) xs)
  passed other above =
      here false false other above ∙ sym (append_assoc (take i xs) (h ∷ []) (with_grip w (drop (i + 1) xs)))
      ∙ ap (λ ys. ys ++ with_grip w (drop (i + 1) xs)) (sym (take_next xs i h within is))

-- adding keys one after another gathers them
pub gathered_more : (ws gs : List Grip) → gathered (ws ++ gs) ≡ with_grips ws (gathered gs)
gathered_more [] gs = refl
gathered_more (w ∷ ws) gs = ap (with_grip w) (gathered_more ws gs)

-- a part that has come to have the keys of a lock is that of the lock and the others
pub one_more : (s : SchemeView) (l : Lock) (ls : List Lock) (old new : List Grip) → HasWishes s l old new
    → IsFixedPart s ls old → IsFixedPart s (l ∷ ls) new
one_more s l ls old new has part = (
  has.0 ++ part.0,
  (has.0, part.0, refl, has.1, part.1),
  has.2 ∙ ap (with_grips has.0) part.2
      ∙ sym (gathered_more has.0 part.0),
)

pub path_wishes : (s : SchemeView) (l : Lock) (p : PathView) (e : Effect) (c : ℕ) (m : Mode) (old new : List Grip)
    → l ≡ lock.Path p e → HasClass s.classes p c → m ≡ intended e
    → new ≡ with_grip (grip key.All (intention_of m)) (with_grip (grip (key.Class c) m) old) → HasWishes s l old new
path_wishes s l p e c m old new on has mode is = subst (λ k. HasWishes s k old new) (sym on) (
  grip key.All (intended e) ∷ grip (key.Class c) (intended e) ∷ [],
  (c, has, refl),
  subst (λ n. new ≡ with_grip (grip key.All (intention_of n)) (with_grip (grip (key.Class c) n) old)) mode is
      ∙ ap (λ n. with_grip (grip key.All n) (with_grip (grip (key.Class c) (intended e)) old)) (intended_again e),
)

pub all_wishes : (s : SchemeView) (l : Lock) (old new : List Grip) → l ≡ lock.All
    → new ≡ with_grip (grip key.All Exclusive) old → HasWishes s l old new
all_wishes s l old new on is = subst (λ k. HasWishes s k old new) (sym on) (grip key.All Exclusive ∷ [], refl, is)

pub class_wishes : (s : SchemeView) (l : Lock) (c : ℕ) (r : Right) (m : Mode) (old new : List Grip) → l ≡ lock.Class c r
    → m ≡ class_mode r
    → new ≡ with_grip (grip key.All (intention_of m)) (with_grip (grip (key.Class c) m) old) → HasWishes s l old new
class_wishes s l c r m old new on mode is = subst (λ k. HasWishes s k old new) (sym on) (
  grip key.All (intention_of (class_mode r)) ∷ grip (key.Class c) (class_mode r) ∷ [],
  refl,
  subst (λ n. new ≡ with_grip (grip key.All (intention_of n)) (with_grip (grip (key.Class c) n) old)) mode is,
)

pub on_ok : {A B : Type 0} {P Q : Type 0} (r : Result A B) → (P → Q) → OnOk r P → OnOk r Q
on_ok (Ok x) f p = f p
on_ok (Err e) f p = tt
