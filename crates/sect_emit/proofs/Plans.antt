-- What a plan has.
use Rattle.std.proofs.Common.{◌≡◌, ℕ, Bool, true, false, refl, sym, ap, ◌∙◌, subst, inl, inr, true≢false, List, [], ◌∷◌}
use Rattle.sect_lemmas.proofs.Membership.{Has-cases, Has-left, Has-right}
use Rattle.sect_lemmas.specs.Lists.{Has}
use Rattle.sect_names.specs.{declared.lock.Lock.{Lock}, declared.lock.Effect.{Effect}, Schemes.{SchemeView}}
use Rattle.sect_modes.specs.{declared.key.Key.{Key}, Mode.{intention_of}}
use Rattle.sect_emit.specs.{declared.plan.Grip.{Grip}, Plan.{grip, class_mode, intended, AreWishesFor, AreFixedWishes}}
use Rattle.sect_names.specs.declared.lock.Lock.TheVariants as lock
use Rattle.sect_names.specs.declared.lock.Effect.TheVariants as effect
use Rattle.sect_modes.specs.declared.key.Key.TheVariants as key

abbrev is_all : Key → Bool
is_all key.All = true
is_all (key.Class n) = false
is_all (key.Global g) = false
is_all (key.Made t n) = false

all_or_class : (c : ℕ) → key.All ≡ key.Class c → ⊥
all_or_class c e = true≢false (ap is_all e)

-- and each lock of it has its wishes there
pub fixed_wish_there : (s : SchemeView) (locks : List Lock) (gs : List Grip) → AreFixedWishes s locks gs → (l : Lock)
    → Has locks l
    → (mine : List Grip) × AreWishesFor s l mine × ((g : Grip) → Has mine g → Has gs g)
fixed_wish_there s [] gs w l h = absurd h
fixed_wish_there s (x ∷ locks) gs w l (inl e) =
    (w.0, subst (λ y. AreWishesFor s y w.0) e w.3, λ g i. subst (λ xs. Has xs g) (sym w.2) (Has-left w.0 w.1 g i))
fixed_wish_there s (x ∷ locks) gs w l (inr h) =
    let r = fixed_wish_there s locks w.1 w.4 l h in
    (r.0, r.1, λ g i. subst (λ xs. Has xs g) (sym w.2) (Has-right w.0 w.1 g (r.2 g i)))

-- the intention of an intention is that intention
pub intended_again : (e : Effect) → intention_of (intended e) ≡ intended e
intended_again effect.Read = refl
intended_again effect.Write = refl

-- the wish for `all` that stands with that for a class
wish_all : (s : SchemeView) (l : Lock) (gs : List Grip) → AreWishesFor s l gs → (g : Grip) (c : ℕ) → g.key ≡ key.Class c
    → Has gs g → Has gs (grip key.All (intention_of g.mode))
wish_all s lock.All gs w g c is h = elim (subst (λ xs. Has xs g) w h) [
  | inl e ↦ absurd (all_or_class c (ap (λ (x : Grip). x.key) e ∙ is))
  | inr none ↦ absurd none
]
wish_all s (lock.Class d r) gs w g c is h =
    subst (λ xs. Has xs (grip key.All (intention_of g.mode))) (sym w) (by (subst (λ xs. Has xs g) w h)) where
      by : Has (grip key.All (intention_of (class_mode r)) ∷ grip (key.Class d) (class_mode r) ∷ []) g
          → Has (grip key.All (intention_of (class_mode r)) ∷ grip (key.Class d) (class_mode r) ∷ [])
          (grip key.All (intention_of g.mode))
      by (inl e) = absurd (all_or_class c (ap (λ (x : Grip). x.key) e ∙ is))
      by (inr (inl e)) = inl (ap (λ (x : Grip). grip key.All (intention_of x.mode)) e)
      by (inr (inr none)) = absurd none
wish_all s (lock.Path p f) gs w g c is h =
    subst (λ xs. Has xs (grip key.All (intention_of g.mode))) (sym w.2) (by (subst (λ xs. Has xs g) w.2 h)) where
      by : Has (grip key.All (intended f) ∷ grip (key.Class w.0) (intended f) ∷ []) g
          → Has (grip key.All (intended f) ∷ grip (key.Class w.0) (intended f) ∷ [])
          (grip key.All (intention_of g.mode))
      by (inl e) = absurd (all_or_class c (ap (λ (x : Grip). x.key) e ∙ is))
      by (inr (inl e)) = inl (ap (grip key.All) (sym (intended_again f))
          ∙ ap (λ (x : Grip). grip key.All (intention_of x.mode)) e)
      by (inr (inr none)) = absurd none

-- where a class is wished, `all` is wished in its intention
pub fixed_wish_all : (s : SchemeView) (locks : List Lock) (gs : List Grip) → AreFixedWishes s locks gs
    → (g : Grip) (c : ℕ) → g.key ≡ key.Class c → Has gs g → Has gs (grip key.All (intention_of g.mode))
fixed_wish_all s [] gs w g c is h = absurd (subst (λ xs. Has xs g) w h)
fixed_wish_all s (l ∷ locks) gs w g c is h =
    subst (λ xs. Has xs (grip key.All (intention_of g.mode))) (sym w.2)
    (elim (Has-cases w.0 w.1 g (subst (λ xs. Has xs g) w.2 h)) [
      | inl i ↦ Has-left w.0 w.1 (grip key.All (intention_of g.mode)) (wish_all s l w.0 w.3 g c is i)
      | inr i ↦ Has-right w.0 w.1 (grip key.All (intention_of g.mode)) (fixed_wish_all s locks w.1 w.4 g c is i)
    ])
