-- Lists that grow by an element behind them.
use Rattle.std.proofs.Common.{◌≡◌, ◌↔◌, ◌⊎◌, List, [], ◌∷◌, ◌++◌, Bool, true, false, Less, Equal, Greater, inl, inr}
use Rattle.std.proofs.Common.{refl, sym, ◌∙◌, subst}
use Rattle.std.specs.{declared.cmp.Ordering.{Ordering}, Ordering.{match_ordering}, BTreeSet.{insert_key}}
use Rattle.std.specs.{Prelude.{if◌then◌else◌}, Bool.{Decides}, List.{list_any}}
use Rattle.sect_lemmas.specs.Lists.{Has}
use Rattle.sect_lemmas.proofs.{Membership.{Has-cases, Has-left, Has-right}, Finding.{any_tells}}

-- one element behind a list
pub behind : {X : Type 0} (xs : List X) (x y : X) → Has (xs ++ x ∷ []) y ↔ (Has xs y ⊎ (y ≡ x))
behind xs x y = (
  λ h. elim (Has-cases xs (x ∷ []) y h) [ inl a ↦ inl a | inr b ↦ elim b [ inl e ↦ inr (sym e) | inr k ↦ absurd k ] ],
  λ h. elim h [ inl a ↦ Has-left xs (x ∷ []) y a | inr e ↦ Has-right xs (x ∷ []) y (inl (sym e)) ],
)

-- an element that is inserted where it isn't there
pub inserted : {X : Type 0} (eq : X → X → Bool) → ((x y : X) → Decides (eq x y) (x ≡ y)) → (xs : List X) (x y : X)
    → Has (if list_any (eq x) xs then xs else xs ++ x ∷ []) y ↔ (Has xs y ⊎ (y ≡ x))
inserted {X} eq tells xs x y = go (list_any (eq x) xs) (any_tells eq tells xs x)
  where
    go : (b : Bool) → ((b ≡ true) ↔ Has xs x) → Has (if b then xs else xs ++ x ∷ []) y ↔ (Has xs y ⊎ (y ≡ x))
    go true t = (λ h. inl h, λ h. elim h [ inl a ↦ a | inr e ↦ subst (Has xs) (sym e) (t.0 refl) ])
    go false t = behind xs x y

-- an element that is put into a sorted list is there beside the others
pub put_key : {X : Type 0} (cmp : X → X → Ordering) → ((x y : X) → cmp x y ≡ Equal → x ≡ y) → (xs : List X) (l m : X)
    → Has (insert_key cmp xs l) m ↔ (Has xs m ⊎ (m ≡ l))
put_key cmp level [] l m = (
  λ h. elim h [ inl e ↦ inr (sym e) | inr k ↦ absurd k ],
  λ h. elim h [ inl k ↦ absurd k | inr e ↦ inl (sym e) ],
)
put_key {X} cmp level (x ∷ xs) l m = go (cmp l x) refl (put_key cmp level xs l m)
  where
    go : (o : Ordering) → cmp l x ≡ o → (Has (insert_key cmp xs l) m ↔ (Has xs m ⊎ (m ≡ l)))
        → Has (match_ordering o (l ∷ x ∷ xs) (x ∷ xs) (x ∷ insert_key cmp xs l)) m ↔ (Has (x ∷ xs) m ⊎ (m ≡ l))
    go Less e rest = (
      λ h. elim h [ inl a ↦ inr (sym a) | inr k ↦ inl k ],
      λ h. elim h [ inl k ↦ inr k | inr a ↦ inl (sym a) ],
    )
    go Equal e rest = (λ h. inl h, λ h. elim h [ inl k ↦ k | inr a ↦ inl (sym (level l x e) ∙ sym a) ])
    go Greater e rest = (
      λ h. elim h [ inl a ↦ inl (inl a) | inr k ↦ elim (rest.0 k) [ inl b ↦ inl (inr b) | inr a ↦ inr a ] ],
      λ h. elim h [ inl k ↦ elim k [ inl a ↦ inl a | inr b ↦ inr (rest.1 (inl b)) ] | inr a ↦ inr (rest.1 (inr a)) ],
    )
