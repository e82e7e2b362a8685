-- Where the chain of a lock begins.
use Rattle.std.proofs.Common.{◌≡◌, ℕ, ◌<◌, List, Option, Some, None, length, get_or, refl, sym, ap, ◌∙◌, subst}
use Rattle.std.proofs.lemmas.Option.{slice_get_within, get_or_from_slice_get}
use Rattle.std.specs.{Prelude.{slice_get, MatchOption}, Option.{IsSome, is_some}}
use Rattle.sect_lemmas.specs.Lists.{Has}
use Rattle.sect_lemmas.proofs.{Membership.{Has-unmap, Has-slice_get}, Places.{Has-index}}
use Rattle.sect_names.specs.{declared.lock.Lock.{Lock}, Chains.{link}}
use Rattle.sect_infer.specs.Numbers.{AreApart}
use Rattle.sect_infer.proofs.shared.{Apart.{apart_one}, Bounding.{named}}
use Rattle.sect_chains.specs.declared.keep.KeptLink.{KeptLink}
use Rattle.sect_chains.specs.steps.{Starting.{AreStarts}, Working.{link_of, links_of}}
use Rattle.sect_chains.proofs.Growing.{link_is}

-- what is found where it is there
pub some_found : (A : Type 0) (o : Option ℕ) (Q : ℕ → Type 0) → MatchOption o (A → ⊥) Q → A → IsSome o
some_found A None Q m a = absurd (m a)
some_found A (Some n) Q m a = refl

pub found_is : (A : Type 0) (o : Option ℕ) (n : ℕ) (Q : ℕ → Type 0) → o ≡ Some n → MatchOption o (A → ⊥) Q → Q n
found_is A o n Q is m = (let h = subst (λ p. MatchOption p (A → ⊥) Q) is m in h)

module _ (keys : List Lock) (steps : List KeptLink) (l : Lock)
    (numbers : (x : KeptLink) → Has steps x → x.number < length keys)
    (there : Has (links_of keys steps) (link 0 l)) where
  -- the step of the lock at the first node
  first : (x : KeptLink) × Has steps x × (x.node ≡ 0) × (slice_get keys x.number ≡ Some l)
  first =
      let x = Has-unmap (link_of keys) steps (link 0 l) there in
      (x.0, x.1, ap (λ b. b.node) x.2, named keys x.0.number (numbers x.0 x.1) ∙ ap (λ b. Some b.lock) x.2)

  pub lock_there : Has keys l
  lock_there = let x = first in Has-slice_get keys x.0.number l x.3

  module _ (starts : List (Option ℕ)) (are : AreStarts (length keys) steps (length steps) starts)
      (apart : AreApart keys) (n : ℕ)
      (at : slice_get keys n ≡ Some l) where
    -- its index is told
    pub start_there : (k : ℕ) × (slice_get starts n ≡ Some (Some k))
    start_there =
        let x = first in
        let i = Has-index steps x.0 x.1 in
        let k = are.all i.0 x.0 (slice_get_within steps i.0 x.0 i.1) i.1 x.2 in
        (k.0, subst (λ m. slice_get starts m ≡ Some (Some k.0)) (apart_one keys x.0.number n l apart x.3 at) k.1)

    pub start_some : IsSome (get_or starts n None)
    start_some = let k = start_there in ap is_some (get_or_from_slice_get starts n (Some k.0) None k.1)

    -- and what is told is its index
    pub start_is : (i : ℕ) → slice_get starts n ≡ Some (Some i) → (i < length steps)
        × (slice_get (links_of keys steps) i ≡ Some (link 0 l))
    start_is i got =
        let x = are.right n i got in (
          slice_get_within steps i x.0 x.1,
          subst (λ j. slice_get (links_of keys steps) i ≡ Some (link j l)) x.2
              (link_is keys steps i x.0 l x.1 (subst (λ m. slice_get keys m ≡ Some l) (sym x.3) at)),
        )
