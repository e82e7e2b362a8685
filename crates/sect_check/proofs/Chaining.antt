-- What the verdicts on single chains say of all of a section's.
use Rattle.std.proofs.Common.{◌≡◌, ℕ, ◌+◌, ◌<◌, ◌≤◌, List, Option, Some, None, Result, Ok, Err, IsErrAnd, length, refl}
use Rattle.std.proofs.{Common.{sym, subst, inl, inr, arith}, lemmas.Option.{slice_get_within}}
use Rattle.std.specs.Prelude.{slice_get, MatchOption}
use Rattle.sect_lemmas.specs.Lists.{Has}
use Rattle.sect_graph.specs.declared.flow.Node.{Node}
use Rattle.sect_names.specs.{declared.lock.Lock.{Lock}, declared.link.Link.{Link}, Schemes.{SchemeView}}
use Rattle.sect_names.specs.Chains.{IsChain}
use Rattle.sect_check.specs.{declared.claims.Claims.{Claims}, declared.claims.ChainClaim.{ChainClaim}}
use Rattle.sect_check.specs.{declared.fault.SectionFault.{SectionFault}, Valid.{IsClaimed, HasChain, HasItsChain}}
use Rattle.sect_check.specs.Faults.{IsFirst, IsStepRight, IsBroken, HaveChainsBefore, BreaksChain}
use Rattle.sect_check.specs.steps.{Shapes.{DoRise, HaveNumbersBelow}, Parts.{JudgesChain, JudgesChains}}
use Rattle.sect_lemmas.proofs.Places.{at_of, one_at}
use Rattle.sect_check.proofs.{Numbering.{no_more, stray}, Scanning.{below_next}}
use Rattle.sect_check.specs.declared.fault.SectionFault.TheVariants as fault

module _ (s : SchemeView) (t : ℕ) (last : List Lock) (g : List Node) (c : Claims) where
  -- a claimed chain is first wrong at this step
  pub broken_at : (n : ℕ) (l : Lock) (x : ChainClaim) → IsClaimed c n x → (links : List Link) → links ≡ x.links
      → (o : Option ℕ) (i : ℕ) → o ≡ Some i
      → MatchOption o (IsChain s t last g l links) (IsFirst (IsStepRight s t last g l links))
      → IsBroken s t last g c n l i
  broken_at n l x claimed links same None i is h = absurd cc
  broken_at n l x claimed links same (Some j) i is h =
      let e : j ≡ i = cc in (
        x,
        claimed,
        subst (λ ls. IsFirst (IsStepRight s t last g l ls) i) same
            (subst (IsFirst (IsStepRight s t last g l links)) e h),
      )

  -- the locks before this one have chains of their numbers
  pub numbers_below : (n : ℕ) → n ≤ length c.entry → HaveChainsBefore s t last g c n → HaveNumbersBelow c.chains n
  numbers_below n past have m lt =
      let l = at_of c.entry m (omega (arith, lt, past)) in
      let h = have m lt l.0 l.1 in
      (h.0, h.1.0, h.1.1)

  module _ (n : ℕ) (l : Lock) (at : slice_get c.entry n ≡ Some l) (have : HaveChainsBefore s t last g c n) where
    -- the fault of a chain is one of all chains
    chain_err : (A B : Type 0) (f : SectionFault) → JudgesChain {A = A} s t last g c n l (Err f)
        → JudgesChains {A = B} s t last g c (Err f)
    chain_err A B fault.Memory h = tt
    chain_err A B (fault.NotGenerated j) h = absurd h
    chain_err A B (fault.NotCarried i j) h = absurd h
    chain_err A B fault.EntryNotCovered h = absurd h
    chain_err A B fault.NotMaximal h = absurd h
    chain_err A B (fault.NoChain m) h =
        subst (λ k. JudgesChains {A = B} s t last g c (Err (fault.NoChain k))) (sym h.0)
        (slice_get_within c.entry n l at, have, h.1)
    chain_err A B (fault.BrokenChain m i) h =
        subst (λ k. JudgesChains {A = B} s t last g c (Err (fault.BrokenChain k i))) (sym h.0) (have, inl (l, at, h.1))

    -- the answer that passes the fault of a chain on
    pub chain_passed : (A : Type 0) {B : Type 0} (r : Result B SectionFault) (f : SectionFault)
        → IsErrAnd r (λ x. x ≡ f) → JudgesChain {A = A} s t last g c n l (Err f) → JudgesChains s t last g c r
    chain_passed A (Ok x) f is h = absurd is
    chain_passed A {B} (Err x) f is h =
        subst (λ z. JudgesChains {A = B} s t last g c (Err z)) (sym is) (chain_err A B f h)

    -- one lock more has its chain
    pub chains_more : HasChain s t last g c n l → HaveChainsBefore s t last g c (n + 1)
    chains_more h = below_next (HasItsChain s t last g c) n have
        (λ m at_m. subst (HasChain s t last g c n) (one_at c.entry n l m at at_m) h)

  module _ (n : ℕ) (past : length c.entry ≤ n) (have : HaveChainsBefore s t last g c n) where
    -- each lock has its chain
    pub chains_done : (m : ℕ) → HasItsChain s t last g c m
    chains_done m = λ l at. have m (let w = slice_get_within c.entry m l at in omega (arith, w, past)) l at

    -- then each number below the count of the locks is a chain's
    all_below : HaveNumbersBelow c.chains (length c.entry)
    all_below = numbers_below (length c.entry) (omega arith) (λ m lt. chains_done m)

    -- where no chain stands behind those, there is no other
    pub no_others : DoRise c.chains → length c.chains ≤ length c.entry → (x : ChainClaim) → Has c.chains x
        → x.lock < length c.entry
    no_others rise all x h = no_more c.chains rise (length c.entry) all_below all x h

    -- the chain that stands behind those is of no lock
    pub stray_breaks : DoRise c.chains → (x : ChainClaim) → slice_get c.chains (length c.entry) ≡ Some x
        → BreaksChain s t last g c x.lock 0
    stray_breaks rise x at = ((λ m lt. chains_done m), inr (stray c x rise all_below at, refl))
