-- A program has one first fault.
use Rattle.std.proofs.Common.{◌≡◌, ℕ, Result, Ok, Err, IsOkUnless, refl, inl, inr, sym, ap, ◌∙◌, subst, arith, rules}
use Rattle.sect_types.specs.Programs.{ProgramView}
use Rattle.sect_hints.specs.{declared.fault.Rule.{Rule}, declared.fault.HintFault.{HintFault}}
use Rattle.sect_hints.specs.declared.fault.HintFault.TheVariants.{Memory, NoSuchGlobal, GuardIsGuarded, HintTwice}
use Rattle.sect_hints.specs.{Hints.{ObeysHints, IsFirstFault, rank}, Faults.{hint_fault, Judges, Refuses}}
use Rattle.sect_hints.specs.declared.fault.Rule.TheVariants as rule

same_rank : (q s : Rule) → rank q ≡ rank s → q ≡ s
same_rank rule.HintTwice rule.HintTwice e = refl
same_rank rule.HintTwice rule.NoSuchGlobal e = absurd (omega arith)
same_rank rule.HintTwice rule.GuardIsGuarded e = absurd (omega arith)
same_rank rule.NoSuchGlobal rule.HintTwice e = absurd (omega arith)
same_rank rule.NoSuchGlobal rule.NoSuchGlobal e = refl
same_rank rule.NoSuchGlobal rule.GuardIsGuarded e = absurd (omega arith)
same_rank rule.GuardIsGuarded rule.HintTwice e = absurd (omega arith)
same_rank rule.GuardIsGuarded rule.NoSuchGlobal e = absurd (omega arith)
same_rank rule.GuardIsGuarded rule.GuardIsGuarded e = refl

-- two first faults of a program are one
same_fault : (p : ProgramView) (i j : ℕ) (q s : Rule) → IsFirstFault p i q → IsFirstFault p j s
    → hint_fault q i ≡ hint_fault s j
same_fault p i j q s one other =
    let here : i ≡ j = omega (arith, one.first j s other.broken, other.first i q one.broken) in
    let moved : IsFirstFault p i s = subst (λ n. IsFirstFault p n s) (sym here) other in
    let ranked : rank q ≡ rank s = omega (arith, one.least s moved.broken, moved.least q one.broken) in
    ap (λ n. hint_fault q n) here ∙ ap (λ r. hint_fault r j) (same_rank q s ranked)

-- so a program that breaks no rule isn't refused, and one that does is refused with its first fault
pub only : (A : Type 0) (p : ProgramView) (answer : Result A HintFault) → Judges p answer → ObeysHints p
    → IsOkUnless answer Memory
only A p (Ok a) judges obeys = search rules
only A p (Err Memory) judges obeys = search rules
only A p (Err (NoSuchGlobal r)) judges obeys = absurd (obeys r rule.NoSuchGlobal judges.broken)
only A p (Err (GuardIsGuarded r)) judges obeys = absurd (obeys r rule.GuardIsGuarded judges.broken)
only A p (Err (HintTwice r)) judges obeys = absurd (obeys r rule.HintTwice judges.broken)

pub refuses : (A : Type 0) (p : ProgramView) (answer : Result A HintFault) → Judges p answer → (r : ℕ) (q : Rule)
    → IsFirstFault p r q → Refuses (hint_fault q r) answer
refuses A p (Ok a) judges r q fault = judges r q fault.broken
refuses A p (Err Memory) judges r q fault = inr refl
refuses A p (Err (NoSuchGlobal i)) judges r q fault = inl (same_fault p i r rule.NoSuchGlobal q judges fault)
refuses A p (Err (GuardIsGuarded i)) judges r q fault = inl (same_fault p i r rule.GuardIsGuarded q judges fault)
refuses A p (Err (HintTwice i)) judges r q fault = inl (same_fault p i r rule.HintTwice q judges fault)
