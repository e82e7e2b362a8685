-- A refusal that is due is the one that is given.
use Rattle.std.proofs.Common.{◌≡◌, ℕ, List, [], ◌∷◌, ◌++◌, Option, Some, None, Result, Ok, Err, sym, ap, ◌∙◌, subst}
use Rattle.std.proofs.{Common.{arith, inl, inr}, lemmas.Bool.{cases_lt}}
use Rattle.sect_types.specs.Programs.{ProgramView}
use Rattle.sect_types.specs.Whole.{RunView, SerialEndView, run_section, option_then, in_order, begun, RunsWhole}
use Rattle.sect_types.proofs.shared.Endings.{whole_comes_to_one}
use Rattle.sect_lemmas.proofs.Options.{some_injective, none_or_some}
use Rattle.sect_serial.specs.Judging.{StopsAt, IsLeastLeft, LeavesSections, IsDue, Judges, Gives, Refuses}
use Rattle.sect_serial.specs.declared.whole.SerialFault.{SerialFault}
use Rattle.sect_serial.specs.declared.whole.SerialFault.TheVariants.{Memory, NoSection, SectionsLeft}
use Rattle.sect_serial.specs.steps.Frames.{Finishes}
use Rattle.sect_serial.proofs.JudgeLemmas.{stops, no_end_at, no_end_left}

-- an order stops at one number alone
same_stop : (p : ProgramView) (before other : List ℕ) (t u : ℕ) (after more : List ℕ) (s r q : RunView)
    → before ++ t ∷ after ≡ other ++ u ∷ more
    → in_order p before s ≡ Some r → run_section p t r ≡ None → in_order p other s ≡ Some q → run_section p u q ≡ None
    → t ≡ u
same_stop p [] [] t u after more s r q e a b c d = cc
same_stop p [] (y ∷ other) t u after more s r q e a b c d =
    let first : t ≡ y = cc in
    let none : run_section p y s ≡ None = ap (λ n. run_section p n s) (sym first)
    ∙ ap (run_section p t) (some_injective s r a) ∙ b in
    absurd (none_or_some q (sym (ap (λ o. option_then o (in_order p other)) none) ∙ c))
same_stop p (x ∷ before) [] t u after more s r q e a b c d =
    let first : x ≡ u = cc in
    let none : run_section p x s ≡ None = ap (λ n. run_section p n s) first
    ∙ ap (run_section p u) (some_injective s q c) ∙ d in
    absurd (none_or_some r (sym (ap (λ o. option_then o (in_order p before)) none) ∙ a))
same_stop p (x ∷ before) (y ∷ other) t u after more s r q e a b c d =
    let first : x ≡ y = cc in
    let rest : before ++ t ∷ after ≡ other ++ u ∷ more = cc in
    by (run_section p x s) (λ n g h. same_stop p before other t u after more n r q rest g b h d) a
    (ap (λ n. option_then (run_section p n s) (in_order p other)) first ∙ c) where
      by : (o : Option RunView) → ((n : RunView) → in_order p before n ≡ Some r → in_order p other n ≡ Some q → t ≡ u)
          → option_then o (in_order p before) ≡ Some r → option_then o (in_order p other) ≡ Some q → t ≡ u
      by None go g h = absurd (none_or_some r g)
      by (Some n) go g h = go n g h

-- the first number that stops an order is one
one_stop : (p : ProgramView) (fuel : ℕ) (order : List ℕ) (t u : ℕ) → StopsAt p fuel order t → StopsAt p fuel order u
    → t ≡ u
one_stop p fuel order t u a b = same_stop p a.0 b.0 t u a.1 b.1 (begun p fuel) a.2 b.2 (sym a.3 ∙ b.3) a.4 a.5 b.4 b.5

-- an order that stops leaves no sections
stops_or_leaves : (p : ProgramView) (fuel : ℕ) (order : List ℕ) (t u : ℕ) → StopsAt p fuel order t
    → LeavesSections p fuel order u → ⊥
stops_or_leaves p fuel order t u a b =
    none_or_some b.0 (sym (ap (λ o. in_order p o (begun p fuel)) a.3 ∙ stops p a.0 t a.1 (begun p fuel) a.2 a.4 a.5)
    ∙ b.1)

-- one thread is the least with a section left
one_least : (p : ProgramView) (s : RunView) (t u : ℕ) → IsLeastLeft p s t → IsLeastLeft p s u → t ≡ u
one_least p s t u a b = elim (cases_lt t u) [
  | inl before ↦ absurd (b.1 t before a.0)
  | inr past ↦ elim (cases_lt u t) [ inl before ↦ absurd (a.1 u before b.0) | inr other ↦ omega (arith, past, other) ]
]

-- the least thread with a section left is one
one_left : (p : ProgramView) (fuel : ℕ) (order : List ℕ) (t u : ℕ) → LeavesSections p fuel order t
    → LeavesSections p fuel order u → t ≡ u
one_left p fuel order t u a b =
    let same : b.0 ≡ a.0 = some_injective b.0 a.0 (sym b.1 ∙ a.1) in
    one_least p a.0 t u a.2 (subst (λ (s : RunView). IsLeastLeft p s u) same b.2)

-- what is judged right is refused only as is due
pub judged_refuses : (p : ProgramView) (fuel : ℕ) (order : List ℕ) (result : Result SerialEndView SerialFault)
    → Judges p fuel order result
    → (why : SerialFault) → IsDue p fuel order why → Refuses why result
judged_refuses p fuel order (Ok e) j (NoSection t) h = no_end_at p fuel order t e h j
judged_refuses p fuel order (Ok e) j (SectionsLeft t) h = no_end_left p fuel order t h.0 e h.1 h.2 j
judged_refuses p fuel order (Ok e) j Memory h = h
judged_refuses p fuel order (Err Memory) j why h = tt
judged_refuses p fuel order (Err (NoSection t)) j (NoSection u) h = ap NoSection (one_stop p fuel order u t h j)
judged_refuses p fuel order (Err (NoSection t)) j (SectionsLeft u) h = absurd (stops_or_leaves p fuel order t u j h)
judged_refuses p fuel order (Err (NoSection t)) j Memory h = absurd h
judged_refuses p fuel order (Err (SectionsLeft t)) j (NoSection u) h = absurd (stops_or_leaves p fuel order u t h j)
judged_refuses p fuel order (Err (SectionsLeft t)) j (SectionsLeft u) h =
    ap SectionsLeft (one_left p fuel order u t h j)
judged_refuses p fuel order (Err (SectionsLeft t)) j Memory h = absurd h

-- an end that the order comes to is given where it is judged right
pub judged_only : (p : ProgramView) (fuel : ℕ) (order : List ℕ) (result : Result SerialEndView SerialFault)
    → Judges p fuel order result
    → (e : SerialEndView) → RunsWhole p fuel order e → Gives e result
judged_only p fuel order (Ok a) j e w = whole_comes_to_one p fuel order a e j w
judged_only p fuel order (Err (NoSection t)) j e w = no_end_at p fuel order t e j w
judged_only p fuel order (Err (SectionsLeft t)) j e w = no_end_left p fuel order t j.0 e j.1 j.2 w
judged_only p fuel order (Err Memory) j e w = tt

-- an order that runs is judged by what the run comes to
pub finished : (p : ProgramView) (fuel : ℕ) (order : List ℕ) (s : RunView) (result : Result SerialEndView SerialFault)
    → in_order p order (begun p fuel) ≡ Some s → Finishes p s result → Judges p fuel order result
finished p fuel order s (Ok e) ran f = (s, ran, f)
finished p fuel order s (Err (NoSection t)) ran f = absurd f
finished p fuel order s (Err (SectionsLeft t)) ran f = (s, ran, f)
finished p fuel order s (Err Memory) ran f = tt
