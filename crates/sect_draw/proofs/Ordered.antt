-- Threads go through their sections in an order, and then run the local code behind the last of them.
use Rattle.std.proofs.Common.{◌≡◌, ◌<◌, ◌≤◌, ◌+◌, ◌++◌, ◌∙◌, refl, sym, ap, subst, ℕ, List, [], ◌∷◌, length}
use Rattle.std.proofs.Common.{take, drop, get_or, Some, inl, inr, arith, Result, Ok, Err, IfOk, IsErrAnd}
use Rattle.std.proofs.lemmas.List.{append-nil, drop_more, take_more, drop_all, take_all, length-map}
use Rattle.std.specs.Prelude.{IsOkUnless}
use Rattle.sect_lemmas.specs.Lists.{Has}
use Rattle.sect_lemmas.proofs.{Membership.{Has-cases}, Options.{some_injective}}
use Rattle.sect_types.specs.Programs.{ProgramView}
use Rattle.sect_types.specs.Whole.{RunView, SerialEndView, EndsAs, RunsWhole, begun, in_order, run_section}
use Rattle.sect_emit.specs.{Compiled.{CompiledView, program_of}, State.{ThreadState, State, outside}}
use Rattle.sect_world.specs.{Runs.{order_of}, Worlds.{WorldView, AllEnded, IsRefused, first_world}}
use Rattle.sect_world.specs.declared.turned.WorldFault.{WorldFault}
use Rattle.sect_world.specs.declared.turned.WorldFault.TheVariants.{NoSuchThread, Memory}
use Rattle.sect_draw.specs.steps.Resting.{resting, run_of, IsResting, GoesThrough, left_by, gone_through}
use Rattle.sect_draw.proofs.InOrder.{first_section, first_there, behind, next_behind, all_ended, as_many_ahead}
use Rattle.sect_draw.proofs.{InOrder.{some_ahead}, OnItsWay.{run_so}}

-- where whole sections in this order lead on, the first n of its threads have gone through theirs
abbrev pub AreThrough : ProgramView → ℕ → List ℕ → ℕ → WorldView → Type 0
AreThrough p fuel order n w =
    (s : RunView) → in_order p order (begun p fuel) ≡ Some s
    → (in_order p (drop n order) (run_of w.state) ≡ Some s) × (order_of w.trace ≡ take n order)

-- and where they come to this end, all have, and the first n threads have run their local code
abbrev pub AreBehind : ProgramView → ℕ → List ℕ → ℕ → WorldView → Type 0
AreBehind p fuel order n w =
    (s : RunView) (end : SerialEndView) → in_order p order (begun p fuel) ≡ Some s → EndsAs p s end
    → (w.state ≡ resting (behind p n s)) × (order_of w.trace ≡ order)

pub none_through : (c : CompiledView) (fuel : ℕ) (order : List ℕ) (w : WorldView) → w ≡ first_world c fuel
    → AreThrough (program_of c) fuel order 0 w
none_through c fuel order w is = λ s runs.
    let p = program_of c in (
      ap (λ r. in_order p order r) (run_so w.state (begun p fuel) (ap (λ (x : WorldView). x.state) is)) ∙ runs,
      ap (λ (x : WorldView). order_of x.trace) is,
    )

module _ (p : ProgramView) (fuel : ℕ) (order : List ℕ) (n : ℕ) (w : WorldView) where
  next_of : AreThrough p fuel order n w → n < length order → (s : RunView) → in_order p order (begun p fuel) ≡ Some s
      → in_order p (get_or order n 0 ∷ drop (n + 1) order) (run_of w.state) ≡ Some s
  next_of through lt s runs =
      ap (λ ts. in_order p ts (run_of w.state)) (sym (drop_more order n 0 lt)) ∙ (through s runs).0

  -- the next of them is there
  pub next_there : AreThrough p fuel order n w → n < length order → (s : RunView)
      → in_order p order (begun p fuel) ≡ Some s → get_or order n 0 < length w.state.threads
  next_there through lt s runs =
      subst (λ m. get_or order n 0 < m) (length-map w.state.threads (λ (th : ThreadState). th.frame))
      (first_there p (get_or order n 0) (drop (n + 1) order) (run_of w.state) s (next_of through lt s runs))

  -- it goes through
  pub one_through : (v : WorldView) → AreThrough p fuel order n w → n < length order → program_of w.compiled ≡ p
      → GoesThrough (get_or order n 0) w v → AreThrough p fuel order (n + 1) v
  one_through v through lt same goes = λ s runs.
      let t = get_or order n 0 in
      let first = first_section p t (drop (n + 1) order) (run_of w.state) s (next_of through lt s runs) in
      let rests : v.state ≡ resting (gone_through p t (run_of w.state)) =
      subst (λ q. v.state ≡ resting (gone_through q t (run_of w.state))) same goes.rests in
      let left : order_of v.trace ≡ order_of w.trace ++ left_by t (run_section p t (run_of w.state)) =
      subst (λ q. order_of v.trace ≡ order_of w.trace ++ left_by t (run_section q t (run_of w.state))) same
      goes.order in (
        ap (in_order p (drop (n + 1) order)) (run_so v.state (gone_through p t (run_of w.state)) rests) ∙ first.0,
        left
            ∙ (ap (λ os. order_of w.trace ++ os) first.1
            ∙ (ap (λ os. os ++ t ∷ []) (through s runs).1 ∙ sym (take_more order n 0 lt))),
      )

  -- all have gone through
  pub none_behind : IsResting w.state → AreThrough p fuel order n w → length order ≤ n → AreBehind p fuel order 0 w
  none_behind rests through past = λ s end runs ends.
      let came = through s runs in
      let same : run_of w.state ≡ s = some_injective (run_of w.state) s
      (ap (λ ts. in_order p ts (run_of w.state)) (sym (drop_all n order past)) ∙ came.0) in
      (rests ∙ ap resting same, came.1 ∙ take_all n order past)

  -- the next thread runs its local code
  pub one_behind : (v : WorldView) → AreBehind p fuel order n w → program_of w.compiled ≡ p → GoesThrough n w v
      → AreBehind p fuel order (n + 1) v
  one_behind v before same goes = λ s end runs ends.
      let came = before s end runs ends in
      let at : run_of w.state ≡ behind p n s = run_so w.state (behind p n s) came.0 in
      let next = next_behind p s end ends n in (
        subst (λ q. v.state ≡ resting (gone_through q n (run_of w.state))) same goes.rests
            ∙ (ap (λ r. resting (gone_through p n r)) at ∙ ap resting next.0),
        subst (λ q. order_of v.trace ≡ order_of w.trace ++ left_by n (run_section q n (run_of w.state))) same goes.order
            ∙ (ap (λ r. order_of w.trace ++ left_by n (run_section p n r)) at
            ∙ (ap (λ os. order_of w.trace ++ os) next.1 ∙ (append-nil (order_of w.trace) ∙ came.1))),
      )

  -- all have, and so all have ended
  pub all_behind : AreBehind p fuel order n w → length w.state.threads ≤ n → (end : SerialEndView)
      → RunsWhole p fuel order end → AllEnded w.state × (order_of w.trace ≡ order)
  all_behind before few end whole =
      let s = whole.0 in
      let came = before s end whole.1 whole.2 in
      let many : length w.state.threads ≡ length s.frames =
      ap (λ (x : State). length x.threads) came.0
      ∙ (length-map (some_ahead p n 0 s.frames) outside ∙ as_many_ahead p n 0 s.frames) in
      (all_ended p s end whole.2 n (subst (λ k. k ≤ n) many few) w.state came.0, came.1)

-- all of an order are threads, up to its next
pub within_more : (ts : List ℕ) (n count : ℕ) → n < length ts → ((t : ℕ) → Has (take n ts) t → t < count)
    → get_or ts n 0 < count → (t : ℕ) → Has (take (n + 1) ts) t → t < count
within_more ts n count lt within here t has =
    elim (Has-cases (take n ts) (get_or ts n 0 ∷ []) t (subst (λ xs. Has xs t) (take_more ts n 0 lt) has)) [
      | inl old ↦ within t old
      | inr new ↦ elim new [
        | inl same ↦ subst (λ u. u < count) same here
        | inr none ↦ absurd none
      ]
    ]

-- the turn of a thread is refused for want of memory alone
pub only_memory : (fault : WorldFault) (t count : ℕ) → t < count → IsRefused fault t count → fault ≡ Memory
only_memory (NoSuchThread u) t count lt refused = absurd (omega (arith, lt, refused.1))
only_memory Memory t count lt refused = refl

-- which is why nothing is answered
pub memory_gives : {T : Type 0} (r : Result T WorldFault) (P : T → Type 0) (fault : WorldFault) → fault ≡ Memory
    → IsErrAnd r (λ why. why ≡ fault) → IfOk r P × IsOkUnless r Memory
memory_gives (Ok x) P fault is so = absurd so
memory_gives (Err why) P fault is so = (tt, so ∙ is)
