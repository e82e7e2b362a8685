-- Sections of threads in an order, one after another, and then the local code behind the last of them.
use Rattle.std.proofs.Common.{◌≡◌, ◌<◌, ◌≤◌, ◌+◌, ◌∙◌, refl, sym, ap, subst, arith, ℕ, zero, suc, List, [], ◌∷◌}
use Rattle.std.proofs.Common.{map, length, Option, Some, None, true}
use Rattle.std.proofs.lemmas.Option.{slice_get_within}
use Rattle.std.specs.Prelude.{slice_get}
use Rattle.sect_lemmas.specs.Lists.{changed_at}
use Rattle.sect_lemmas.proofs.{Options.{none_or_some, mapped}, Replaced.{at_map, slice_get-map}}
use Rattle.sect_types.specs.{declared.meaning.store.End.{End}, Programs.{ProgramView}}
use Rattle.sect_types.specs.Whole.{FrameView, RunView, SerialEndView, EndsAs, ahead, all_ahead, has_ended}
use Rattle.sect_types.specs.Whole.{in_order, option_then, run_section, section_of_thread}
use Rattle.sect_types.proofs.shared.RunningAhead.{get-all_ahead}
use Rattle.sect_emit.specs.State.{ThreadState, State, IsThread, outside}
use Rattle.sect_world.specs.Worlds.{AllEnded}
use Rattle.sect_draw.specs.steps.Resting.{resting, after_or, left_by, gone_ahead, gone_through}
use Rattle.sect_draw.proofs.Lone.{section_never}

-- the first of these sections, and the others
pub first_section : (p : ProgramView) (t : ℕ) (ts : List ℕ) (r s : RunView) → in_order p (t ∷ ts) r ≡ Some s
    → (in_order p ts (gone_through p t r) ≡ Some s) × (left_by t (run_section p t r) ≡ t ∷ [])
first_section p t ts r s is = by (run_section p t r) is where
  by : (o : Option RunView) → option_then o (in_order p ts) ≡ Some s
      → (in_order p ts (after_or o (gone_ahead p t r)) ≡ Some s) × (left_by t o ≡ t ∷ [])
  by None is = absurd (none_or_some s is)
  by (Some q) is = (is, refl)

-- its thread is there
pub first_there : (p : ProgramView) (t : ℕ) (ts : List ℕ) (r s : RunView) → in_order p (t ∷ ts) r ≡ Some s
    → t < length r.frames
first_there p t ts r s is = by (slice_get r.frames t) refl is where
  by : (o : Option FrameView) → slice_get r.frames t ≡ o
      → option_then (section_of_thread p t o r) (in_order p ts) ≡ Some s → t < length r.frames
  by None at is = absurd (none_or_some s is)
  by (Some f) at is = slice_get_within r.frames t f at

-- the first n threads have run their local code, where the first is thread k
abbrev pub some_ahead : ProgramView → ℕ → ℕ → List FrameView → List FrameView
some_ahead p zero k fs = fs
some_ahead p (suc n) k [] = []
some_ahead p (suc n) k (f ∷ fs) = ahead p k f ∷ some_ahead p n (k + 1) fs

-- the next thread runs its own
next_ahead : (p : ProgramView) (n k m : ℕ) (fs : List FrameView) → m ≡ k + n
    → changed_at n (ahead p m) (some_ahead p n k fs) ≡ some_ahead p (suc n) k fs
next_ahead p zero k m [] is = refl
next_ahead p zero k m (f ∷ fs) is =
    ap (λ u. ahead p u f ∷ fs) (let same : m ≡ k = omega (arith, is) in same)
next_ahead p (suc n) k m [] is = refl
next_ahead p (suc n) k m (f ∷ fs) is =
    ap (λ gs. ahead p k f ∷ gs) (next_ahead p n (k + 1) m fs (omega (arith, is)))

-- which has not run before
not_yet : (p : ProgramView) (n k : ℕ) (fs : List FrameView) → slice_get (some_ahead p n k fs) n ≡ slice_get fs n
not_yet p zero k fs = refl
not_yet p (suc n) k [] = refl
not_yet p (suc n) k (f ∷ fs) = not_yet p n (k + 1) fs

-- all have
pub all_gone : (p : ProgramView) (n k : ℕ) (fs : List FrameView) → length fs ≤ n
    → some_ahead p n k fs ≡ all_ahead p k fs
all_gone p zero k [] few = refl
all_gone p zero k (f ∷ fs) few = absurd (omega (arith, few))
all_gone p (suc n) k [] few = refl
all_gone p (suc n) k (f ∷ fs) few = ap (λ gs. ahead p k f ∷ gs) (all_gone p n (k + 1) fs (omega (arith, few)))

pub as_many_ahead : (p : ProgramView) (n k : ℕ) (fs : List FrameView) → length (some_ahead p n k fs) ≡ length fs
as_many_ahead p zero k fs = refl
as_many_ahead p (suc n) k [] = refl
as_many_ahead p (suc n) k (f ∷ fs) = ap suc (as_many_ahead p n (k + 1) fs)

-- this state of whole sections, where the first n threads have run their local code
abbrev pub behind : ProgramView → ℕ → RunView → RunView
behind p n s = record { store = s.store; output = s.output; frames = some_ahead p n 0 s.frames }

-- a thread that has ended
ended_at : (ends : List End) (t : ℕ) (e : Option End) → slice_get (map Some ends) t ≡ Some e → has_ended e ≡ true
ended_at ends t e at =
    let from = slice_get-map Some ends t e at in ap has_ended (sym from.2)

-- each thread has ended once its local code is run
ends_there : (p : ProgramView) (s : RunView) (end : SerialEndView) → EndsAs p s end → (t : ℕ) (f : FrameView)
    → slice_get (all_ahead p 0 s.frames) t ≡ Some f → has_ended f.ended ≡ true
ends_there p s end ends t f at =
    ended_at end.ends t f.ended
    (sym (ap (λ es. slice_get es t) ends.ends) ∙ at_map (λ (g : FrameView). g.ended) (all_ahead p 0 s.frames) t f at)

-- no thread has a section more
pub no_section_behind : (p : ProgramView) (s : RunView) (end : SerialEndView) → EndsAs p s end → (n : ℕ)
    → run_section p n (behind p n s) ≡ None
no_section_behind p s end ends n =
    ap (λ o. section_of_thread p n o (behind p n s)) (not_yet p n 0 s.frames) ∙ by (slice_get s.frames n) refl where
      by : (o : Option FrameView) → slice_get s.frames n ≡ o → section_of_thread p n o (behind p n s) ≡ None
      by None at = refl
      by (Some f) at =
          section_never p n (ahead p n f) (behind p n s)
          (ends_there p s end ends n (ahead p n f) (get-all_ahead p 0 s.frames n
          ∙ (ap (λ m. mapped (ahead p m) (slice_get s.frames n)) (let e : 0 + n ≡ n = omega arith in e)
          ∙ ap (mapped (ahead p n)) at)))

-- the next thread runs its local code alone
pub next_behind : (p : ProgramView) (s : RunView) (end : SerialEndView) → EndsAs p s end → (n : ℕ)
    → (gone_through p n (behind p n s) ≡ behind p (n + 1) s) × (left_by n (run_section p n (behind p n s)) ≡ [])
next_behind p s end ends n =
    let none = no_section_behind p s end ends n in (
      ap (λ o. after_or o (gone_ahead p n (behind p n s))) none
          ∙ ap (λ fs. record { store = s.store; output = s.output; frames = fs })
          (next_ahead p n 0 n s.frames (let e : n ≡ 0 + n = omega arith in e)
          ∙ ap (λ m. some_ahead p m 0 s.frames) (let e : suc n ≡ n + 1 = omega arith in e)),
      ap (left_by n) none,
    )

-- and all have ended
pub all_ended : (p : ProgramView) (s : RunView) (end : SerialEndView) → EndsAs p s end → (n : ℕ)
    → length s.frames ≤ n → (w : State) → w ≡ resting (behind p n s) → AllEnded w
all_ended p s end ends n few w is t th at =
    let here : slice_get (map outside (some_ahead p n 0 s.frames)) t ≡ Some th =
    subst (λ (x : State). IsThread x t th) is at in
    let from = slice_get-map outside (some_ahead p n 0 s.frames) t th here in
    subst (λ (x : ThreadState). has_ended x.frame.ended ≡ true) from.2
    (ends_there p s end ends t from.0 (ap (λ fs. slice_get fs t) (sym (all_gone p n 0 s.frames few)) ∙ from.1))
