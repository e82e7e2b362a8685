-- The local code of all threads, run to its end.
use Rattle.std.proofs.Common.{true≢false, ◌≡◌, ◌<◌, ◌+◌, ℕ, suc, List, [], ◌∷◌, ◌++◌, Option, Some, None, refl}
use Rattle.std.proofs.{Common.{sym, ap, ◌∙◌, arith, map, slice_get, length, take}, lemmas.List.{map-append}}
use Rattle.sect_types.specs.{Programs.{ProgramView}, declared.meaning.store.End.{End}}
use Rattle.sect_types.specs.Whole.{FrameView, RunView, ahead, all_ahead, has_ended}
use Rattle.sect_lemmas.proofs.{Options.{mapped}, Elements.{taken}}
use Rattle.sect_types.proofs.shared.RunningAhead.{get-all_ahead}
use Rattle.sect_serial.specs.Judging.{HasSectionLeft, IsLeastLeft}
use Rattle.sect_serial.proofs.JudgeLemmas.{ended_at}

-- one frame more is run on
all_ahead-more : (p : ProgramView) (k : ℕ) (fs : List FrameView) (f : FrameView)
    → all_ahead p k (fs ++ f ∷ []) ≡ all_ahead p k fs ++ ahead p (k + length fs) f ∷ []
all_ahead-more p k [] f = ap (λ n. ahead p n f ∷ []) (let e : k ≡ k + 0 = omega arith in e)
all_ahead-more p k (x ∷ fs) f =
    ap (λ r. ahead p k x ∷ r) (all_ahead-more p (k + 1) fs f
    ∙ ap (λ n. all_ahead p (k + 1) fs ++ ahead p n f ∷ [])
    (let e : k + 1 + length fs ≡ k + suc (length fs) = omega arith in e))

-- how the first threads have ended, and the next one
pub ends_more : (p : ProgramView) (fs : List FrameView) (f g : FrameView) (ends : List End) (e : End)
    → map Some ends ≡ map (λ (f : FrameView). f.ended) (all_ahead p 0 fs)
    → g ≡ ahead p (length fs) f → g.ended ≡ Some e
    → map Some (ends ++ e ∷ []) ≡ map (λ (f : FrameView). f.ended) (all_ahead p 0 (fs ++ f ∷ []))
ends_more p fs f g ends e so_far is some =
    let last : Some e ≡ (ahead p (0 + length fs) f).ended =
    sym some ∙ ap (λ (f : FrameView). f.ended) is
    ∙ ap (λ n. (ahead p n f).ended) (let z : length fs ≡ 0 + length fs = omega arith in z) in
    map-append Some ends (e ∷ [])
    ∙ ap (λ r. r ++ Some e ∷ []) so_far
    ∙ ap (λ o. map (λ (f : FrameView). f.ended) (all_ahead p 0 fs) ++ o ∷ []) last
    ∙ sym (ap (map (λ (f : FrameView). f.ended)) (all_ahead-more p 0 fs f)
    ∙ map-append (λ (f : FrameView). f.ended) (all_ahead p 0 fs) (ahead p (0 + length fs) f ∷ []))

-- the first thread that hasn't ended is the least with a section left
pub least_left : (p : ProgramView) (s : RunView) (n : ℕ) (f g : FrameView) (ends : List End)
    → slice_get s.frames n ≡ Some f → g ≡ ahead p n f → g.ended ≡ None
    → map Some ends ≡ map (λ (f : FrameView). f.ended) (all_ahead p 0 (take n s.frames)) → IsLeastLeft p s n
least_left p s n f g ends at is none so_far = (here, λ u lt. earlier u lt (slice_get s.frames u) refl) where
  here : HasSectionLeft p n (slice_get s.frames n)
  here = rw at (ap has_ended (ap (λ (f : FrameView). f.ended) (sym is) ∙ none))

  earlier : (u : ℕ) → u < n → (o : Option FrameView) → slice_get s.frames u ≡ o → HasSectionLeft p u o → ⊥
  earlier u lt None there h = h
  earlier u lt (Some x) there h =
      let first = get-all_ahead p 0 (take n s.frames) u
      ∙ ap (mapped (ahead p (0 + u))) (taken s.frames n u lt ∙ there) in
      let zeroed : ahead p (0 + u) x ≡ ahead p u x = ap (λ m. ahead p m x) (let z : 0 + u ≡ u = omega arith in z) in
      true≢false (sym (ended_at (all_ahead p 0 (take n s.frames)) ends u (ahead p (0 + u) x) (sym so_far) first)
      ∙ ap (λ (f : FrameView). has_ended f.ended) zeroed ∙ h)
