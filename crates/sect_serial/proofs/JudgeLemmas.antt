-- A refusal excludes an end.
use Rattle.std.proofs.Common.{true≢false, ◌≡◌, ◌+◌, ℕ, zero, suc, List, [], ◌∷◌, ◌++◌, Option, Some, None, true, refl}
use Rattle.std.proofs.Common.{sym, ap, ◌∙◌, arith, map, slice_get}
use Rattle.sect_types.specs.{Programs.{ProgramView}, declared.meaning.store.End.{End}}
use Rattle.sect_types.specs.Whole.{FrameView, RunView, SerialEndView, ahead, all_ahead, has_ended, run_section}
use Rattle.sect_types.specs.Whole.{option_then, in_order, begun, EndsAs, RunsWhole}
use Rattle.sect_serial.specs.Judging.{StopsAt, IsLeastLeft, HasSectionLeft}
use Rattle.sect_types.proofs.shared.RunningAhead.{get-all_ahead}
use Rattle.sect_lemmas.proofs.Options.{mapped}

-- an order that stops somewhere doesn't run
pub stops : (p : ProgramView) (before : List ℕ) (t : ℕ) (after : List ℕ) (s r : RunView) → in_order p before s ≡ Some r
    → run_section p t r ≡ None
    → in_order p (before ++ t ∷ after) s ≡ None
stops p [] t after s r e n = let same : s ≡ r = cc in
    ap (λ o. option_then o (in_order p after)) (ap (run_section p t) same ∙ n)
stops p (u ∷ us) t after s r e n = by (run_section p u s) (λ x. stops p us t after x r) e where
  by : (o : Option RunView) → ((x : RunView) → in_order p us x ≡ Some r → run_section p t r ≡ None
      → in_order p (us ++ t ∷ after) x ≡ None)
      → option_then o (in_order p us) ≡ Some r → option_then o (in_order p (us ++ t ∷ after)) ≡ None
  by None again e = absurd (cc)
  by (Some x) again e = again x e n

-- so the program doesn't come to an end in it
pub no_end_at : (p : ProgramView) (fuel : ℕ) (order : List ℕ) (t : ℕ) (e : SerialEndView) → StopsAt p fuel order t
    → RunsWhole p fuel order e → ⊥
no_end_at p fuel order t e h w =
    let none : in_order p order (begun p fuel) ≡ None = ap (λ o. in_order p o (begun p fuel)) h.3
    ∙ stops p h.0 t h.1 (begun p fuel) h.2 h.4 h.5 in
    absurd (let q : Some w.0 ≡ None = sym w.1 ∙ none in cc)

-- where all have ended, none has a section left
pub ended_at : (xs : List FrameView) (es : List End) (i : ℕ) (f : FrameView)
    → map (λ (f : FrameView). f.ended) xs ≡ map Some es → slice_get xs i ≡ Some f → has_ended f.ended ≡ true
ended_at [] es i f e g = absurd (cc)
ended_at (x ∷ xs) [] i f e g = absurd (cc)
ended_at (x ∷ xs) (y ∷ es) zero f e g = let q : x ≡ f = cc in let r : x.ended ≡ Some y = cc in
    ap (λ (f : FrameView). has_ended f.ended) (sym q) ∙ ap has_ended r
ended_at (x ∷ xs) (y ∷ es) (suc i) f e g = let r : map (λ (f : FrameView). f.ended) xs ≡ map Some es = cc in
    ended_at xs es i f r g

-- a thread with a section left hasn't ended
pub left_over : (p : ProgramView) (t : ℕ) (s : RunView) (e : SerialEndView) → HasSectionLeft p t (slice_get s.frames t)
    → EndsAs p s e → ⊥
left_over p t s e h ends = by (slice_get s.frames t) refl h where
  by : (o : Option FrameView) → slice_get s.frames t ≡ o → HasSectionLeft p t o → ⊥
  by None is h = h
  by (Some f) is h =
      let there = get-all_ahead p 0 s.frames t ∙ ap (mapped (ahead p (0 + t))) is in
      let zeroed : ahead p (0 + t) f ≡ ahead p t f = ap (λ n. ahead p n f) (omega arith) in
      true≢false (sym (ended_at (all_ahead p 0 s.frames) e.ends t (ahead p (0 + t) f) ends.ends there)
      ∙ ap (λ (f : FrameView). has_ended f.ended) zeroed ∙ h)

-- so the program doesn't come to an end where a section is left
pub no_end_left : (p : ProgramView) (fuel : ℕ) (order : List ℕ) (t : ℕ) (s : RunView) (e : SerialEndView)
    → in_order p order (begun p fuel) ≡ Some s
    → IsLeastLeft p s t → RunsWhole p fuel order e → ⊥
no_end_left p fuel order t s e ran least w =
    let q : Some s ≡ Some w.0 = sym ran ∙ w.1 in
    let same : s ≡ w.0 = cc in
    left_over p t w.0 e (rw (sym same) least.0) w.2
