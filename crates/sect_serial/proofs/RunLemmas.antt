-- The run of a program by whole sections.
use Rattle.std.proofs.Common.{true≢false, ◌≡◌, ◌<◌, ◌+◌, ℕ, ℤ, zero, suc, List, [], ◌∷◌, ◌++◌, Option, Some, None, Bool}
use Rattle.std.proofs.Common.{true, false, refl, sym, ap, subst, ◌∙◌, arith, if◌then◌else◌, length, drop, add-one}
use Rattle.std.proofs.Common.{append_assoc, length-append, slice_get, slice_set, slice_index_or}
use Rattle.sect_types.specs.Statements.{TextView, Stop, Do, Choose, Loop, Section}
use Rattle.sect_types.specs.{Programs.{ProgramView, environment_at}, Sound.{IsSound}}
use Rattle.sect_types.specs.{declared.declarations.types.ValueType.{ValueType}, Store.{StoreView}, Meaning.{WorkView}}
use Rattle.sect_types.specs.Whole.{FrameView, RunView, settled, first_work, first_frames, ahead, has_ended}
use Rattle.sect_types.specs.Whole.{begins_section, section_by, section_in, section_of_thread, run_section, option_then}
use Rattle.sect_types.specs.Whole.{in_order}
use Rattle.sect_lemmas.specs.Lists.{put_at}
use Rattle.sect_serial.specs.steps.Frames.{SectionLeaves, HasNone, Ran, RanSection, IsReady, AreReady}
use Rattle.sect_lemmas.proofs.Changed.{set_put, get_there}
use Rattle.sect_serial.proofs.SoundLemmas.{ready_settled}
use Rattle.sect_types.proofs.shared.Starts.{settled_text}

-- runs of equal parts are one
serial_alike : (s r : StoreView) (o q : List ℤ) (fs gs : List FrameView) → s ≡ r → o ≡ q → fs ≡ gs
    → Some (let a : RunView = record { store = s; output = o; frames = fs } in a) ≡ Some
    (let b : RunView = record { store = r; output = q; frames = gs } in b)
serial_alike s r o q fs gs x y z = λ i. Some (record { store = x i; output = y i; frames = z i })

-- statements that begin with a section, and run it so, are a section of the thread that runs
section_ran : (p : ProgramView) (t : ℕ) (k : TextView) (w : WorkView) (s : RunView) (g : FrameView) (r : StoreView)
    (more : List ℤ)
    → SectionLeaves p t k w s.store g r more
    → section_by p t k w s ≡ Some (record { store = r; output = s.output ++ more; frames = slice_set s.frames t g })
section_ran p t (Section i part rest) w s g r more h =
    serial_alike _ _ _ _ _ _ (sym h.1) (ap (λ m. s.output ++ m) (sym h.2))
    (ap (λ x. put_at t x s.frames) (sym h.0) ∙ sym (set_put t g s.frames))
section_ran p t Stop w s g r more h = absurd h
section_ran p t (Do a k) w s g r more h = absurd h
section_ran p t (Choose c y n k) w s g r more h = absurd h
section_ran p t (Loop c b k) w s g r more h = absurd h

-- a frame without a section next runs none
no_section : (p : ProgramView) (t : ℕ) (f : FrameView) (s : RunView) → HasNone f → section_in p t f s ≡ None
no_section p t f s h = by (has_ended f.ended) refl where
  text : (k : TextView) → (begins_section k ≡ true → ⊥) → section_by p t k f.work s ≡ None
  text Stop h = refl
  text (Do a k) h = refl
  text (Choose c y n k) h = refl
  text (Loop c b k) h = refl
  text (Section i b k) h = absurd (h refl)

  by : (b : Bool) → has_ended f.ended ≡ b → (if b then None else section_by p t f.text f.work s) ≡ None
  by true e = refl
  by false e = text f.text (λ begins. true≢false (sym (h begins) ∙ e))

-- thread t, which has frame f, ran, as its frame says
pub ran_section : (p : ProgramView) (t : ℕ) (s : RunView) (f g : FrameView) (r : StoreView) (printed : List ℤ)
    (b : Bool)
    → t < length s.frames → f ≡ slice_index_or s.frames t f → Ran p t f s.store s.output b g r printed
    → RanSection p t s b (record { store = r; output = printed; frames = slice_set s.frames t g })
ran_section p t s f g r printed true le is h =
    ap (λ o. section_of_thread p t o s) (get_there t f s.frames le is)
    ∙ ap (λ b. if b then None else section_by p t (ahead p t f).text (ahead p t f).work s) h.1
    ∙ section_ran p t (ahead p t f).text (ahead p t f).work s g r h.0 h.2
    ∙ ap (λ o. Some (let a : RunView = record { store = r; output = o; frames = slice_set s.frames t g } in a))
    (sym h.3)
ran_section p t s f g r printed false le is h =
    ap (λ o. section_of_thread p t o s) (get_there t f s.frames le is) ∙ no_section p t (ahead p t f) s h

-- one of the ready frames is ready for its own thread, where the first is that of thread k
ready_get_from : (p : ProgramView) (k n : ℕ) (f : FrameView) (fs : List FrameView) → n < length fs
    → f ≡ slice_index_or fs n f → AreReady p k fs
    → IsReady (environment_at p (k + n)) f
ready_get_from p k n f [] le is h = absurd (omega (arith, le))
ready_get_from p k zero f (x ∷ fs) le is h =
    subst (λ m. IsReady (environment_at p m) f) (let e : k ≡ k + 0 = omega arith in e)
    (subst (IsReady (environment_at p k)) (sym is) h.0)
ready_get_from p k (suc n) f (x ∷ fs) le is h =
    subst (λ m. IsReady (environment_at p m) f) (let e : k + 1 + n ≡ k + suc n = omega arith in e)
    (ready_get_from p (k + 1) n f fs (omega (arith, le)) is h.1)

-- the same from thread 0 on
pub ready_get : (p : ProgramView) (n : ℕ) (f : FrameView) (fs : List FrameView) → n < length fs
    → f ≡ slice_index_or fs n f → AreReady p 0 fs
    → IsReady (environment_at p n) f
ready_get p n f fs le is h = subst (λ m. IsReady (environment_at p m) f) (let e : 0 + n ≡ n = omega arith in e)
    (ready_get_from p 0 n f fs le is h)

-- the frames stay ready where one is replaced by a ready one
ready_set_from : (p : ProgramView) (k n : ℕ) (g : FrameView) (fs : List FrameView)
    → IsReady (environment_at p (k + n)) g → AreReady p k fs
    → AreReady p k (slice_set fs n g)
ready_set_from p k n g [] r h = tt
ready_set_from p k zero g (x ∷ fs) r h =
    (subst (λ m. IsReady (environment_at p m) g) (let e : k + 0 ≡ k = omega arith in e) r, h.1)
ready_set_from p k (suc n) g (x ∷ fs) r h = (
  h.0,
  ready_set_from p (k + 1) n g fs
      (subst (λ m. IsReady (environment_at p m) g) (let e : k + suc n ≡ k + 1 + n = omega arith in e) r) h.1,
)

-- the same from thread 0 on
pub ready_set : (p : ProgramView) (n : ℕ) (g : FrameView) (fs : List FrameView) → IsReady (environment_at p n) g
    → AreReady p 0 fs
    → AreReady p 0 (slice_set fs n g)
ready_set p n g fs r h = ready_set_from p 0 n g fs
    (subst (λ m. IsReady (environment_at p m) g) (let e : n ≡ 0 + n = omega arith in e) r) h

-- one thread more of the order
pub in_order_more : (p : ProgramView) (ts : List ℕ) (t : ℕ) (s r q : RunView) → in_order p ts s ≡ Some r
    → run_section p t r ≡ Some q
    → in_order p (ts ++ t ∷ []) s ≡ Some q
in_order_more p [] t s r q e h = let same : s ≡ r = cc in
    ap (λ o. option_then o (in_order p [])) (ap (run_section p t) same ∙ h)
in_order_more p (u ∷ ts) t s r q e h = by (run_section p u s) (λ x. in_order_more p ts t x r q) e where
  by : (o : Option RunView) → ((x : RunView) → in_order p ts x ≡ Some r → run_section p t r ≡ Some q
      → in_order p (ts ++ t ∷ []) x ≡ Some q)
      → option_then o (in_order p ts) ≡ Some r → option_then o (in_order p (ts ++ t ∷ [])) ≡ Some q
  by None again e = absurd (cc)
  by (Some x) again e = again x e h

-- nothing is left of no list
drop_none : {A : Type 0} → (n : ℕ) → drop n (let xs : List A = [] in xs) ≡ []
drop_none zero = refl
drop_none (suc n) = refl

-- the frames at the start from thread n on: its own, and the others
frames_drop : (fuel n : ℕ) (texts : List TextView) (locals : List (List ValueType)) (text : TextView)
    → slice_get texts n ≡ Some text
    → first_frames fuel (drop n texts) (drop n locals)
    ≡ settled text (first_work fuel (slice_index_or locals n [])) ∷ first_frames fuel (drop (suc n) texts)
    (drop (suc n) locals)
frames_drop fuel n [] locals text e = absurd (cc)
frames_drop fuel zero (x ∷ texts) [] text e = let q : x ≡ text = cc in
    ap (λ k. settled k (first_work fuel []) ∷ first_frames fuel texts []) q
frames_drop fuel zero (x ∷ texts) (y ∷ locals) text e = let q : x ≡ text = cc in
    ap (λ k. settled k (first_work fuel y) ∷ first_frames fuel texts locals) q
frames_drop fuel (suc n) (x ∷ texts) [] text e =
    ap (first_frames fuel (drop n texts)) (sym (drop_none n)) ∙ frames_drop fuel n texts [] text e
frames_drop fuel (suc n) (x ∷ texts) (y ∷ locals) text e = frames_drop fuel n texts locals text e

-- one ready frame more
ready_push : (p : ProgramView) (k : ℕ) (fs : List FrameView) (f : FrameView) → AreReady p k fs
    → IsReady (environment_at p (k + length fs)) f → AreReady p k (fs ++ f ∷ [])
ready_push p k [] f h r = (subst (λ m. IsReady (environment_at p m) f) (let e : k + 0 ≡ k = omega arith in e) r, tt)
ready_push p k (x ∷ fs) f h r = (
  h.0,
  ready_push p (k + 1) fs f h.1
      (subst (λ m. IsReady (environment_at p m) f)
      (let e : k + suc (length fs) ≡ k + 1 + length fs = omega arith in e) r),
)

-- one frame more at the start
pub frame_more : (p : ProgramView) (fuel n : ℕ) (fs : List FrameView) (text : TextView) (types : List ValueType)
    (f : FrameView)
    → length fs ≡ n → fs ++ first_frames fuel (drop n p.texts) (drop n p.locals) ≡ first_frames fuel p.texts p.locals
    → slice_get p.texts n ≡ Some text → types ≡ slice_index_or p.locals n [] → f ≡ settled text (first_work fuel types)
    → (fs ++ f ∷ []) ++ first_frames fuel (drop (n + 1) p.texts) (drop (n + 1) p.locals) ≡ first_frames fuel p.texts
    p.locals
frame_more p fuel n fs text types f long so_far is of made =
    rw (add-one, append_assoc, made, of)
    (sym (ap (λ gs. fs ++ gs) (frames_drop fuel n p.texts p.locals text is)) ∙ so_far)

-- the frame of the next thread at the start is ready
pub ready_more : (p : ProgramView) (fuel n : ℕ) (fs : List FrameView) (text : TextView) (types : List ValueType)
    (f : FrameView)
    → length fs ≡ n → AreReady p 0 fs → IsSound (environment_at p n) false text
    → f ≡ settled text (first_work fuel types)
    → AreReady p 0 (fs ++ f ∷ [])
ready_more p fuel n fs text types f long all sound made =
    let e : n ≡ 0 + length fs = omega (arith, long) in
    let w = first_work fuel types in
    let here : IsReady (environment_at p n) (settled text w) =
    (subst (IsSound (environment_at p n) false) (sym (settled_text text w)) sound, ready_settled text w) in
    ready_push p 0 fs f all (subst (λ m. IsReady (environment_at p m) f) e
    (subst (IsReady (environment_at p n)) (sym made) here))

-- there is one frame more
pub long_more : (n : ℕ) (fs : List FrameView) (f : FrameView) → length fs ≡ n → length (fs ++ f ∷ []) ≡ n + 1
long_more n fs f e = rw length-append (omega (arith, e))
