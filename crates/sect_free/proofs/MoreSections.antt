-- What sections, one after another, leave with more fuel.
use Rattle.std.proofs.Common.{◌≡◌, ◌≢◌, ◌+◌, ◌⊎◌, inl, inr, ℕ, zero, suc, List, [], ◌∷◌, ◌++◌, Option, Some, None}
use Rattle.std.proofs.Common.{Bool, true, false, refl, sym, ap, subst, ◌∙◌, if◌then◌else◌, slice_get}
use Rattle.sect_types.specs.declared.declarations.types.ValueType.{ValueType}
use Rattle.sect_types.specs.{Statements.{TextView, Stop, Do, Choose, Loop, Section}, Programs.{ProgramView}}
use Rattle.sect_types.specs.{Store.{StoreView}, Meaning.{WorkView}}
use Rattle.sect_types.specs.Whole.{Left, Through, Broken, body_of, FrameView, RunView, settled, has_ended, ahead}
use Rattle.sect_types.specs.Whole.{after_section, section_by, section_in, section_of_thread, run_section, option_then}
use Rattle.sect_types.specs.Whole.{in_order, first_work, first_frames, begun, failed, frame_left}
use Rattle.sect_lemmas.specs.Lists.{put_at}
use Rattle.sect_lemmas.proofs.{Options.{some_injective, none_or_some}, Replaced.{put_same, put_other}}
use Rattle.std.proofs.lemmas.Bool.{cases_eq}
use Rattle.sect_free.proofs.MoreSteps.{more, Helped, body_helped, more_frame, FrameHelped, settled_more}
use Rattle.sect_free.specs.States.{FrameLacks, Lacks}
use Rattle.sect_free.proofs.MoreSteps.{ahead_helped, ahead_lacks}
use Rattle.sect_types.specs.declared.meaning.store.Fault.TheVariants as fault

-- the same frames with so much more fuel, for each thread its own, where the first is that of thread 0
abbrev pub more_frames : (ℕ → ℕ) → List FrameView → List FrameView
more_frames ds [] = []
more_frames ds (f ∷ fs) = more_frame (ds 0) f ∷ more_frames (λ k. ds (suc k)) fs

-- the same state with so much more fuel
abbrev pub more_run : (ℕ → ℕ) → RunView → RunView
more_run ds r = record r { frames = more_frames ds r.frames }

-- the frame of a thread
pub at_more : (ds : ℕ → ℕ) (fs : List FrameView) (t : ℕ) (f : FrameView) → slice_get fs t ≡ Some f
    → slice_get (more_frames ds fs) t ≡ Some (more_frame (ds t) f)
at_more ds [] t f at = absurd (none_or_some f at)
at_more ds (g ∷ fs) zero f at = ap (λ h. Some (more_frame (ds 0) h)) (some_injective g f at)
at_more ds (g ∷ fs) (suc t) f at = at_more (λ k. ds (suc k)) fs t f at

-- a frame put among them
more_put : (ds : ℕ → ℕ) (t : ℕ) (f : FrameView) (fs : List FrameView)
    → more_frames ds (put_at t f fs) ≡ put_at t (more_frame (ds t) f) (more_frames ds fs)
more_put ds t f [] = refl
more_put ds zero f (g ∷ fs) = refl
more_put ds (suc t) f (g ∷ fs) = ap (λ gs. more_frame (ds 0) g ∷ gs) (more_put (λ k. ds (suc k)) t f fs)

-- with more fuel it leads to the same, and all that is more is left, unless a thread wanted for some
abbrev pub RunHelped : (ℕ → ℕ) → RunView → Option RunView → Type 0
RunHelped ds q o = Lacks q ⊎ (o ≡ Some (more_run ds q))

-- what is left by a section that leaves this much, and this much with more fuel
after_helped : (t : ℕ) (ds : ℕ → ℕ) (rest : TextView) (r : RunView) (old : FrameView) (a b : Left)
    → slice_get r.frames t ≡ Some old → Helped (ds t) a b
    → RunHelped ds (after_section t rest a r) (Some (after_section t rest b (more_run ds r)))
after_helped t ds rest r old (Through w s) b at h =
    inr (ap (λ l. Some (after_section t rest l (more_run ds r))) h ∙ ap (placed s w) (framed ∙ sym frames)) where
      new : FrameView
      new = settled rest (record w { printed = [] })

      placed : StoreView → WorkView → List FrameView → Option RunView
      placed x v fs = Some (record { store = x; output = r.output ++ v.printed; frames = fs })

      frames : more_frames ds (put_at t new r.frames) ≡ put_at t (more_frame (ds t) new) (more_frames ds r.frames)
      frames = more_put ds t new r.frames

      framed : put_at t (settled rest (record (more (ds t) w) { printed = [] })) (more_frames ds r.frames)
          ≡ put_at t (more_frame (ds t) new) (more_frames ds r.frames)
      framed = ap (λ g. put_at t g (more_frames ds r.frames)) (settled_more (ds t) rest (record w { printed = [] }))
after_helped t ds rest r old (Broken fault.Fuel w s) b at h = inl (
  t,
  failed fault.Fuel rest (record w { printed = [] }),
  put_same t old (failed fault.Fuel rest (record w { printed = [] })) r.frames at,
  refl,
)
after_helped t ds rest r old (Broken fault.Null w s) b at h = inr
    (ap (λ l. Some (after_section t rest l (more_run ds r))) h
    ∙ ap (λ fs. Some (let q : RunView = record { store = s; output = r.output ++ w.printed; frames = fs } in q))
    (sym (more_put ds t (failed fault.Null rest (record w { printed = [] })) r.frames)))
after_helped t ds rest r old (Broken fault.Overflow w s) b at h = inr
    (ap (λ l. Some (after_section t rest l (more_run ds r))) h
    ∙ ap (λ fs. Some (let q : RunView = record { store = s; output = r.output ++ w.printed; frames = fs } in q))
    (sym (more_put ds t (failed fault.Overflow rest (record w { printed = [] })) r.frames)))

-- the section that a text begins with
by_helped : (p : ProgramView) (t : ℕ) (ds : ℕ → ℕ) (k : TextView) (w : WorkView) (r q : RunView) (old : FrameView)
    → slice_get r.frames t ≡ Some old
    → section_by p t k w r ≡ Some q → RunHelped ds q (section_by p t k (more (ds t) w) (more_run ds r))
by_helped p t ds Stop w r q old at e = absurd (none_or_some q e)
by_helped p t ds (Do a k) w r q old at e = absurd (none_or_some q e)
by_helped p t ds (Choose c y n k) w r q old at e = absurd (none_or_some q e)
by_helped p t ds (Loop c b k) w r q old at e = absurd (none_or_some q e)
by_helped p t ds (Section i part rest) w r q old at e =
    let left = body_of p t part w r.store in
    subst (λ (x : RunView). RunHelped ds x (section_by p t (Section i part rest) (more (ds t) w) (more_run ds r)))
    (some_injective (after_section t rest left r) q e)
    (after_helped t ds rest r old left (body_of p t part (more (ds t) w) r.store) at
    (body_helped p t (ds t) part w r.store))

-- the next section of a thread whose local code is run
in_helped : (p : ProgramView) (t : ℕ) (ds : ℕ → ℕ) (f g : FrameView) (r q : RunView) (old : FrameView)
    → slice_get r.frames t ≡ Some old → FrameHelped (ds t) f g
    → section_in p t f r ≡ Some q → RunHelped ds q (section_in p t g (more_run ds r))
in_helped p t ds f g r q old at (inl lacks) e =
    absurd (none_or_some q (sym (ap (λ b. if has_ended b then None else section_by p t f.text f.work r) lacks) ∙ e))
in_helped p t ds f g r q old at (inr same) e =
    subst (λ x. RunHelped ds q (section_in p t x (more_run ds r))) (sym same) (by (has_ended f.ended) e) where
      by : (b : Bool) → (if b then None else section_by p t f.text f.work r) ≡ Some q
          → RunHelped ds q (if b then None else section_by p t f.text (more (ds t) f.work) (more_run ds r))
      by true e = absurd (none_or_some q e)
      by false e = by_helped p t ds f.text f.work r q old at e

-- a thread's local code, and its next section
section_helped : (p : ProgramView) (t : ℕ) (ds : ℕ → ℕ) (r q : RunView) → run_section p t r ≡ Some q
    → RunHelped ds q (run_section p t (more_run ds r))
section_helped p t ds r q e = by (slice_get r.frames t) refl e where
  by : (o : Option FrameView) → slice_get r.frames t ≡ o → section_of_thread p t o r ≡ Some q
      → RunHelped ds q (run_section p t (more_run ds r))
  by None at e = absurd (none_or_some q e)
  by (Some f) at e =
      subst (λ o. RunHelped ds q (section_of_thread p t o (more_run ds r))) (sym (at_more ds r.frames t f at))
      (in_helped p t ds (ahead p t f) (ahead p t (more_frame (ds t) f)) r q f at (ahead_helped p t (ds t) f) e)

-- a thread that has ended for want of fuel has no section, and stays so
section_lacks : (p : ProgramView) (t : ℕ) (r q : RunView) → run_section p t r ≡ Some q → Lacks r → Lacks q
section_lacks p t r q e (u, f, at, lacks) = thread (slice_get r.frames t) refl e where
  kept : (rest : TextView) (left : Left) → t ≢ u → after_section t rest left r ≡ q → Lacks q
  kept rest left other same =
      subst Lacks same (u, f, put_other t u (frame_left rest left) r.frames other ∙ at, lacks)

  text : t ≢ u → (k : TextView) (w : WorkView) → section_by p t k w r ≡ Some q → Lacks q
  text other Stop w e = absurd (none_or_some q e)
  text other (Do a k) w e = absurd (none_or_some q e)
  text other (Choose c y n k) w e = absurd (none_or_some q e)
  text other (Loop c b k) w e = absurd (none_or_some q e)
  text other (Section i part rest) w e =
      kept rest (body_of p t part w r.store) other (some_injective _ q e)

  ended : t ≢ u → (g : FrameView) (b : Bool) → (if b then None else section_by p t g.text g.work r) ≡ Some q → Lacks q
  ended other g true e = absurd (none_or_some q e)
  ended other g false e = text other g.text g.work e

  own : (g : FrameView) → FrameLacks g → section_in p t g r ≡ Some q → Lacks q
  own g lacks e = absurd
      (none_or_some q (sym (ap (λ b. if has_ended b then None else section_by p t g.text g.work r) lacks) ∙ e))

  thread : (o : Option FrameView) → slice_get r.frames t ≡ o → section_of_thread p t o r ≡ Some q → Lacks q
  thread None there e = absurd (none_or_some q e)
  thread (Some g) there e = which (cases_eq t u) where
    which : (t ≡ u) ⊎ (t ≢ u) → Lacks q
    which (inl same) = own (ahead p t g)
        (ahead_lacks p t g (subst FrameLacks
        (some_injective f g (sym at ∙ ap (slice_get r.frames) (sym same) ∙ there)) lacks)) e
    which (inr other) = ended other (ahead p t g) (has_ended (ahead p t g).ended) e

-- sections in an order keep it so
pub order_lacks : (p : ProgramView) (order : List ℕ) (r q : RunView) → in_order p order r ≡ Some q → Lacks r → Lacks q
order_lacks p [] r q e h = subst Lacks (some_injective r q e) h
order_lacks p (t ∷ ts) r q e h = by (λ x. order_lacks p ts x q) (run_section p t r) refl e where
  by : ((x : RunView) → in_order p ts x ≡ Some q → Lacks x → Lacks q) → (o : Option RunView) → run_section p t r ≡ o
      → option_then o (in_order p ts) ≡ Some q → Lacks q
  by again None ran e = absurd (none_or_some q e)
  by again (Some x) ran e = again x e (section_lacks p t r x ran h)

-- and lead to the same with more fuel
pub order_helped : (p : ProgramView) (ds : ℕ → ℕ) (order : List ℕ) (r q : RunView) → in_order p order r ≡ Some q
    → RunHelped ds q (in_order p order (more_run ds r))
order_helped p ds [] r q e = inr (ap (λ o. Some (more_run ds o)) (some_injective r q e))
order_helped p ds (t ∷ ts) r q e = by (λ x. order_helped p ds ts x q) (run_section p t r) refl e where
  by : ((x : RunView) → in_order p ts x ≡ Some q → RunHelped ds q (in_order p ts (more_run ds x)))
      → (o : Option RunView) → run_section p t r ≡ o → option_then o (in_order p ts) ≡ Some q
      → RunHelped ds q (in_order p (t ∷ ts) (more_run ds r))
  by again None ran e = absurd (none_or_some q e)
  by again (Some x) ran e = on (section_helped p t ds r x ran) where
    on : RunHelped ds x (run_section p t (more_run ds r)) → RunHelped ds q (in_order p (t ∷ ts) (more_run ds r))
    on (inl lacks) = inl (order_lacks p ts x q e lacks)
    on (inr same) = subst (λ o. RunHelped ds q (option_then o (in_order p ts))) (sym same) (again x e)

-- the frames at the start
first_more : (d fuel : ℕ) (texts : List TextView) (locals : List (List ValueType))
    → more_frames (λ k. d) (first_frames fuel texts locals) ≡ first_frames (d + fuel) texts locals
first_more d fuel [] locals = refl
first_more d fuel (text ∷ texts) [] =
    pushed (settled_more d text (first_work fuel [])) (first_more d fuel texts []) where
      pushed : {f g : FrameView} {fs gs : List FrameView} → f ≡ g → gs ≡ fs → g ∷ gs ≡ f ∷ fs
      pushed e h = λ i. sym e i ∷ h i
first_more d fuel (text ∷ texts) (types ∷ locals) =
    pushed (settled_more d text (first_work fuel types)) (first_more d fuel texts locals) where
      pushed : {f g : FrameView} {fs gs : List FrameView} → f ≡ g → gs ≡ fs → g ∷ gs ≡ f ∷ fs
      pushed e h = λ i. sym e i ∷ h i

-- and the state
pub begun_more : (p : ProgramView) (d fuel : ℕ) → more_run (λ k. d) (begun p fuel) ≡ begun p (d + fuel)
begun_more p d fuel =
    ap (λ fs. let r : RunView = record { store = (begun p fuel).store; output = []; frames = fs } in r)
    (first_more d fuel p.texts p.locals)
