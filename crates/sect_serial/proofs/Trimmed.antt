-- What a thread that has ended has in its locals makes no difference to what comes.
use Rattle.std.proofs.Common.{◌≡◌, ◌+◌, ◌∙◌, refl, sym, ap, ℕ, List, [], ◌∷◌, map, Option, Some}
use Rattle.std.proofs.{Common.{None, true, ◌++◌, if◌then◌else◌}, lemmas.Option.{slice_get-map}}
use Rattle.std.specs.{Prelude.{slice_get}, Option.{option_map}}
use Rattle.sect_lemmas.specs.Lists.{put_at}
use Rattle.sect_lemmas.proofs.{Options.{map_part}, Replaced.{map_put}}
use Rattle.sect_types.specs.{declared.meaning.store.End.{End}, Programs.{ProgramView}}
use Rattle.sect_types.specs.Statements.{TextView, Stop, Do, Choose, Loop, Section}
use Rattle.sect_types.specs.Meaning.{WorkView}
use Rattle.sect_types.specs.Whole.{FrameView, RunView, SerialEndView, ahead, all_ahead, body_of, frame_left, store_left}
use Rattle.sect_types.specs.Whole.{printed_left, run_section, section_of_thread, section_in, section_by, EndsAs, Left}
use Rattle.sect_types.specs.Whole.{after_section, is_standing, has_ended, begins_section}
use Rattle.sect_types.specs.declared.meaning.store.Datum.{Datum}
use Rattle.sect_types.proofs.shared.RunningAhead.{ahead_standing}
use Rattle.sect_serial.specs.Trimming.{trimmed_frame, trimmed, in_use}

-- a thread that hasn't ended is as it was
kept_whole : (f : FrameView) → f.ended ≡ None → trimmed_frame f ≡ f
kept_whole f e = ap (λ o. record {
  text = f.text;
  work = record {
    locals = in_use o f.work.locals;
    fuel = f.work.fuel;
    made = f.work.made;
    printed = f.work.printed;
  };
  ended = f.ended;
}) e

-- one that has ended stands
stands : (g : FrameView) (e : End) → g.ended ≡ Some e → is_standing g ≡ true
stands g e is = ap (λ o. if has_ended o then true else begins_section g.text) is

-- how a thread comes to its end
same_end : (p : ProgramView) (t : ℕ) (f : FrameView) → (ahead p t (trimmed_frame f)).ended ≡ (ahead p t f).ended
same_end p t f = by f.ended refl where
  by : (o : Option End) → f.ended ≡ o → (ahead p t (trimmed_frame f)).ended ≡ (ahead p t f).ended
  by None is = ap (λ g. (ahead p t g).ended) (kept_whole f is)
  by (Some e) is =
      ap (λ (g : FrameView). g.ended) (ahead_standing p t (trimmed_frame f) (stands (trimmed_frame f) e is))
      ∙ sym (ap (λ (g : FrameView). g.ended) (ahead_standing p t f (stands f e is)))

same_ends : (p : ProgramView) (k : ℕ) (fs : List FrameView)
    → map (λ (f : FrameView). f.ended) (all_ahead p k (map trimmed_frame fs))
    ≡ map (λ (f : FrameView). f.ended) (all_ahead p k fs)
same_ends p k [] = refl
same_ends p k (f ∷ fs) = λ i. same_end p k f i ∷ same_ends p (k + 1) fs i

-- states that are the same but for such locals come to the same end
pub trimmed_ends : (p : ProgramView) (r s : RunView) (e : SerialEndView) → trimmed r ≡ trimmed s → EndsAs p r e
    → EndsAs p s e
trimmed_ends p r s e same ends = record {
  store = ends.store ∙ ap (λ (x : RunView). x.store) same;
  output = ends.output ∙ ap (λ (x : RunView). x.output) same;
  ends = sym (same_ends p 0 s.frames) ∙ ap (λ (x : RunView). map (λ (f : FrameView). f.ended) (all_ahead p 0 x.frames))
      (sym same) ∙ same_ends p 0 r.frames ∙ ends.ends;
}

-- what is trimmed twice is trimmed once
used_twice : (o : Option End) (locals : List Datum) → in_use o (in_use o locals) ≡ in_use o locals
used_twice None locals = refl
used_twice (Some e) locals = refl

frame_twice : (f : FrameView) → trimmed_frame (trimmed_frame f) ≡ trimmed_frame f
frame_twice f = ap (λ locals. record {
  text = f.text;
  work = record { locals = locals; fuel = f.work.fuel; made = f.work.made; printed = f.work.printed };
  ended = f.ended;
}) (used_twice f.ended f.work.locals)

frames_twice : (fs : List FrameView) → map trimmed_frame (map trimmed_frame fs) ≡ map trimmed_frame fs
frames_twice [] = refl
frames_twice (f ∷ fs) = λ i. frame_twice f i ∷ frames_twice fs i

-- what a section leaves of a state that is trimmed
same_after : (t : ℕ) (rest : TextView) (left : Left) (r : RunView)
    → trimmed (after_section t rest left (trimmed r)) ≡ trimmed (after_section t rest left r)
same_after t rest left r =
    let g = frame_left rest left in
    ap (λ fs. record { store = store_left left; output = r.output ++ printed_left left; frames = fs })
    (map_put trimmed_frame t g (map trimmed_frame r.frames)
    ∙ ap (put_at t (trimmed_frame g)) (frames_twice r.frames)
    ∙ sym (map_put trimmed_frame t g r.frames))

-- a thread that hasn't ended runs its section alike
same_by : (p : ProgramView) (t : ℕ) (r : RunView) (text : TextView) (w : WorkView)
    → option_map trimmed (section_by p t text w (trimmed r)) ≡ option_map trimmed (section_by p t text w r)
same_by p t r Stop w = refl
same_by p t r (Do a k) w = refl
same_by p t r (Choose c y z k) w = refl
same_by p t r (Loop c l k) w = refl
same_by p t r (Section i part rest) w = ap (λ x. Some x) (same_after t rest (body_of p t part w r.store) r)

same_in : (p : ProgramView) (t : ℕ) (r : RunView) (o : Option End) (text : TextView) (w : WorkView)
    → option_map trimmed (if has_ended o then None else section_by p t text w (trimmed r))
    ≡ option_map trimmed (if has_ended o then None else section_by p t text w r)
same_in p t r None text w = same_by p t r text w
same_in p t r (Some e) text w = refl

-- a section leads from both to the same
same_section : (p : ProgramView) (t : ℕ) (r : RunView) (f : FrameView)
    → option_map trimmed (section_in p t (ahead p t (trimmed_frame f)) (trimmed r))
    ≡ option_map trimmed (section_in p t (ahead p t f) r)
same_section p t r f = by f.ended refl where
  over : (g : FrameView) (s : RunView) (e : End) → g.ended ≡ Some e
      → option_map trimmed (section_in p t (ahead p t g) s) ≡ None
  over g s e is =
      ap (λ h. option_map trimmed (section_in p t h s)) (ahead_standing p t g (stands g e is))
      ∙ ap (λ o. option_map trimmed (if has_ended o then None else section_by p t g.text g.work s)) is

  by : (o : Option End) → f.ended ≡ o
      → option_map trimmed (section_in p t (ahead p t (trimmed_frame f)) (trimmed r))
      ≡ option_map trimmed (section_in p t (ahead p t f) r)
  by None is =
      let g = ahead p t f in
      ap (λ h. option_map trimmed (section_in p t (ahead p t h) (trimmed r))) (kept_whole f is)
      ∙ same_in p t r g.ended g.text g.work
  by (Some e) is = over (trimmed_frame f) (trimmed r) e is ∙ sym (over f r e is)

same_run : (p : ProgramView) (t : ℕ) (r : RunView)
    → option_map trimmed (run_section p t (trimmed r)) ≡ option_map trimmed (run_section p t r)
same_run p t r =
    ap (λ o. option_map trimmed (section_of_thread p t o (trimmed r))) (slice_get-map trimmed_frame r.frames t)
    ∙ by (slice_get r.frames t) where
      by : (o : Option FrameView)
          → option_map trimmed (section_of_thread p t (option_map trimmed_frame o) (trimmed r))
          ≡ option_map trimmed (section_of_thread p t o r)
      by None = refl
      by (Some f) = same_section p t r f

-- states that are the same but for such locals go on alike
pub trimmed_section : (p : ProgramView) (t : ℕ) (r s q : RunView) → trimmed r ≡ trimmed s → run_section p t r ≡ Some q
    → (o : RunView) × (run_section p t s ≡ Some o) × (trimmed o ≡ trimmed q)
trimmed_section p t r s q same ran = map_part trimmed (run_section p t s) (trimmed q)
    (sym (same_run p t s) ∙ ap (λ x. option_map trimmed (run_section p t x)) (sym same) ∙ same_run p t r
    ∙ ap (option_map trimmed) ran)
