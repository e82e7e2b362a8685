use Rattle.std.proofs.Common.{◌≡◌, ap, sym, ◌∙◌, subst, length, map, take, slice_get, Some, List, ℕ}
use Rattle.std.proofs.lemmas.Iterator.Adapters.{YieldsList-from_vec}
use Rattle.std.proofs.{lemmas.Iterator.Consumers.{YieldsList-turn, YieldsList-so_far}, lemmas.List.{map-id}}
use Rattle.sect_types.specs.{Programs.{environment_at}, Whole.{FrameView, RunView, ahead, all_ahead}}
use Rattle.sect_lemmas.proofs.Changed.{get_there}
use Rattle.sect_serial.specs.steps.Frames.{AreReady, IsReady}
use Rattle.sect_serial.proofs.{FinishLemmas.{ends_more, least_left}, RunLemmas.{long_more, ready_get}}
use Rattle.sect_serial.proofs.run.Run.finish.Goals as goal

pub run_ahead-requires : goal.run_ahead-requires
run_ahead-requires c =
    let p = c.args.program.now in
    let frames = c.self.inside.frames in
    let given = c.into_iter-frame-iterator.ensures.into_iter_gives in
    let all = YieldsList-from_vec frames.items given.0 (given.1 ∙ frames.ok.0) in
    let turn = YieldsList-turn all c.loop-frame.yielded _ c.loop-frame.yielded_by c.next.result c.next.new.self
    c.in-Some.frame c.in-Some.is c.next.ensures.steps in
    let ready : AreReady p 0 frames.items =
    subst (λ (s : RunView). AreReady p 0 s.frames) (sym c.self.view_is) c.requires.ready in
    subst (λ n. IsReady (environment_at p n) c.in-Some.frame) (sym c.loop-frame.invariant.number)
    (ready_get p (length c.loop-frame.yielded) c.in-Some.frame frames.items turn.0 turn.1 ready)

pub returns-in-None-ended : goal.returns-in-None-ended
returns-in-None-ended c =
    let p = c.args.program.now in
    let frames = c.self.inside.frames in
    let s = c.args.self in
    let f = c.in-Some.frame in
    let n = c.loop-frame.thread in
    let yielded = c.loop-frame.yielded in
    let given = c.into_iter-frame-iterator.ensures.into_iter_gives in
    let all = YieldsList-from_vec frames.items given.0 (given.1 ∙ frames.ok.0) in
    let turn = YieldsList-turn all yielded _ c.loop-frame.yielded_by c.next.result c.next.new.self f c.in-Some.is
    c.next.ensures.steps in
    let own : frames.items ≡ s.frames = ap (λ (r : RunView). r.frames) c.self.view_is in
    let at : slice_get s.frames n ≡ Some f =
    ap (slice_get s.frames) c.loop-frame.invariant.number
    ∙ ap (λ (fs : List FrameView). slice_get fs (length yielded)) (sym own)
    ∙ get_there (length yielded) f frames.items turn.0 turn.1 in
    let first : yielded ≡ take n s.frames =
    sym (map-id yielded) ∙ YieldsList-so_far all yielded _ c.loop-frame.yielded_by
    ∙ ap (λ (fs : List FrameView). take (length yielded) fs) own
    ∙ ap (λ (m : ℕ). take m s.frames) (sym c.loop-frame.invariant.number) in
    least_left p s n f c.run_ahead.new.self c.loop-frame.ends.items at c.in_ok-run_ahead.ensures.ahead
    (sym c.ended.ensures ∙ c.in-None-ended.is)
    (c.loop-frame.invariant.ends ∙ ap (λ (fs : List FrameView). map (λ (f : FrameView). f.ended) (all_ahead p 0 fs))
    first)

pub loop-frame-preserved : goal.loop-frame-preserved
loop-frame-preserved c =
    let p = c.args.program.now in
    let f = c.in-Some.frame in
    let g = c.run_ahead.new.self in
    let yielded = c.loop-frame.yielded in
    let is : g ≡ ahead p (length yielded) f = c.in_ok-run_ahead.ensures.ahead
    ∙ ap (λ (n : ℕ). ahead p n f) c.loop-frame.invariant.number in
    let some : g.ended ≡ Some c.in-Some-ended.end = sym c.ended.ensures ∙ c.in-Some-ended.is in
    record {
      next = tt;
      finite = tt;
      number = sym (long_more c.loop-frame.thread yielded f (sym c.loop-frame.invariant.number));
      ends = rw c.in_ok-push-in-Some-ended.ensures.items
          (ends_more p yielded f g c.loop-frame.ends.items c.in-Some-ended.end c.loop-frame.invariant.ends is some);
      store = c.in_ok-run_ahead.ensures.store ∙ c.loop-frame.invariant.store;
    }
