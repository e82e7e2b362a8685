use Rattle.std.proofs.Common.{◌≡◌, ◌≤◌, List, subst, [], ap, ◌∙◌, length, slice_index_or}
use Rattle.sect_types.specs.{declared.declarations.types.ValueType.{ValueType}, Whole.{settled, first_work}}
use Rattle.sect_lemmas.proofs.Changed.{or_past}
use Rattle.sect_serial.proofs.RunLemmas.{frame_more, ready_more, long_more}
use Rattle.sect_serial.proofs.run.Run.begin.Goals.{in-None+in_ok-frame-in-None, in-Some+in_ok-frame-in-Some}
use Rattle.sect_serial.proofs.run.Run.begin.Goals as goal

pub loop-thread-preserved : goal.loop-thread-preserved
loop-thread-preserved c =
    let p = c.args.program.now in
    let n = c.loop-thread.thread in
    let fs = c.loop-thread.frames.items in
    let text = c.text-text.result.now in
    let types = slice_index_or p.locals n [] in
    let f = c.match-get.frame in
    let made : f ≡ settled text (first_work c.args.fuel types) =
    elim c.match-get.branch [
      | in-None+in_ok-frame-in-None w ↦
          let none : length p.locals ≤ n =
          subst (λ (ls : List (List ValueType)). length ls ≤ n) c.locals.ensures w.in-None.ensures.lookup.3 in
          w.frame-is ∙ w.in_ok-frame-in-None.ensures
          ∙ ap (λ ts. settled text (first_work c.args.fuel ts)) (or_past n [] p.locals none)
      | in-Some+in_ok-frame-in-Some w ↦
          w.frame-is ∙ w.in_ok-frame-in-Some.ensures
          ∙ ap (λ ts. settled text (first_work c.args.fuel ts))
          (w.as_slice.ensures ∙ w.in-Some.ensures.lookup.3.1 []
          ∙ ap (λ (ls : List (List ValueType)). slice_index_or ls n []) c.locals.ensures)
    ] in
    record {
      long = rw c.in_ok-push.ensures.items (long_more n fs f c.loop-thread.invariant.long);
      made = rw c.in_ok-push.ensures.items
          (frame_more p c.args.fuel n fs text types f c.loop-thread.invariant.long c.loop-thread.invariant.made
          c.text-text.ensures.text (λ i. types) made);
      ready = rw c.in_ok-push.ensures.items
          (ready_more p c.args.fuel n fs text types f c.loop-thread.invariant.long c.loop-thread.invariant.ready
          c.text-text.ensures.sound made);
    }
