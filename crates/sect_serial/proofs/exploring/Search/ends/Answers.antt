use Rattle.std.proofs.Common.{◌∙◌, ap, sym, subst, length, List, ℕ, Err, slice_get}
use Rattle.std.specs.Map.Iter.{deref_pair}
use Rattle.sect_lemmas.proofs.Membership.{Has-slice_get}
use Rattle.sect_types.specs.Whole.{RunView, EndsAs}
use Rattle.sect_serial.specs.Judging.{HasSectionLeft}
use Rattle.sect_serial.specs.steps.Frames.{AreReady, Finishes}
use Rattle.sect_serial.proofs.{EndLemmas.{end_kept, no_end}, JudgeLemmas.{left_over}}
use Rattle.sect_serial.proofs.exploring.Search.ends.Goals.{in-Ok+in_ok-keep-in-Ok, in-Err-SectionsLeft}
use Rattle.sect_serial.proofs.exploring.Search.ends.Goals as goal

pub finish-requires-clause-ready : goal.finish-requires-clause-ready
finish-requires-clause-ready c =
    let e : RunView × List ℕ = deref_pair c.at.result in
    let led = c.requires.states.led e (Has-slice_get c.args.states.now c.loop-place.place e c.at.ensures) in
    subst (λ (r : RunView). AreReady c.args.self.now.program.now 0 r.frames) (sym c.in_ok-try_clone.ensures) led.ready

pub finish-requires-clause-many : goal.finish-requires-clause-many
finish-requires-clause-many c =
    let e : RunView × List ℕ = deref_pair c.at.result in
    let led = c.requires.states.led e (Has-slice_get c.args.states.now c.loop-place.place e c.at.ensures) in
    ap (λ (r : RunView). length r.frames) c.in_ok-try_clone.ensures ∙ led.many

pub loop-place-preserved : goal.loop-place-preserved
loop-place-preserved c =
    let p = c.args.self.now.program.now in
    let fuel = c.args.self.now.fuel in
    let es = c.args.states.now in
    let n = c.loop-place.place in
    let e : RunView × List ℕ = deref_pair c.at.result in
    let led = c.requires.states.led e (Has-slice_get es n e c.at.ensures) in
    let s = c.in_ok-try_clone.field-0 in
    elim c.match-finish.branch [
      | in-Ok+in_ok-keep-in-Ok w ↦
          let ends = subst (λ (r : RunView). EndsAs p r w.in-Ok.end) c.in_ok-try_clone.ensures
          (subst (Finishes p s) w.in-Ok.is c.finish.ensures) in
          rw (w.ends-is) (end_kept p fuel es n c.loop-place.ends c.loop-place.invariant e c.at.ensures
          c.requires.states.rising led w.in-Ok.end ends
          w.keep.new.self w.in_ok-keep-in-Ok.ensures)
      | in-Err-SectionsLeft w ↦
          let t = w.in-Err-SectionsLeft.field-0-0 in
          let least = subst (Finishes p s) (w.in-Err-SectionsLeft.is ∙ ap Err w.in-Err-SectionsLeft.field-0-is)
          c.finish.ensures in
          let left = subst (λ (r : RunView). HasSectionLeft p t (slice_get r.frames t)) c.in_ok-try_clone.ensures
          least.0 in
          rw (w.ends-is) (no_end p fuel es n c.loop-place.ends c.loop-place.invariant e c.at.ensures
          (λ x. left_over p t e.0 x left))
    ]
