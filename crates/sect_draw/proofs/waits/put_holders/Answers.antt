use Rattle.std.proofs.Common.{◌++◌, ◌<◌, length, ap, ◌∙◌, arith}
use Rattle.std.specs.String.{string_bytes}
use Rattle.sect_emit.specs.{Compiled.{program_of}, Labels.{thread_name}}
use Rattle.sect_world.specs.Sights.{mode_in}
use Rattle.sect_draw.specs.Waits.{against_text, holder_text}
use Rattle.sect_draw.proofs.Pieces.{piece_more}
use Rattle.sect_draw.proofs.waits.put_holders.Goals as goal

pub loop-holder-preserved : goal.loop-holder-preserved
loop-holder-preserved c =
    let p = program_of c.args.world.now.compiled in
    let threads = c.args.world.now.state.threads in
    let u = c.loop-holder.holder in
    let within : u < length threads = omega (arith, c.loop-holder-test.true, c.thread_count-holder-end.ensures.count) in
    record {
      added = piece_more (holder_text p c.args.wish) threads u (string_bytes c.loop-holder.text)
          (string_bytes c.put_holder.new.text) _ within
          (λ x at. c.in_ok-put_holder.ensures
          ∙ ap (λ m. string_bytes c.loop-holder.text ++ against_text (thread_name p.source u) m c.args.wish.mode)
          (ap (mode_in c.args.wish.key) at)) c.loop-holder.invariant.added;
    }
