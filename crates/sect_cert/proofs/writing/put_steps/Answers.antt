use Rattle.std.proofs.Common.{◌∙◌, ◌++◌, ◌∷◌, arith, ap}
use Rattle.std.specs.Fmt.{decimal}
use Rattle.sect_cert.specs.steps.Writes.{arrow_before}
use Rattle.sect_cert.proofs.WriteLaws.{next_step_written}
use Rattle.sect_cert.proofs.writing.put_steps.Goals as goal

pub loop-index-preserved : goal.loop-index-preserved
loop-index-preserved c = record {
  written =
      next_step_written c.args.steps.now c.loop-index.index c.node.result c.args.out.now.items
      c.next_lock_text.new.text.items c.loop-index.out.items c.put_step.new.out.items
      (omega (arith, c.len-index-end.ensures, c.loop-index-test.true)) c.node.ensures c.in_ok-next_lock_text.ensures
      c.loop-index.invariant.written
      (c.in_ok-put_step.ensures
      ∙ ap (λ l. c.loop-index.out.items ++ (arrow_before c.loop-index.index ++ 32 ∷ (decimal c.node.result ++ l)))
      c.as_slice.ensures.value);
  lock = c.in_ok-next_lock_text.ensures;
}
