use Rattle.sect_infer.specs.steps.Putting.{over_reads}
use Rattle.sect_infer.proofs.Extending.{numbered_added, read_above, read_over}
use Rattle.sect_names.specs.declared.lock.Effect.TheVariants as effect
use Rattle.sect_names.specs.declared.lock.Lock.TheVariants as lock
use Rattle.sect_infer.proofs.numbering.Numbering.put_read.Goals as goal

pub returns : goal.returns
returns c = λ s is told.
    let t = c.args.self.now in
    let p = c.args.path in
    let above = c.push_write.new.above.items in
    numbered_added s t c.add.new.self (lock.Path p effect.Read) c.args.class above c.in_ok-add.field-0.number
    c.in_ok-add.field-0.is_new is (read_above s t.keys p c.args.class above told
    (c.in_ok-push_write.ensures (over_reads c.args.class) c.in_ok-above.ensures))
    told (read_over s p) c.in_ok-add.ensures.new c.in_ok-add.ensures.old c.in_ok-add.ensures.there
