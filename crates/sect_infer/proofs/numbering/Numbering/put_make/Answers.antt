use Rattle.sect_infer.proofs.Extending.{numbered_added, class_above, make_over}
use Rattle.sect_names.specs.declared.lock.Right.TheVariants as right
use Rattle.sect_names.specs.declared.lock.Lock.TheVariants as lock
use Rattle.std.proofs.Common.{None}
use Rattle.sect_infer.proofs.numbering.Numbering.put_make.Goals as goal

pub returns : goal.returns
returns c = λ s is.
    let t = c.args.self.now in
    let above = c.in_ok-above.above.items in
    numbered_added s t c.add.new.self (lock.Class c.args.class right.Make) None above c.in_ok-add.field-0.number
    c.in_ok-add.field-0.is_new is (class_above s t.keys c.args.class right.Make above c.in_ok-above.ensures) tt
    (make_over s c.args.class) c.in_ok-add.ensures.new c.in_ok-add.ensures.old c.in_ok-add.ensures.there
