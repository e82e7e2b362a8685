use Rattle.sect_infer.proofs.Extending.{class_above}
use Rattle.sect_infer.proofs.numbering.Numbering.put_class.Goals as goal

pub returns : goal.returns
returns c = λ s is broad. c.put_over.ensures s is broad (class_above s c.args.self.now.keys c.args.class c.args.right
    c.in_ok-above.above.items c.in_ok-above.ensures)
