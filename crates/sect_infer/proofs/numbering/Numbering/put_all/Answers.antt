use Rattle.std.proofs.Common.{sym, subst}
use Rattle.sect_infer.specs.Numberings.{AreAbove}
use Rattle.sect_infer.proofs.Extending.{all_above}
use Rattle.sect_names.specs.declared.lock.Lock.TheVariants as lock
use Rattle.sect_infer.proofs.numbering.Numbering.put_all.Goals as goal

pub returns : goal.returns
returns c = λ s is. c.put_over.ensures s is tt
    (subst (AreAbove s c.args.self.now.keys lock.All) (sym c.new.ensures.items) (all_above s c.args.self.now.keys))
