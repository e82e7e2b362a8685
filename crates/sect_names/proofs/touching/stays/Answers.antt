use Rattle.sect_names.proofs.touching.stays.Goals as goal

pub returns : goal.returns
returns c = λ on s lawful. c.leaves.ensures on s c.args.thread c.args.label.now c.of.ensures lawful
