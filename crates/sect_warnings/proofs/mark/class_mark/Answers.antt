use Rattle.sect_warnings.specs.ClassLocks.{class_lock}
use Rattle.sect_warnings.proofs.ClassMarks.{taken_there}
use Rattle.sect_warnings.proofs.mark.class_mark.Goals as goal

pub reasons_of-requires-clause-section : goal.reasons_of-requires-clause-section
reasons_of-requires-clause-section c =
    taken_there c.args.accepted.compiled.now c.facts.ensures.compiled c.args.of.section
    (class_lock c.args.of.lock.class c.args.of.lock.effect) c.requires.taken
