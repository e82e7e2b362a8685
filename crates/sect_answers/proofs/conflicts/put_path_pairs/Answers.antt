use Rattle.sect_answers.proofs.Conflicting.{first_named, other_named}
use Rattle.sect_answers.proofs.conflicts.put_path_pairs.Goals as goal

pub put_path_pair-requires : goal.put_path_pair-requires
put_path_pair-requires c =
    first_named c.args.program.now c.in-Some.first.now c.args.pairs.now c.in-Some.others.now c.in-Some.ensures.cases.0
    c.requires.named

pub put_path_pair-requires-in-loop-pair : goal.put_path_pair-requires-in-loop-pair
put_path_pair-requires-in-loop-pair c =
    other_named c.args.program.now c.in-Some.first.now c.args.pairs.now c.in-Some.others.now c.in-Some.ensures.cases.0
    c.requires.named c.loop-pair.pair-index _ c.loop-pair-test.true c.pair-item.is
