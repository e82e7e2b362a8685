use Rattle.std.proofs.lemmas.Slice.Eq.{slice_eq-Decides}
use Rattle.sect_front.proofs.Sameness.{global_tells}
use Rattle.sect_front.proofs.same.same_globals.Goals as goal

pub returns : goal.returns
returns c = slice_eq-Decides global_tells c.args.left.now c.args.right.now c.eq.result c.eq.ensures
