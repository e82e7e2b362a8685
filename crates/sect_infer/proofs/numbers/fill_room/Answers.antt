use Rattle.std.proofs.Common.{◌≤◌, length, rules}
use Rattle.sect_infer.proofs.Marking.{grown_marks}
use Rattle.sect_infer.proofs.numbers.fill_room.Goals as goal

pub returns-clause-same : goal.returns-clause-same
returns-clause-same c = λ n.
    let old = c.args.marks.now in
    let short : length old.items ≤ c.capacity-room.result = search rules in
    grown_marks old.items c.resize.new.self.items c.capacity-room.result _ short c.in_ok-resize.ensures.items n
