use Rattle.sect_infer.proofs.Carrying.{finds_one}
use Rattle.sect_infer.proofs.carry.find.Goals as goal

pub returns : goal.returns
returns c = rw c.in_ok-insert.ensures
    (finds_one c.args.scheme.now c.args.numbering.now c.number_taken.new.self c.args.found.now c.args.lock
    c.in_ok-number.number c.requires c.in_ok-number.ensures)
