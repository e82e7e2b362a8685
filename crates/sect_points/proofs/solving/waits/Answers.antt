use Rattle.sect_points.proofs.RoundLaws.{waits_assign, waits_load, waits_store}
use Rattle.sect_points.proofs.solving.waits.Goals as goal

pub returns-in-Assign : goal.returns-in-Assign
returns-in-Assign c e =
    let w = c.in-Assign in
    waits_assign c.args.placed.now w.field-0 w.value w.is (c.is_of_sets.ensures e)

pub returns-in-Load : goal.returns-in-Load
returns-in-Load c _ =
    let w = c.in-Load in
    waits_load c.args.placed.now w.field-0 w.field-1 w.field-2 w.is

pub returns-in-Store : goal.returns-in-Store
returns-in-Store c e =
    let w = c.in-Store in
    waits_store c.args.placed.now w.base w.field-1 w.field-2 w.is (c.is_base_of_sets.ensures e)
