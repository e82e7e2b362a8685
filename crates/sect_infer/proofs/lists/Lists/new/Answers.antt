use Rattle.std.proofs.{Common.{◌∙◌}, lemmas.List.{length-map}}
use Rattle.sect_infer.specs.steps.Fronts.{rows_of, front_of}
use Rattle.sect_infer.proofs.Fronts.{empty_fronts, empty_lists}
use Rattle.sect_infer.proofs.lists.Lists.new.Goals as goal

pub invariant_of-result : goal.invariant_of-result
invariant_of-result c = empty_fronts (rows_of c.in_ok-rows.rows) c.in_ok-fronts.fronts.items c.args.count
    c.in_ok-rows.ensures c.in_ok-fronts.ensures

pub returns-clause-count : goal.returns-clause-count
returns-clause-count c =
    length-map c.in_ok-fronts.fronts.items (front_of (rows_of c.in_ok-rows.rows)) ∙ c.in_ok-fronts.ensures.count

pub returns-clause-none : goal.returns-clause-none
returns-clause-none c = empty_lists (rows_of c.in_ok-rows.rows) c.in_ok-fronts.fronts.items c.args.count
    c.in_ok-fronts.ensures
