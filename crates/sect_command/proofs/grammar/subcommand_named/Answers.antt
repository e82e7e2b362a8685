-- The row of a name is that of its command.
use Rattle.std.proofs.Common.{◌∙◌, arith, ap, sym}
use Rattle.std.proofs.lemmas.List.{drop_all}
use Rattle.sect_command.specs.Commands.{commands}
use Rattle.sect_command.proofs.Rows.{named_alike, named_here, named_behind, row_named, subcommand_in}
use Rattle.sect_command.proofs.grammar.subcommand_named.Goals as goal

pub returns-then-eq : goal.returns-then-eq
returns-then-eq c =
    let rows = c.rows-row-items.result.now in
    let here = named_here c.args.name.now rows c.loop-row.row-index _ (omega arith) (sym c.eq.ensures ∙ c.if-eq.true) in
    ap subcommand_in (sym here ∙ c.loop-row.invariant)
    ∙ named_alike c.args.name.now rows commands c.rows-row-items.ensures

pub loop-row-preserved : goal.loop-row-preserved
loop-row-preserved c = named_behind c.args.name.now c.rows-row-items.result.now c.loop-row.row-index _ (omega arith)
    (sym c.eq.ensures ∙ c.if-eq.false) ∙ c.loop-row.invariant

pub returns : goal.returns
returns c =
    let rows = c.rows-row-items.result.now in
    let none = drop_all c.loop-row.row-index rows (omega (arith, c.loop-row-test.false)) in
    ap subcommand_in (sym (ap (row_named c.args.name.now) none) ∙ c.loop-row.invariant)
    ∙ named_alike c.args.name.now rows commands c.rows-row-items.ensures
