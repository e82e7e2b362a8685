use Rattle.std.proofs.Common.{◌≡◌, drop}
use Rattle.sect_command.proofs.Rows.{row_named}
use Rattle.sect_command.proofs.grammar.subcommand_named.Given as goal

abbrev pub invariant-loop-row : goal.invariant-loop-row
invariant-loop-row l = row_named l.name (drop l.row-index l.row-items) ≡ row_named l.name l.row-items
