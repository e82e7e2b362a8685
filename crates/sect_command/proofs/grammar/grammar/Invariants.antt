use Rattle.std.proofs.Common.{◌≡◌, false, take}
use Rattle.clap.specs.Simple.{app_of}
use Rattle.clap.specs.declared.builder.command.Command.TheViews.{out-Command as fields_of}
use Rattle.sect_command.specs.steps.Rows.{app_with}
use Rattle.sect_command.proofs.grammar.grammar.Given as goal

abbrev pub invariant-loop-row : goal.invariant-loop-row
invariant-loop-row l = ((fields_of l.sectc).has_globals ≡ false)
    × (app_of l.sectc ≡ app_with (take l.row-index l.row-items))
