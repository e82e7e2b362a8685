use Rattle.std.proofs.Common.{◌≡◌, false, [], take}
use Rattle.clap.specs.Simple.{app_of}
use Rattle.clap.specs.declared.builder.command.Command.TheViews.{out-Command as fields_of}
use Rattle.sect_command.specs.steps.Rows.{shape_with}
use Rattle.sect_command.proofs.grammar.told_command.Given as goal

abbrev pub invariant-loop-argument : goal.invariant-loop-argument
invariant-loop-argument l = ((fields_of l.told).has_globals ≡ false)
    × (app_of l.told ≡ record { top = shape_with l.row (take l.argument-index l.row.takes.now); subs = [] })
