use Rattle.std.proofs.Common.{ap, ◌∙◌, arith}
use Rattle.sect_editor.specs.Warned.{warning_json}
use Rattle.sect_editor.proofs.Listing.{values_more, values_all}
use Rattle.sect_editor.proofs.warned.warning_values.Goals as goal

pub loop-warning-preserved : goal.loop-warning-preserved
loop-warning-preserved c =
    values_more (warning_json c.args.source.now) c.args.placed.now c.loop-warning.warning-index _
    c.loop-warning.values.items c.push.new.self.items c.in_ok-warning_value.field-0 c.loop-warning-test.true
    c.loop-warning.invariant c.in_ok-push.ensures.items
    (c.in_ok-warning_value.ensures ∙ ap (warning_json c.args.source.now) c.warning-item.is)

pub returns : goal.returns
returns c =
    values_all (warning_json c.args.source.now) c.args.placed.now c.loop-warning.warning-index
    c.loop-warning.values (omega arith) c.loop-warning.invariant
