use Rattle.std.proofs.{Common.{map, ap, ◌∙◌, arith}, lemmas.List.{take_all}}
use Rattle.sect_json.specs.Compiling.{grip_json}
use Rattle.sect_json.proofs.compiling.grip_values.Goals as goal

pub returns : goal.returns
returns c =
    c.loop-grip.invariant
    ∙ ap (map (grip_json c.args.program.now)) (take_all c.loop-grip.grip-index c.args.grips.now (omega arith))
