use Rattle.std.proofs.Common.{◌<◌, arith, length, subst, refl}
use Rattle.sect_cert.specs.steps.Again.{RepeatsList}
use Rattle.sect_cert.proofs.AgainLaws.{taken_again}
use Rattle.sect_cert.proofs.stage.behind_nodes.Goals as goal

pub returns-then-is_next : goal.returns-then-is_next
returns-then-is_next c =
    let some : 0 < length c.args.lists = omega (arith, c.len-here.ensures, c.if-here-gt0.true) in
    let more : length c.args.lists < c.args.count = omega (arith, c.len-here.ensures, c.if-here-count.true) in
    taken_again c.args.begun c.args.count c.args.lists c.push_again.new.self c.args.lines.before.now
    c.args.lines.text.now c.requires some more (omega arith)
    (subst (RepeatsList c.args.lines.before.now c.args.lines.text.now) c.len-here.ensures (c.if-is_next.ensures refl))
    c.in_ok-push_again.ensures.ok
