use Rattle.std.proofs.Common.{◌<◌, length, arith}
use Rattle.sect_names.specs.Needed.{end_locks}
use Rattle.sect_check.specs.Valid.{CoversGenerated}
use Rattle.sect_check.proofs.{Scanning.{below_next}, Generating.{all_covered}}
use Rattle.sect_check.proofs.lists.first_ungenerated.Goals as goal

pub loop-node-preserved : goal.loop-node-preserved
loop-node-preserved c =
    let section = c.args.section in
    below_next (CoversGenerated section.scheme.now section.thread (end_locks section.locking) section.flow.now
    c.args.claims.now) c.loop-node.node c.loop-node.invariant
    (c.covers_generated.ensures.0 c.if-not-covers_generated.false)

pub returns-clause-none : goal.returns-clause-none
returns-clause-none c =
    let section = c.args.section in
    let g = section.flow.now in
    let past : length g < c.loop-node.node = omega (arith, c.exit-node-end.ensures.number, c.loop-node-test.false) in
    all_covered section.scheme.now section.thread (end_locks section.locking) g c.args.claims.now c.loop-node.node past
    c.loop-node.invariant
