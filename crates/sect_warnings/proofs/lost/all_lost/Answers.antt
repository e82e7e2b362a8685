use Rattle.std.proofs.Common.{[]}
use Rattle.sect_names.specs.declared.lock.Effect.TheVariants.{Read}
use Rattle.sect_warnings.specs.Lost.{IsLost, no_access}
use Rattle.sect_warnings.proofs.Losing.{in_section_at, next_load}
use Rattle.sect_warnings.proofs.lost.all_lost.Goals as goal

pub add_stores-requires-clause-load : goal.add_stores-requires-clause-load
add_stores-requires-clause-load c =
    in_section_at Read c.args.of.compiled.now c.args.of.loads.now c.loop-load.load-index no_access
    c.requires.0 c.loop-load-test.true

pub loop-load-preserved : goal.loop-load-preserved
loop-load-preserved c =
    next_load (IsLost c.args.of.compiled.now) c.args.of.stores.now c.args.of.loads.now c.loop-load.load-index no_access
    [] c.loop-load.all.items c.add_stores.new.found.items c.loop-load-test.true c.loop-load.invariant
    c.in_ok-add_stores.ensures
