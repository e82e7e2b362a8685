use Rattle.std.proofs.Common.{◌≡◌, arith, subst}
use Rattle.sect_types.specs.Sight.{names_of_globals}
use Rattle.sect_hints.specs.Names.{AreDifferent}
use Rattle.sect_hints.proofs.GlobalLaws.{different}
use Rattle.sect_hints.proofs.GuardLaws.{one_passed, first_fault, judged, all_passed, all_obey, all_guards}
use Rattle.sect_hints.proofs.GuardLaws.{all_unguarded}
use Rattle.sect_hints.proofs.hints.judge.Goals as goal

pub names_of-requires : goal.names_of-requires
names_of-requires c =
    let same : c.args.program.now.source.globals ≡ c.globals.result.now = cc in
    subst (λ gs. AreDifferent (names_of_globals gs)) same
    (different c.args.program.now.source c.tree-tree.ensures.typed)

pub loop-number-preserved : goal.loop-number-preserved
loop-number-preserved c =
    one_passed c.args.program.now c.loop-number.number c.of-item.result c.as_slice.result.now c.in-Ok.guard
    c.records-of-items.result.now c.loop-number.list.items c.push.new.self.items (cc) (omega arith) (cc)
    c.in-Ok.ensures c.in_ok-push-in-Ok.ensures.items c.loop-number.invariant

pub returns-in-Err-clause-judges : goal.returns-in-Err-clause-judges
returns-in-Err-clause-judges c =
    judged c.args.program.now c.loop-number.number c.in-Err.rule c.at.result c.at.ensures
    (first_fault c.args.program.now c.loop-number.number c.of-item.result c.as_slice.result.now c.in-Err.rule
    c.records-of-items.result.now c.loop-number.list.items (cc) (omega arith) (cc) c.in-Err.ensures
    c.loop-number.invariant)

pub returns : goal.returns
returns c =
    let p = c.args.program.now in
    let passed = all_passed p c.loop-number.number c.records-of-items.result.now c.loop-number.list.items c.of.result
    (cc) (omega arith) (omega arith) c.of.ensures c.loop-number.invariant in
    record {
      judges = all_obey p c.of.result passed;
      guards = all_guards p c.of.result c.tree-tree.ensures.numbers passed;
      unguarded = all_unguarded p c.of.result passed;
    }
