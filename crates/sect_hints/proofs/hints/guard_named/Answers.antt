use Rattle.std.proofs.Common.{◌≡◌, Some}
use Rattle.sect_hints.specs.Hints.{global_of}
use Rattle.sect_hints.proofs.HintLaws.{free, guarded}
use Rattle.sect_hints.proofs.hints.guard_named.Goals as goal

pub returns-then-is_empty : goal.returns-then-is_empty
returns-then-is_empty c =
    let named : global_of c.args.program.now c.args.name.now ≡ Some c.in-Some.global = cc in
    free c.args.program.now c.args.name.now c.in-Some.global c.index-records-own.result c.as_slice.result.now
    c.tree-tree.ensures.numbers c.facts.ensures.records_there named (cc) (cc)

pub returns-else-is_empty : goal.returns-else-is_empty
returns-else-is_empty c =
    let named : global_of c.args.program.now c.args.name.now ≡ Some c.in-Some.global = cc in
    guarded c.args.program.now c.args.name.now c.in-Some.global c.index-records-own.result c.as_slice.result.now
    c.tree-tree.ensures.numbers c.facts.ensures.records_there named (cc) (cc)
