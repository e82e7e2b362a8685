use Rattle.std.proofs.Common.{◌<◌, ◌↔◌, ◌∷◌, ◌++◌, [], ℕ, sym, subst, refl, arith}
use Rattle.sect_lemmas.specs.Lists.{Has}
use Rattle.sect_graph.specs.Predecessors.{AreBefore}
use Rattle.sect_infer.specs.steps.Working.{IsWorking}
use Rattle.sect_infer.proofs.Settling.{work_begins, last_within, work_quiet, work_busy, work_ends, lawful_at}
use Rattle.sect_infer.proofs.{Bounding.{quiet_less, busy_less}, work.settle.Goals.{In-Some, In_ok-insert_all}}
use Rattle.sect_infer.proofs.work.settle.Goals as goal

-- the node that is taken out was the last that waited
working : (c : In-Some)
    → IsWorking c.args.section.scheme.now c.args.section.thread c.args.section.flow.now
    c.loop-node.solution.numbering c.loop-node.solution.lists (c.pop_last.new.self ++ c.in-Some.node ∷ [])
working c = subst (IsWorking _ _ _ _ _) c.in-Some.ensures c.loop-node.invariant

-- where there is more, the nodes before it wait too
busy : (c : In_ok-insert_all)
    → IsWorking c.args.section.scheme.now c.args.section.thread c.args.section.flow.now
    c.go_over.new.solution.numbering c.go_over.new.solution.lists c.insert_all.new.self
busy c =
    let w = working (goal.at.loop-node-preserved-in-Continue-branch-3 c).In-Some in
    let within = last_within _ _ _ _ _ _ _ w in
    work_busy _ _ _ _ _ _ _ _ _ _ w c.in_ok-any.ensures c.of.result.now c.insert_all.new.self
    (subst (AreBefore c.args.section.flow.now c.in-Some.node) (sym c.of.ensures)
    (c.in_ok-predecessors.ensures.each c.in-Some.node (omega (arith, within)))) c.in_ok-insert_all.ensures.nodes

pub predecessors_of-requires : goal.predecessors_of-requires
predecessors_of-requires c = c.requires.lawful.within

pub go_over-requires-clause-node : goal.go_over-requires-clause-node
go_over-requires-clause-node c = last_within _ _ _ _ _ _ _ (working (goal.at.go_over-requires-clause-node c).In-Some)

pub go_over-requires-clause-lawful : goal.go_over-requires-clause-lawful
go_over-requires-clause-lawful c =
    let a = c.args.section in
    let of = c.loop-node.solution in
    lawful_at a.scheme.now a.thread a.flow.now c.requires.lawful of.numbering of.lists
    c.loop-node.invariant.derived

pub go_over-requires-clause-within : goal.go_over-requires-clause-within
go_over-requires-clause-within c = c.requires.lawful.within

pub of-requires : goal.of-requires
of-requires c =
    let within = last_within _ _ _ _ _ _ _ (working (goal.at.of-requires c).In-Some) in
    omega (arith, within, c.in_ok-predecessors.ensures.count)

pub loop-node-init : goal.loop-node-init
loop-node-init c =
    let a = c.args.section in
    let of = c.args.solution.now in
    work_begins a.scheme.now a.thread a.flow.now of.numbering of.lists
    c.new-waiting.result c.requires.begun
    (subst (λ n. (i : ℕ) → Has c.new-waiting.result i ↔ (i < n)) c.exit.ensures.number c.new-waiting.ensures)

pub loop-node-preserved-in-Continue-branch-3 : goal.loop-node-preserved-in-Continue-branch-3
loop-node-preserved-in-Continue-branch-3 c = busy c

pub loop-node-smaller-in-Continue-branch-3 : goal.loop-node-smaller-in-Continue-branch-3
loop-node-smaller-in-Continue-branch-3 c =
    let w = working (goal.at.loop-node-smaller-in-Continue-branch-3 c).In-Some in
    rw c.in-Some.ensures (busy_less _ _ _ c.requires.lawful _ _ _ _ _ _ _ _ (last_within _ _ _ _ _ _ _ w) w
    c.in_ok-any.ensures (busy c) c.if-any.true c.in_ok-insert_all.ensures.ordered)

pub loop-node-preserved : goal.loop-node-preserved
loop-node-preserved c =
    work_quiet _ _ _ _ _ _ _ _ _ _ (working (goal.at.loop-node-preserved c).In-Some) c.in_ok-any.ensures
    c.if-any.false

pub loop-node-smaller : goal.loop-node-smaller
loop-node-smaller c =
    let w = working (goal.at.loop-node-smaller c).In-Some in
    rw c.in-Some.ensures (quiet_less _ _ _ c.requires.lawful _ _ _ _ _ _ _ _ (last_within _ _ _ _ _ _ _ w) w
    c.in_ok-any.ensures (work_quiet _ _ _ _ _ _ _ _ _ _ w c.in_ok-any.ensures c.if-any.false) c.if-any.false refl)

pub returns : goal.returns
returns c =
    let a = c.args.section in
    let of = c.loop-node.solution in
    work_ends a.scheme.now a.thread a.flow.now c.requires.lawful of.numbering of.lists c.loop-node.waiting
    c.in_default.ensures c.loop-node.invariant
