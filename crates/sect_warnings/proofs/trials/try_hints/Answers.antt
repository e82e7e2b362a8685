use Rattle.std.proofs.Common.{◌≡◌, ◌+◌, ◌∙◌, ap, subst, arith, length}
use Rattle.sect_front.specs.TreeView.{TreeView}
use Rattle.sect_warnings.specs.steps.Trials.{AreNoted, IsTriedBelow, IsTriedFor, IsTrialSaid}
use Rattle.sect_warnings.proofs.Trying.{in_two, none_below, one_below, all_below, noted_as, all_unsaid}
use Rattle.sect_warnings.proofs.trials.try_hints.Goals as goal

pub loop-guarded-init : goal.loop-guarded-init
loop-guarded-init c =
    let v = c.args.accepted.compiled.now in
    all_unsaid (IsTriedBelow c.args.accepted.source.now c.args.accepted.names.now v 0) c.args.trials.now
    c.args.placed.now.items (λ k. none_below c.args.accepted.source.now c.args.accepted.names.now v _)

pub loop-guarded-preserved : goal.loop-guarded-preserved
loop-guarded-preserved c =
    let v = c.args.accepted.compiled.now in
    let source = c.args.accepted.source.now in
    let names = c.args.accepted.names.now in
    let r = c.loop-guarded.guarded in
    in_two (IsTriedBelow source names v r) (IsTriedFor source names v r) (IsTriedBelow source names v (r + 1))
    (one_below source names v r) c.args.trials.now c.args.placed.now.items c.loop-guarded.placed.items
    c.try_hint.new.placed.items c.loop-guarded.invariant c.in_ok-try_hint.ensures

pub returns : goal.returns
returns c =
    let v = c.args.accepted.compiled.now in
    let source = c.args.accepted.source.now in
    let names = c.args.accepted.names.now in
    let records : c.records-records.result.now ≡ v.scheme.program.source.records =
    rw (c.program.ensures, c.scheme.ensures)
    at (c.records-records.ensures ∙ ap (λ (t : TreeView). t.records) c.tree.ensures.tree) in
    let all : c.loop-guarded.guarded ≡ length v.scheme.program.source.records =
    omega (arith, ap length records) in
    noted_as (IsTriedBelow source names v (length v.scheme.program.source.records)) (IsTrialSaid source names v)
    (all_below source names v) c.args.trials.now c.args.placed.now.items c.loop-guarded.placed.items
    (subst (λ r. AreNoted (IsTriedBelow source names v r) c.args.trials.now c.args.placed.now.items
    c.loop-guarded.placed.items) all c.loop-guarded.invariant)
