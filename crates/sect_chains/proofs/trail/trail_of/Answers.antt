use Rattle.std.proofs.{Common.{◌≡◌, ◌<◌, ◌≤◌, [], Some, length, sym, ap, ◌∙◌, subst, arith}, lemmas.List.{length-map}}
use Rattle.std.proofs.lemmas.Option.{slice_get-get_or, slice_get_within, get_or_from_slice_get}
use Rattle.std.specs.Prelude.{slice_get, slice_index_or}
use Rattle.sect_lemmas.proofs.Membership.{Has-slice_get}
use Rattle.sect_chains.specs.declared.keep.KeptLink.{KeptLink}
use Rattle.sect_graph.specs.Predecessors.{AreBefore, IsAscending}
use Rattle.sect_chains.specs.steps.{Working.{link_of, links_of, kept_of}, Ordering.{links_in}}
use Rattle.sect_chains.proofs.{Spreading.{orderly_begin, orderly_next}, Growing.{kept_trail, link_at}}
use Rattle.sect_chains.proofs.Working.{work_next, work_ends, trail_lock, few}
use Rattle.sect_chains.proofs.trail.trail_of.Goals as goal

pub of-nodes-requires : goal.of-nodes-requires
of-nodes-requires c =
    let a = c.args.section in
    let old = c.loop-done.trail in
    let i = c.loop-done.done in
    let x = c.index.result.now in
    let within : i < length old.steps.items = omega (arith, c.len.ensures, c.loop-done-test.true) in
    let at : slice_get old.steps.items i ≡ Some x = slice_get-get_or old.steps.items i x within
    ∙ ap (λ z. Some z) (sym c.index.ensures) in
    let b = link_at old.numbering.keys old.steps.items i x at in
    let d = kept_trail a.scheme.now a.thread a.last.now a.flow.now old.numbering (kept_of old)
    c.loop-done.invariant.work.kept
    b.0 (Has-slice_get (links_of old.numbering.keys old.steps.items) i b.0 b.1) in
    let there = (trail_lock a.scheme.now a.thread a.last.now a.flow.now c.requires.lawful b.0 d.0 d.1).0 in
    omega (arith, there, b.2, c.in_ok-predecessors.ensures.count)

pub carry-requires-clause-before : goal.carry-requires-clause-before
carry-requires-clause-before c = λ x at_x.
    let a = c.args.section in
    let g = a.flow.now in
    let old = c.loop-done.trail in
    let i = c.loop-done.done in
    let b = link_at old.numbering.keys old.steps.items i x at_x in
    let d = kept_trail a.scheme.now a.thread a.last.now g old.numbering (kept_of old)
    c.loop-done.invariant.work.kept b.0
    (Has-slice_get (links_of old.numbering.keys old.steps.items) i b.0 b.1) in
    let there = (trail_lock a.scheme.now a.thread a.last.now g c.requires.lawful b.0 d.0 d.1).0 in
    let z = c.index.result.now in
    let same : z ≡ x = c.index.ensures ∙ get_or_from_slice_get old.steps.items i x z at_x in
    let are = c.in_ok-predecessors.ensures.each x.node (omega (arith, there, b.2)) in
    subst (AreBefore g x.node) (ap (λ (y : KeptLink). slice_index_or c.in_ok-predecessors.predecessors y.node [])
    (sym same) ∙ sym c.of-nodes.ensures) are

pub loop-done-smaller : goal.loop-done-smaller
loop-done-smaller c =
    let a = c.args.section in
    let bound = few a.scheme.now a.thread a.last.now a.flow.now c.requires.lawful c.loop-done.trail.numbering
    (kept_of c.loop-done.trail) c.loop-done.invariant.work.kept in
    omega (arith, bound, c.len.ensures, c.loop-done-test.true)

pub carry-requires-clause-ascending : goal.carry-requires-clause-ascending
carry-requires-clause-ascending c =
    subst IsAscending (sym c.of-nodes.ensures) (c.in_ok-predecessors.ensures.ascending c.index.result.now.node)

pub loop-done-init : goal.loop-done-init
loop-done-init c =
    let a = c.args.section in
    record {
      work = record {
        kept = c.in_ok-trail.ensures.work;
        generated = c.in_ok-trail.ensures.all;
        closed = λ i b x lt at l. absurd (omega (arith, lt));
        within = omega arith;
      };
      order = orderly_begin a.scheme.now a.thread a.last.now a.flow.now c.in_ok-trail.trail c.in_ok-trail.ensures.order;
    }

pub loop-done-preserved : goal.loop-done-preserved
loop-done-preserved c =
    let a = c.args.section in
    let old = c.loop-done.trail in
    let new = c.carry.new.trail in
    let within : c.loop-done.done < length old.steps.items = omega (arith, c.len.ensures, c.loop-done-test.true) in
    record {
      work = work_next a.scheme.now a.thread a.last.now a.flow.now old.numbering (kept_of old) new.numbering
          (kept_of new) c.loop-done.done within c.loop-done.invariant.work c.in_ok-carry.ensures.kept;
      order = orderly_next a.scheme.now a.thread a.last.now a.flow.now old new c.loop-done.done within
          c.loop-done.invariant.order c.in_ok-carry.ensures.order;
    }

pub returns : goal.returns
returns c =
    let a = c.args.section in
    let old = c.loop-done.trail in
    let past : length old.steps.items ≤ c.loop-done.done = omega (arith, c.len.ensures, c.loop-done-test.false) in
    record {
      work = c.loop-done.invariant.work.kept;
      all = λ x h. work_ends a.scheme.now a.thread a.last.now a.flow.now c.requires.respects old.numbering
          (kept_of old) c.loop-done.done past c.loop-done.invariant.work x h.0 h.1;
      sorted = c.loop-done.invariant.order.sorted;
      generated = c.loop-done.invariant.order.generated;
      carried = λ j b x at l. c.loop-done.invariant.order.carried j b x
          (omega (
            arith,
            past,
            slice_get_within (links_in old) j b at,
            length-map old.steps.items (link_of old.numbering.keys),
          )) at l;
    }
