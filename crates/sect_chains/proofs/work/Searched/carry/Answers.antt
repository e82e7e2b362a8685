use Rattle.std.proofs.Common.{◌≡◌, ◌<◌, ◌≤◌, Some, length, length-append, get_or, take, sym, ap, subst, arith}
use Rattle.std.proofs.{lemmas.List.{get_or_default}, lemmas.Option.{slice_get_within}}
use Rattle.std.specs.Prelude.{slice_get}
use Rattle.sect_lemmas.proofs.{Membership.{Has-get_or, Has-slice_get}, Places.{at_of, one_at}}
use Rattle.sect_lemmas.proofs.Elements.{slice_get-left}
use Rattle.sect_lemmas.specs.Lists.{Has}
use Rattle.sect_graph.specs.{Paths.{LeadsTo}, Predecessors.{AreBefore}}
use Rattle.sect_names.specs.Chains.{LinksTo}
use Rattle.sect_chains.specs.declared.keep.KeptLink.{KeptLink}
use Rattle.sect_chains.specs.steps.Working.{kept_of}
use Rattle.sect_chains.proofs.Growing.{kept_numbers, link_at, lock_is, grows_none, grows_at}
use Rattle.sect_chains.proofs.Carrying.{carry_next, carry_done}
use Rattle.sect_chains.proofs.Spreading.{first_begin, first_before, first_next, first_done}
use Rattle.sect_chains.proofs.work.Searched.carry.Goals as goal

pub carry_to-requires-clause-node : goal.carry_to-requires-clause-node
carry_to-requires-clause-node c =
    let steps = c.args.trail.now.steps.items in
    let nodes = c.args.predecessors.now in
    let i = c.loop-node.node-index in
    let x = at_of steps c.args.index c.requires.index in
    let found = (c.requires.before x.0 x.1 (get_or nodes i 0)).0
    (Has-get_or nodes i 0 (omega (arith, c.loop-node-test.true))) in
    slice_get_within c.args.self.flow.now (get_or nodes i 0) found.0 found.1

pub carry_to-requires-clause-index : goal.carry_to-requires-clause-index
carry_to-requires-clause-index c =
    let old = c.args.trail.now in
    let x = at_of old.steps.items c.args.index c.requires.index in
    let b = link_at old.numbering.keys old.steps.items c.args.index x.0 x.1 in
    let grown = (c.loop-node.invariant.kept b.0 b.1).steps in
    omega (arith, c.requires.index, ap length grown.1, length-append old.steps.items grown.0)

pub carry_to-requires-clause-leads : goal.carry_to-requires-clause-leads
carry_to-requires-clause-leads c = λ y x at_y at_x.
    let old = c.args.trail.now in
    let nodes = c.args.predecessors.now in
    let i = c.loop-node.node-index in
    let z = at_of old.steps.items c.args.index c.requires.index in
    let b = link_at old.numbering.keys old.steps.items c.args.index z.0 z.1 in
    let grown = (c.loop-node.invariant.kept b.0 b.1).steps in
    let still : slice_get c.loop-node.trail.steps.items c.args.index ≡ Some z.0
    = subst (λ ls. slice_get ls c.args.index ≡ Some z.0) (sym grown.1)
    (slice_get-left old.steps.items grown.0 c.args.index z.0 z.1) in
    let same : z.0 ≡ x = one_at c.loop-node.trail.steps.items c.args.index z.0 x still at_x in
    let found = (c.requires.before z.0 z.1 (get_or nodes i 0)).0
    (Has-get_or nodes i 0 (omega (arith, c.loop-node-test.true))) in
    let here : found.0 ≡ y = one_at c.args.self.flow.now (get_or nodes i 0) found.0 y found.1 at_y in
    subst (λ n. LeadsTo n x.node) here (subst (λ (s : KeptLink). LeadsTo found.0 s.node) same found.2)

pub carry_to-requires-clause-work : goal.carry_to-requires-clause-work
carry_to-requires-clause-work c =
    let old = c.args.trail.now in
    let x = at_of old.steps.items c.args.index c.requires.index in
    let b = link_at old.numbering.keys old.steps.items c.args.index x.0 x.1 in
    (c.loop-node.invariant.kept b.0 b.1).kept

pub carry_to-requires-clause-sorted : goal.carry_to-requires-clause-sorted
carry_to-requires-clause-sorted c =
    let old = c.args.trail.now in
    let x = at_of old.steps.items c.args.index c.requires.index in
    let b = link_at old.numbering.keys old.steps.items c.args.index x.0 x.1 in
    (c.loop-node.invariant.order b.0 b.1).sorted

pub carry_to-requires-clause-before : goal.carry_to-requires-clause-before
carry_to-requires-clause-before c = λ l.
    let a = c.args.self in
    let old = c.args.trail.now in
    let nodes = c.args.predecessors.now in
    let i = c.loop-node.node-index in
    let x = at_of old.steps.items c.args.index c.requires.index in
    let b = link_at old.numbering.keys old.steps.items c.args.index x.0 x.1 in
    let are = subst (λ n. AreBefore a.flow.now n nodes) (sym b.2) (c.requires.before x.0 x.1) in
    first_before a.scheme.now a.thread a.last.now a.flow.now b.0 nodes are c.args.index c.requires.ascending old
    c.loop-node.trail c.requires.below i (omega (arith, c.loop-node-test.true)) (c.loop-node.invariant.order b.0 b.1) l

pub loop-node-init : goal.loop-node-init
loop-node-init c =
    let a = c.args.self in
    let old = c.args.trail.now in
    record {
      kept = λ b at. grows_none a.scheme.now a.thread a.last.now a.flow.now old.numbering (kept_of old)
          (λ z. Has (take 0 c.args.predecessors.now) z.node × LinksTo a.scheme.now a.thread a.flow.now z b)
          c.requires.work (λ z h. h.0);
      order = λ b at. first_begin a.scheme.now a.thread a.last.now a.flow.now b c.args.predecessors.now c.args.index old
          c.requires.sorted;
    }

pub loop-node-preserved : goal.loop-node-preserved
loop-node-preserved c =
    let a = c.args.self in
    let s = a.scheme.now in
    let g = a.flow.now in
    let old = c.args.trail.now in
    let mid = c.loop-node.trail in
    let new = c.carry_to.new.trail in
    let nodes = c.args.predecessors.now in
    let i = c.loop-node.node-index in
    let within : i < length nodes = omega (arith, c.loop-node-test.true) in
    let x = at_of old.steps.items c.args.index c.requires.index in
    let numbers = kept_numbers s a.thread a.last.now g old.numbering (kept_of old) c.requires.work x.0
    (Has-slice_get old.steps.items c.args.index x.0 x.1) in
    let is = get_or_default nodes i 0 (get_or nodes i 0) within in
    record {
      kept = λ b at.
          let told = lock_is old.numbering.keys old.steps.items c.args.index x.0 b numbers x.1 at in
          let are = subst (λ n. AreBefore g n nodes) told.0 (c.requires.before x.0 x.1) in
          let before = c.loop-node.invariant.kept b at in
          let now = grows_at s a.thread a.last.now g old.numbering (kept_of old) mid.numbering (kept_of mid)
          (λ z. Has (take i nodes) z.node × LinksTo s a.thread g z b) c.requires.work before c.args.index b at in
          carry_next s a.thread a.last.now g b nodes are old.numbering (kept_of old) mid.numbering (kept_of mid)
          new.numbering (kept_of new) i (get_or nodes i 0) within is before
          (λ y at_y. c.in_ok-carry_to.ensures.kept y b at_y now);
      order = λ b at.
          let told = lock_is old.numbering.keys old.steps.items c.args.index x.0 b numbers x.1 at in
          let are = subst (λ n. AreBefore g n nodes) told.0 (c.requires.before x.0 x.1) in
          let before = c.loop-node.invariant.kept b at in
          let now = grows_at s a.thread a.last.now g old.numbering (kept_of old) mid.numbering (kept_of mid)
          (λ z. Has (take i nodes) z.node × LinksTo s a.thread g z b) c.requires.work before c.args.index b at in
          first_next s a.thread a.last.now g b nodes are c.args.index old mid new i (get_or nodes i 0) within is
          (c.loop-node.invariant.order b at) (λ y at_y. c.in_ok-carry_to.ensures.order y b at_y now);
    }

pub returns-clause-kept : goal.returns-clause-kept
returns-clause-kept c = λ b at.
    let a = c.args.self in
    let s = a.scheme.now in
    let g = a.flow.now in
    let old = c.args.trail.now in
    let new = c.loop-node.trail in
    let nodes = c.args.predecessors.now in
    let x = at_of old.steps.items c.args.index c.requires.index in
    let numbers = kept_numbers s a.thread a.last.now g old.numbering (kept_of old) c.requires.work x.0
    (Has-slice_get old.steps.items c.args.index x.0 x.1) in
    let told = lock_is old.numbering.keys old.steps.items c.args.index x.0 b numbers x.1 at in
    let are = subst (λ n. AreBefore g n nodes) told.0 (c.requires.before x.0 x.1) in
    let past : length nodes ≤ c.loop-node.node-index = omega (arith, c.loop-node-test.false) in
    carry_done s a.thread a.last.now g b nodes are old.numbering (kept_of old) new.numbering
    (kept_of new) c.loop-node.node-index past (c.loop-node.invariant.kept b at)

pub returns-clause-order : goal.returns-clause-order
returns-clause-order c = λ b at.
    let a = c.args.self in
    let s = a.scheme.now in
    let g = a.flow.now in
    let old = c.args.trail.now in
    let nodes = c.args.predecessors.now in
    let x = at_of old.steps.items c.args.index c.requires.index in
    let numbers = kept_numbers s a.thread a.last.now g old.numbering (kept_of old) c.requires.work x.0
    (Has-slice_get old.steps.items c.args.index x.0 x.1) in
    let told = lock_is old.numbering.keys old.steps.items c.args.index x.0 b numbers x.1 at in
    let are = subst (λ n. AreBefore g n nodes) told.0 (c.requires.before x.0 x.1) in
    let past : length nodes ≤ c.loop-node.node-index = omega (arith, c.loop-node-test.false) in
    first_done s a.thread a.last.now g b nodes are c.args.index old c.loop-node.trail c.loop-node.node-index past
    (c.loop-node.invariant.order b at)
