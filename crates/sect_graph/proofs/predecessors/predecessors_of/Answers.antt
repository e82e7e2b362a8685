use Rattle.std.proofs.Common.{◌≡◌, ◌≤◌, ◌<◌, ◌+◌, length, arith, Some, ap, ◌∙◌, inl, inr, refl}
use Rattle.sect_graph.specs.{declared.flow.Successors.TheVariants.{Next, Branch}, declared.flow.Node.{Node}}
use Rattle.sect_lemmas.proofs.Places.{told_at}
use Rattle.sect_graph.proofs.Preceding.{before_none, before_next, before_done, added_one, added_two, goes_within}
use Rattle.sect_graph.proofs.Preceding.{rising_one, rising_two}
use Rattle.sect_graph.proofs.predecessors.predecessors_of.Goals as goal

pub add-requires : goal.add-requires
add-requires c =
    let next = c.in-Next.next in
    let within = goes_within c.args.flow.now c.requires c.loop-node.node (Next next) next
    (c.succ.ensures ∙ ap (λ n. Some n) c.in-Next.is) refl in
    omega (arith, within, c.loop-node.invariant.count)

pub add-requires-in-Branch : goal.add-requires-in-Branch
add-requires-in-Branch c =
    let holds = c.in-Branch.holds in
    let within = goes_within c.args.flow.now c.requires c.loop-node.node (Branch holds c.in-Branch.fails) holds
    (c.succ.ensures ∙ ap (λ n. Some n) c.in-Branch.is) (inl refl) in
    omega (arith, within, c.loop-node.invariant.count)

pub add-requires-then-fails-holds : goal.add-requires-then-fails-holds
add-requires-then-fails-holds c =
    let fails = c.in-Branch.fails in
    let within = goes_within c.args.flow.now c.requires c.loop-node.node (Branch c.in-Branch.holds fails) fails
    (c.succ.ensures ∙ ap (λ n. Some n) c.in-Branch.is) (inr refl) in
    omega (arith, within, c.loop-node.invariant.count, c.in_ok-add-in-Branch.ensures.count)

pub loop-node-init : goal.loop-node-init
loop-node-init c = before_none c.args.flow.now c.in_ok-lists.lists
    (c.in_ok-lists.ensures.count ∙ ap (λ n. n + 1) c.exit.ensures.number) c.in_ok-lists.ensures.none

pub loop-node-preserved : goal.loop-node-preserved
loop-node-preserved c =
    let g = c.args.flow.now in
    let j = c.loop-node.node in
    let old = c.loop-node.lists in
    let node = told_at (λ (y : Node). y.next) g j c.succ.result c.succ.ensures in
    let y = node.0 in
    elim c.match-succ.branch [
      | goal.in-Next+in_ok-add-in-Next w ↦
          let is : y.next ≡ Next w.in-Next.next = node.2 ∙ w.in-Next.is in
          let a = w.in_ok-add-in-Next.ensures in
          let to = w.in-Next.next in
          let there : to < length old = (let within = goes_within g c.requires j (Next to) to
          (c.succ.ensures ∙ ap (λ n. Some n) w.in-Next.is) refl in
          omega (arith, within, c.loop-node.invariant.count)) in
          rw w.lists-is (before_next g j y old w.add.new.self node.1 a.count
          (added_one y.next to old w.add.new.self j (λ m. rw is (λ h. h, λ h. h)) a.added)
          (rising_one j old w.add.new.self to there a.behind c.loop-node.invariant.rising)
          c.loop-node.invariant)
      | goal.in-Branch+in_ok-add-in-Branch+then-fails-holds+in_ok-add-in-Branch-2 w ↦
          let holds = w.in-Branch.holds in
          let fails = w.in-Branch.fails in
          let is : y.next ≡ Branch holds fails = node.2 ∙ w.in-Branch.is in
          let told = c.succ.ensures ∙ ap (λ n. Some n) w.in-Branch.is in
          let a = w.in_ok-add-in-Branch.ensures in
          let b = w.in_ok-add-in-Branch-2.ensures in
          let mid = w.add-in-Branch.new.self in
          let new = w.add-then-fails-holds.new.self in
          let count = c.loop-node.invariant.count in
          let first : holds < length old
          = (let within = goes_within g c.requires j (Branch holds fails) holds told (inl refl) in
          omega (arith, within, count)) in
          let second : fails < length mid
          = (let within = goes_within g c.requires j (Branch holds fails) fails told (inr refl) in
          omega (arith, within, count, a.count)) in
          rw w.lists-is (before_next g j y old new node.1 (b.count ∙ a.count)
          (added_two y.next holds fails old mid new j (λ m. rw is (λ h. h, λ h. h)) a.count a.added b.added)
          (rising_two j old mid new holds fails first second w.if-fails-holds.true a.behind b.behind
          c.loop-node.invariant.rising) c.loop-node.invariant)
      | goal.in-Branch+in_ok-add-in-Branch+else-fails-holds w ↦
          let holds = w.in-Branch.holds in
          let fails = w.in-Branch.fails in
          let is : y.next ≡ Branch holds fails = node.2 ∙ w.in-Branch.is in
          let same : fails ≡ holds = w.if-fails-holds.false in
          let told = c.succ.ensures ∙ ap (λ n. Some n) w.in-Branch.is in
          let a = w.in_ok-add-in-Branch.ensures in
          let new = w.add-in-Branch.new.self in
          let there : holds < length old
          = (let within = goes_within g c.requires j (Branch holds fails) holds told (inl refl) in
          omega (arith, within, c.loop-node.invariant.count)) in
          rw w.lists-is (before_next g j y old new node.1 a.count
          (added_one y.next holds old new j (λ m. rw is (λ h. elim h [ inl e ↦ e | inr e ↦ e ∙ same ], λ h. inl h))
          a.added)
          (rising_one j old new holds there a.behind c.loop-node.invariant.rising) c.loop-node.invariant)
    ]

pub returns : goal.returns
returns c =
    let past : length c.args.flow.now ≤ c.loop-node.node =
    omega (arith, c.exit-node-end.ensures.number, c.loop-node-test.false) in
    before_done c.args.flow.now c.loop-node.node c.loop-node.lists past c.loop-node.invariant
