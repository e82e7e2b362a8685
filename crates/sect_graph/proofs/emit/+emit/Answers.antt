use Rattle.std.proofs.Common.{◌≡◌, ℕ, ◌+◌, ◌<◌, ◌≤◌, List, [], ◌∷◌, ◌++◌, length, drop, ap, sym, ◌∙◌, arith}
use Rattle.std.proofs.{Common.{length-append}, lemmas.List.{append-nil, at_drop_all}, lemmas.Result.{on_ok_weaker}}
use Rattle.sect_types.specs.declared.expansion.text.Step.{Step}
use Rattle.sect_types.specs.{declared.declarations.limits.TheConstants.{MOST_STATEMENTS}, Statements.{Stop, weight}}
use Rattle.sect_types.specs.{Texts.{step_then, statements_of}, Traces.{node_count}}
use Rattle.sect_graph.specs.{declared.flow.Node.{Node}, Layout.{entry_of, nodes_of}}
use Rattle.sect_types.proofs.shared.FindLemmas.{weight_at}
use Rattle.sect_graph.proofs.Emitting.{count_more, emit_more, room_more, nodes_if, nodes_while, room_if, after_more}
use Rattle.sect_graph.proofs.Emitting.{after_last}
use Rattle.sect_graph.proofs.emit.+emit.Goals as goal
use Rattle.sect_graph.proofs.emit.+emit.Goals.{emit_text-then-i-steps, emit_text-else-i-steps}

-- how many nodes a statement of this kind has, and which; and its weight
counted : (s : Step) {other : Step} → s ≡ other → node_count (step_then s Stop) ≡ node_count (step_then other Stop)
counted s is = ap (λ x. node_count (step_then x Stop)) is

weighed : (s : Step) {other : Step} → s ≡ other → weight (step_then s Stop) ≡ weight (step_then other Stop)
weighed s is = ap (λ x. weight (step_then x Stop)) is

laid : (s : Step) {other : Step} → s ≡ other → (nodes : List Node) (next : ℕ)
    → nodes ++ nodes_of (step_then other Stop) (length nodes) next
    ≡ nodes ++ nodes_of (step_then s Stop) (length nodes) next
laid s is nodes next = sym (ap (λ x. nodes ++ nodes_of (step_then x Stop) (length nodes) next) is)

-- a node more
longer : (old new : List Node) (x : Node) → new ≡ old ++ x ∷ [] → length new ≡ length old + 1
longer old new x is = omega (arith, ap length is, length-append old (x ∷ []))

-- ---- a statement

pub emit_step-overflow_cast-start : goal.emit_step-overflow_cast-start
emit_step-overflow_cast-start t c = omega (arith, c.len-start.ensures, c.requires)

pub emit_step-returns-in-Do : goal.emit_step-returns-in-Do
emit_step-returns-in-Do t c =
    on_ok_weaker c.put.result (λ h. h ∙ laid c.args.step.now c.in-Do.is c.args.nodes.now.items c.args.next)
    c.put.ensures

pub emit_step-returns-in-Section : goal.emit_step-returns-in-Section
emit_step-returns-in-Section t c =
    on_ok_weaker c.put-in-Section.result
    (λ h. h ∙ laid c.args.step.now c.in-Section.is c.args.nodes.now.items c.args.next) c.put-in-Section.ensures

pub emit_step-overflow_add-other : goal.emit_step-overflow_add-other
emit_step-overflow_add-other t c =
    omega (arith, c.len-start.ensures, c.requires, counted c.args.step.now c.in-If.is)

pub emit_step-text_count-requires : goal.emit_step-text_count-requires
emit_step-text_count-requires t c = omega (arith, c.requires, counted c.args.step.now c.in-If.is)

pub emit_step-overflow_cast-other : goal.emit_step-overflow_cast-other
emit_step-overflow_cast-other t c =
    omega (arith, c.text_count.ensures, c.requires, counted c.args.step.now c.in-If.is)

pub emit_step-overflow_add-other-in-If : goal.emit_step-overflow_add-other-in-If
emit_step-overflow_add-other-in-If t c =
    omega (arith, c.text_count.ensures, c.len-start.ensures, c.requires, counted c.args.step.now c.in-If.is)

pub emit_step-overflow_add-start : goal.emit_step-overflow_add-start
emit_step-overflow_add-start t c =
    omega (arith, c.len-start.ensures, c.requires, counted c.args.step.now c.in-If.is)

pub emit_step-emit_text-requires : goal.emit_step-emit_text-requires
emit_step-emit_text-requires t c = (
  omega (arith, weighed c.args.step.now c.in-If.is, c.decreases),
  omega (
    arith,
    c.requires,
    counted c.args.step.now c.in-If.is,
    longer c.args.nodes.now.items c.put-in-If.new.nodes.items _ c.in_ok-put-in-If.ensures,
  ),
)

pub emit_step-emit_text-requires-in-If : goal.emit_step-emit_text-requires-in-If
emit_step-emit_text-requires-in-If t c = (
  omega (arith, weighed c.args.step.now c.in-If.is, c.decreases),
  room_if c.args.step.now c.in-If.condition c.in-If.holds c.in-If.fails c.args.nodes.now.items
      c.put-in-If.new.nodes.items c.emit_text.new.nodes.items _ c.args.next MOST_STATEMENTS
      (ap (λ s. step_then s Stop) c.in-If.is) c.in_ok-put-in-If.ensures c.in_ok-emit_text-in-If.ensures c.requires,
)

pub emit_step-returns-in_ok-emit_text-in-If-2 : goal.emit_step-returns-in_ok-emit_text-in-If-2
emit_step-returns-in_ok-emit_text-in-If-2 t c =
    let start : c.len-start.result ≡ length c.args.nodes.now.items = omega arith in
    nodes_if c.args.step.now c.in-If.condition c.in-If.holds c.in-If.fails c.args.nodes.now.items
    c.put-in-If.new.nodes.items c.emit_text.new.nodes.items _ _ _ _ _ c.args.next
    (ap (λ s. step_then s Stop) c.in-If.is) start (ap (λ k. c.len-start.result + 1 + k) c.text_count.ensures)
    c.entry_to-first.ensures c.entry_to-second.ensures
    c.in_ok-put-in-If.ensures c.in_ok-emit_text-in-If.ensures c.in_ok-emit_text-in-If-2.ensures

pub emit_step-overflow_add-start-in-While : goal.emit_step-overflow_add-start-in-While
emit_step-overflow_add-start-in-While t c =
    omega (arith, c.len-start.ensures, c.requires, counted c.args.step.now c.in-While.is)

pub emit_step-emit_text-requires-in-While : goal.emit_step-emit_text-requires-in-While
emit_step-emit_text-requires-in-While t c = (
  omega (arith, weighed c.args.step.now c.in-While.is, c.decreases),
  omega (
    arith,
    c.requires,
    counted c.args.step.now c.in-While.is,
    longer c.args.nodes.now.items c.put-in-While.new.nodes.items _ c.in_ok-put-in-While.ensures,
  ),
)

pub emit_step-returns-in_ok-emit_text-in-While : goal.emit_step-returns-in_ok-emit_text-in-While
emit_step-returns-in_ok-emit_text-in-While t c =
    let start : c.len-start.result ≡ length c.args.nodes.now.items = omega (arith, c.len-start.ensures) in
    nodes_while c.args.step.now c.in-While.condition c.in-While.body c.args.nodes.now.items
    c.put-in-While.new.nodes.items _ _ _ c.args.next (ap (λ s. step_then s Stop) c.in-While.is) start
    c.entry_to-first-in-While.ensures c.in_ok-put-in-While.ensures c.in_ok-emit_text-in-While.ensures

-- ---- a text

pub emit_text-loop-i-init : goal.emit_text-loop-i-init
emit_text-loop-i-init t c = record {
  whole = c.as_slice-steps.ensures;
  nodes = ap (λ text. c.args.nodes.now.items ++ nodes_of text (length c.args.nodes.now.items) c.args.next)
      c.as_slice-steps.ensures;
  size = ap (λ text. length c.args.nodes.now.items + node_count text) c.as_slice-steps.ensures;
}

pub emit_text-returns : goal.emit_text-returns
emit_text-returns t c =
    let nodes = c.loop-i.nodes.items in
    sym (at_drop_all (λ steps. nodes ++ nodes_of (statements_of steps) (length nodes) c.args.next)
    c.as_slice-steps.result.now c.loop-i.i c.loop-i-test.false ∙ append-nil nodes) ∙ c.loop-i.invariant.nodes

pub emit_text-overflow_add-after : goal.emit_text-overflow_add-after
emit_text-overflow_add-after t c =
    let xs = c.as_slice-steps.result.now in
    let i = c.loop-i.i in
    let s = c.index-steps-i.result in
    omega (
      arith,
      count_more xs i s (omega arith),
      counted s c.index-steps-i.is,
      c.loop-i.invariant.size,
      c.requires,
      c.len.ensures,
      c.step_count.ensures,
    )

pub emit_text-overflow_cast-after : goal.emit_text-overflow_cast-after
emit_text-overflow_cast-after t c =
    let xs = c.as_slice-steps.result.now in
    let i = c.loop-i.i in
    let s = c.index-steps-i.result in
    omega (
      arith,
      count_more xs i s (omega arith),
      counted s c.index-steps-i.is,
      c.loop-i.invariant.size,
      c.requires,
      c.len.ensures,
      c.step_count.ensures,
    )

pub emit_text-bounds-steps-i : goal.emit_text-bounds-steps-i
emit_text-bounds-steps-i t c = omega (arith, c.loop-i-test.true, c.loop-i.auto.i-end)

pub emit_text-step_count-requires : goal.emit_text-step_count-requires
emit_text-step_count-requires t c =
    let xs = c.as_slice-steps.result.now in
    let i = c.loop-i.i in
    let s = c.index-steps-i.result in
    omega (
      arith,
      count_more xs i s (omega arith),
      counted s c.index-steps-i.is,
      c.loop-i.invariant.size,
      c.requires,
    )

pub emit_text-emit_step-requires : goal.emit_text-emit_step-requires
emit_text-emit_step-requires t c =
    let xs = c.as_slice-steps.result.now in
    let i = c.loop-i.i in
    let s = c.index-steps-i.result in (
      omega (
        arith,
        weight_at xs i s (omega arith),
        ap (λ x. weight (step_then x Stop)) c.index-steps-i.is,
        ap weight c.loop-i.invariant.whole,
        c.decreases,
      ),
      omega (
        arith,
        count_more xs i s (omega arith),
        ap (λ x. node_count (step_then x Stop)) c.index-steps-i.is,
        c.loop-i.invariant.size,
        c.requires,
      ),
    )

pub emit_text-loop-i-preserved : goal.emit_text-loop-i-preserved
emit_text-loop-i-preserved t c =
    let xs = c.as_slice-steps.result.now in
    let l = c.loop-i in
    let s = c.index-steps-i.result in
    let n = length l.nodes.items + node_count (step_then s Stop) in
    let after : c.if-i-steps.after ≡ entry_of (statements_of (drop (l.i + 1) xs)) n c.args.next =
    elim c.if-i-steps.branch [
      | emit_text-then-i-steps w ↦
          let within : l.i + 1 < length xs = omega arith in
          let e : c.if-i-steps.after ≡ n = omega arith in
          e ∙ sym (after_more xs (l.i + 1) n c.args.next within)
      | emit_text-else-i-steps w ↦
          let past : length xs ≤ l.i + 1 = omega arith in
          w.after-is ∙ sym (after_last xs (l.i + 1) n c.args.next past)
    ] in
    record {
      whole = l.invariant.whole;
      nodes = emit_more xs l.i s l.nodes.items _ _ c.args.next c.if-i-steps.after (omega arith) c.index-steps-i.is after
          c.in_ok-emit_step.ensures l.invariant.nodes;
      size = room_more xs l.i s l.nodes.items _ c.if-i-steps.after _ (omega arith) c.index-steps-i.is
          c.in_ok-emit_step.ensures l.invariant.size;
    }
