use Rattle.std.proofs.Common.{arith, ◌≡◌, ◌+◌, ◌++◌, ◌∷◌, [], length, ap, ◌∙◌, length-append}
use Rattle.sect_table.specs.steps.{Arena.{chain_at, holds_at, queue_at, entries_from}, Links.{list_at}}
use Rattle.sect_table.proofs.Growing.{arena_fresh, held_from-empty, padded}
use Rattle.sect_table.proofs.arena.Arena.with_threads.Goals as goal

pub invariant_of-result : goal.invariant_of-result
invariant_of-result c =
    let inv = c.loop-step.invariant in
    let past = c.loop-step-test.false in
    let end = c.loop-step.auto.step-end in
    let count = inv.count in
    let none : length c.new-queues.result.lists ≡ 0 = ap length c.new-queues.ensures.lists in
    let kept : length c.reserve_lists.new.self.lists ≡ length c.new-queues.result.lists =
    ap length c.reserve_lists.ensures.lists in
    let one : length c.add_list.new.self.lists ≡ length (c.reserve_lists.new.self.lists ++ [] ∷ []) =
    ap length c.add_list.ensures.lists in
    let more : length (c.reserve_lists.new.self.lists ++ [] ∷ []) ≡ length c.reserve_lists.new.self.lists + 1 =
    length-append c.reserve_lists.new.self.lists ([] ∷ []) in
    arena_fresh c.new.result.items c.new-2.result c.args.threads c.add_list.new.self c.loop-step.chains
    c.new.ensures.items c.new-2.ensures
    (c.add_list.ensures.size ∙ (c.reserve_lists.ensures.size ∙ c.new-queues.ensures.size)) inv.size (omega arith)
    c.add_list.ensures.few (omega arith) c.add_list.ensures.placed inv.placed

pub loop-step-preserved : goal.loop-step-preserved
loop-step-preserved c =
    let inv = c.loop-step.invariant in
    let was = inv.count in
    let s = c.reserve_lists-in-loop-step.new.self in
    let kept : length s.lists ≡ length c.loop-step.chains.lists =
    ap length c.reserve_lists-in-loop-step.ensures.lists in
    let one : length c.add_list-in-loop-step.new.self.lists ≡ length (s.lists ++ [] ∷ []) =
    ap length c.add_list-in-loop-step.ensures.lists in
    let one' : length (s.lists ++ [] ∷ []) ≡ length s.lists + 1 = length-append s.lists ([] ∷ []) in
    let two : length c.add_list-in-loop-step-2.new.self.lists ≡ length
    (c.add_list-in-loop-step.new.self.lists ++ [] ∷ []) = ap length c.add_list-in-loop-step-2.ensures.lists in
    let two' : length (c.add_list-in-loop-step.new.self.lists ++ [] ∷ []) ≡ length
    c.add_list-in-loop-step.new.self.lists + 1 = length-append c.add_list-in-loop-step.new.self.lists ([] ∷ []) in
    record {
      size = c.add_list-in-loop-step-2.ensures.size
          ∙ (c.add_list-in-loop-step.ensures.size ∙ (c.reserve_lists-in-loop-step.ensures.size ∙ inv.size));
      count = omega arith;
      empty = λ l. ap (λ z. list_at z l) c.add_list-in-loop-step-2.ensures.lists
          ∙ (padded c.add_list-in-loop-step.new.self.lists l
          ∙ (ap (λ z. list_at z l) c.add_list-in-loop-step.ensures.lists
          ∙ (padded s.lists l
          ∙ (ap (λ z. list_at z l) c.reserve_lists-in-loop-step.ensures.lists ∙ inv.empty l))));
      placed = c.add_list-in-loop-step-2.ensures.placed;
    }

pub loop-step-init : goal.loop-step-init
loop-step-init c =
    let none : length c.new-chains.result.lists ≡ 0 = ap length c.new-chains.ensures.lists in
    let s = c.reserve_lists-2.new.self in
    let kept : length s.lists ≡ length c.new-chains.result.lists = ap length c.reserve_lists-2.ensures.lists in
    let one : length c.add_list-2.new.self.lists ≡ length (s.lists ++ [] ∷ []) = ap length c.add_list-2.ensures.lists in
    let more : length (s.lists ++ [] ∷ []) ≡ length s.lists + 1 = length-append s.lists ([] ∷ []) in
    record {
      size = c.add_list-2.ensures.size ∙ (c.reserve_lists-2.ensures.size ∙ c.new-chains.ensures.size);
      count = omega arith;
      empty = λ l. ap (λ z. list_at z l) c.add_list-2.ensures.lists
          ∙ (padded s.lists l ∙ (ap (λ z. list_at z l) c.reserve_lists-2.ensures.lists
          ∙ ap (λ z. list_at z l) c.new-chains.ensures.lists));
      placed = c.add_list-2.ensures.placed;
    }

pub returns : goal.returns
returns c =
    let queue : list_at c.add_list.new.self.lists 0 ≡ [] = ap (λ z. list_at z 0) c.add_list.ensures.lists
    ∙ (padded c.reserve_lists.new.self.lists 0
    ∙ (ap (λ z. list_at z 0) c.reserve_lists.ensures.lists ∙ ap (λ z. list_at z 0) c.new-queues.ensures.lists)) in
    record {
      held = held_from-empty (chain_at c.new.result.items c.loop-step.chains.lists) 0 c.args.threads
          (λ j. ap (holds_at c.new.result.items) (c.loop-step.invariant.empty (j + j + 1)));
      entries = ap (entries_from (queue_at c.new.result.items c.add_list.new.self.lists) 0) c.new-2.ensures;
      spare = ap length queue;
    }
