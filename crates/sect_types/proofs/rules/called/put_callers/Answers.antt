use Rattle.std.proofs.Common.{◌∙◌, ◌++◌, ◌∷◌, [], ap, sym, refl, arith, subst, take, ◌+◌}
use Rattle.std.proofs.lemmas.List.{get_or_read}
use Rattle.std.specs.Prelude.{slice_index_or}
use Rattle.sect_lemmas.proofs.Changed.{set_put}
use Rattle.sect_types.proofs.Reversing.{AreReversed, one_reversed, all_reversed, called_there, gathered, read_call}
use Rattle.sect_types.proofs.rules.called.put_callers.Goals as goal

pub index_mut-requires : goal.index_mut-requires
index_mut-requires c =
    let ps = c.args.procedures.now in
    let all = c.as_slice-callee-items.result.now in
    let is = c.as_slice-callee-items.ensures.value ∙ gathered ps c.args.number c.index-procedures-number.result
    c.new-list.result.items c.put_block.new.out.items c.requires.there c.index-procedures-number.is
    c.new-list.ensures.items c.in_ok-put_block.ensures in
    omega (
      arith,
      c.loop-callee.invariant.before.as_many,
      called_there ps c.args.number
          (slice_index_or all c.loop-callee.callee-index 0)
          (read_call ps c.args.number all c.loop-callee.callee-index (omega arith) is),
    )

pub loop-callee-preserved : goal.loop-callee-preserved
loop-callee-preserved c =
    let ps = c.args.procedures.now in
    let all = c.as_slice-callee-items.result.now in
    let is = c.as_slice-callee-items.ensures.value ∙ gathered ps c.args.number c.index-procedures-number.result
    c.new-list.result.items c.put_block.new.out.items c.requires.there c.index-procedures-number.is
    c.new-list.ensures.items c.in_ok-put_block.ensures in
    let q = slice_index_or all c.loop-callee.callee-index 0 in
    let calls = read_call ps c.args.number all c.loop-callee.callee-index (omega arith) is in
    let there = called_there ps c.args.number q calls in
    let row = get_or_read c.loop-callee.callers.items q c.index_mut.result.now
    (omega (arith, c.loop-callee.invariant.before.as_many, there)) c.index_mut.ensures.value [] in
    subst (λ x. AreReversed c.args.number ps x (take (c.loop-callee.callee-index + 1) all))
    (sym (set_put q c.push.new.self c.loop-callee.callers.items))
    (one_reversed c.args.number ps c.loop-callee.callers.items all c.loop-callee.callee-index q c.push.new.self
    (omega arith)
    refl calls there (c.in_ok-push.ensures.ok ∙ ap (λ r. r ++ c.args.number ∷ []) row) c.loop-callee.invariant)

pub returns : goal.returns
returns c =
    let ps = c.args.procedures.now in
    let all = c.as_slice-callee-items.result.now in
    let is = c.as_slice-callee-items.ensures.value ∙ gathered ps c.args.number c.index-procedures-number.result
    c.new-list.result.items c.put_block.new.out.items c.requires.there c.index-procedures-number.is
    c.new-list.ensures.items c.in_ok-put_block.ensures in
    all_reversed c.args.number ps c.loop-callee.callers.items all c.loop-callee.callee-index (omega arith) is
    c.loop-callee.invariant
