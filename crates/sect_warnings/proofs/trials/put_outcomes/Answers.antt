use Rattle.std.proofs.lemmas.List.{get_or_read}
use Rattle.std.proofs.Common.{◌+◌, ap, sym, ◌∙◌, subst, arith, slice_set}
use Rattle.std.specs.String.{string_bytes}
use Rattle.sect_warnings.specs.{Hinting.{hint_words}, steps.Trials.{sought, IsAdded, no_placed, with_note}}
use Rattle.sect_warnings.proofs.Trying.{AreNotedBelow, one_more}
use Rattle.sect_warnings.proofs.trials.put_outcomes.Goals as goal

pub loop-number-preserved : goal.loop-number-preserved
loop-number-preserved c =
    let l = c.loop-number in
    let t = c.args.tried.now in
    let one = c.in_ok-put_said.ensures in
    let there = get_or_read l.placed.items l.number c.index_mut.result.now (omega (arith, l.invariant.still))
    c.index_mut.ensures.value no_placed in
    subst (λ p. AreNotedBelow
    (λ o. IsAdded t.compiled (hint_words t.name (string_bytes t.guard)) (sought c.args.guarded o)) c.args.trials.now c.args.placed.now.items (l.number + 1) (slice_set l.placed.items l.number p))
    (sym (one.2 ∙ ap (λ p. with_note p one.0) there))
    (one_more (λ o. IsAdded t.compiled (hint_words t.name (string_bytes t.guard)) (sought c.args.guarded o))
    c.args.trials.now c.args.placed.now.items l.number l.placed.items one.0 (omega arith) l.invariant one.1)
