use Rattle.std.proofs.Common.{[], ◌∷◌, ◌+◌, length-append, ap, ◌∙◌}
use Rattle.sect_lemmas.proofs.Elements.{empty_more}
use Rattle.sect_chains.proofs.work.none_found.Goals as goal

pub loop-preserved : goal.loop-preserved
loop-preserved c = rw (c.in_ok-push.ensures.items, c.new.ensures) (record {
  counted = length-append c.loop.found.items ([] ∷ []) ∙ ap (λ n. n + 1) c.loop.invariant.counted;
  none = λ j. empty_more c.loop.found.items j c.loop.invariant.none;
})
