use Rattle.std.proofs.{Common.{◌<◌, length, sym, ap, ◌∙◌, arith}, lemmas.Option.{get_or_from_slice_get}}
use Rattle.sect_chains.specs.Numbered.{links_by}
use Rattle.sect_chains.proofs.Linking.{made_more}
use Rattle.sect_chains.proofs.numbered.NumberedChains.linked.Goals as goal

pub loop-index-preserved : goal.loop-index-preserved
loop-index-preserved c =
    let chains = c.args.self.now.chains in
    let i = c.loop-index.index in
    let x = c.in_ok-steps.steps.items in
    let within : i < length chains = omega (arith, c.loop-index-test.true, c.len-index-end.ensures) in
    c.in_ok-push.ensures.items ∙ made_more (links_by c.args.self.now.keys) chains i x c.loop-index.chains.items
    c.of.result within (sym (get_or_from_slice_get chains i x x c.in_ok-steps.ensures.steps)) c.loop-index.invariant
    (c.of.ensures ∙ c.in_ok-links.ensures ∙ ap (links_by c.args.self.now.keys) c.as_slice.ensures.value)
