use Rattle.std.proofs.Common.{◌∷◌, ◌++◌, [], None, get_or, arith, sym, ap, ◌∙◌, append_assoc}
use Rattle.std.proofs.lemmas.Option.{slice_get-get_or}
use Rattle.sect_chains.specs.{declared.keep.KeptLink.{KeptLink}, declared.numbered.NumberedStep.{NumberedStep}}
use Rattle.sect_chains.specs.steps.Following.{numbered, chain_from}
use Rattle.sect_chains.proofs.Following.{chain_next, chain_last}
use Rattle.sect_chains.proofs.trail.steps_from.Goals as goal

pub loop-at-preserved : goal.loop-at-preserved
loop-at-preserved c =
    let steps = c.args.steps.now in
    let i = c.loop-at.at in
    let j = c.in-Some.next in
    let none : KeptLink = record { node = 0; number = 0; next = None } in
    let x = get_or steps i none in
    let at = slice_get-get_or steps i none c.loop-at.invariant.there in
    let less = c.requires.back i j x at c.in-Some.is in
    let old = c.loop-at.chain.items in record {
      there = omega (arith, less, c.loop-at.invariant.there);
      so_far =
          ap (λ xs. xs ++ chain_from steps j)
          (c.in_ok-push.ensures.items ∙ ap (λ (y : NumberedStep). old ++ y ∷ []) c.numbered.ensures)
          ∙ append_assoc old (numbered x ∷ []) (chain_from steps j)
          ∙ ap (λ xs. old ++ xs) (sym (chain_next steps c.requires.back i j x at c.in-Some.is))
          ∙ c.loop-at.invariant.so_far;
    }

pub loop-at-smaller : goal.loop-at-smaller
loop-at-smaller c =
    let steps = c.args.steps.now in
    let i = c.loop-at.at in
    let none : KeptLink = record { node = 0; number = 0; next = None } in
    c.requires.back i c.in-Some.next (get_or steps i none)
    (slice_get-get_or steps i none c.loop-at.invariant.there) c.in-Some.is

pub returns : goal.returns
returns c =
    let steps = c.args.steps.now in
    let i = c.loop-at.at in
    let none : KeptLink = record { node = 0; number = 0; next = None } in
    let x = get_or steps i none in
    let at = slice_get-get_or steps i none c.loop-at.invariant.there in
    let old = c.loop-at.chain.items in
    c.in_ok-push-2.ensures.items ∙ ap (λ (y : NumberedStep). old ++ y ∷ []) c.numbered-2.ensures
    ∙ ap (λ xs. old ++ xs) (sym (chain_last steps c.requires.back i x at c.in_default.is))
    ∙ c.loop-at.invariant.so_far
