use Rattle.std.proofs.Common.{◌≡◌, ◌<◌, Some, length, sym, ap, ◌∙◌, subst, arith}
use Rattle.std.proofs.lemmas.{List.{length-map}, Option.{slice_get-get_or, slice_get-map}}
use Rattle.std.specs.{Prelude.{slice_get}, Option.{option_map}}
use Rattle.sect_lemmas.specs.Lists.{Has}
use Rattle.sect_lemmas.proofs.{Membership.{Has-get_or}, Results.{if_ok}}
use Rattle.sect_chains.specs.{Numbered.{NumberedView, HaveLocks}, steps.Following.{LinkBack, chain_from}}
use Rattle.sect_chains.proofs.Following.{chain_has_locks}
use Rattle.sect_chains.proofs.numbered.NumberedChains.chain.Goals.{After-index}
use Rattle.sect_chains.proofs.numbered.NumberedChains.chain.Goals as goal

-- there is a start for the chain
within : (c : After-index) → c.args.index < length c.self.inside.starts.items
within c = omega (
  arith,
  c.requires,
  ap (λ (v : NumberedView). length v.chains) c.self.view_is,
  length-map c.self.inside.starts.items (chain_from c.self.inside.steps.items),
)

pub steps_from-requires-clause-there : goal.steps_from-requires-clause-there
steps_from-requires-clause-there c =
    let starts = c.self.inside.starts.items in
    let start = c.index.result.now in
    let has = subst (Has starts) (sym c.index.ensures) (Has-get_or starts c.args.index start
    (within (goal.at.steps_from-requires-clause-there c).After-index)) in
    subst (λ kept. start < length kept) (sym c.as_slice.ensures.value) (c.self.invariant.there start has)

pub steps_from-requires-clause-back : goal.steps_from-requires-clause-back
steps_from-requires-clause-back c = subst LinkBack (sym c.as_slice.ensures.value) c.self.invariant.back

pub returns-clause-steps : goal.returns-clause-steps
returns-clause-steps c =
    let kept = c.self.inside.steps.items in
    let starts = c.self.inside.starts.items in
    let start = c.index.result.now in
    let i = c.args.index in
    let at : slice_get starts i ≡ Some start = slice_get-get_or starts i start
    (within (goal.at.returns-clause-steps c).After-index) ∙ ap (λ z. Some z) (sym c.index.ensures) in
    if_ok c.steps_from.result (λ chain is. ap (λ (v : NumberedView). slice_get v.chains i) (sym c.self.view_is)
    ∙ slice_get-map (chain_from kept) starts i ∙ ap (option_map (chain_from kept)) at
    ∙ ap (λ ks. Some (chain_from ks start)) (sym c.as_slice.ensures.value) ∙ ap (λ z. Some z) (sym is))
    c.steps_from.ensures

pub returns-clause-numbers : goal.returns-clause-numbers
returns-clause-numbers c =
    let inside = c.self.inside in
    let kept = inside.steps.items in
    let start = c.index.result.now in
    let have = subst (λ keys. HaveLocks keys (chain_from kept start))
    (ap (λ (v : NumberedView). v.keys) c.self.view_is)
    (chain_has_locks inside.numbering.keys kept c.self.invariant.locks start) in
    if_ok c.steps_from.result (λ chain is. subst (HaveLocks c.args.self.now.keys) (sym is)
    (subst (λ ks. HaveLocks c.args.self.now.keys (chain_from ks start)) (sym c.as_slice.ensures.value) have))
    c.steps_from.ensures
