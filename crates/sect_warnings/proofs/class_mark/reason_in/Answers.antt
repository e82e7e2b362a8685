use Rattle.std.proofs.{Common.{◌<◌, sym, ◌∙◌, subst}, lemmas.Option.{slice_get_within, get_or_from_slice_get}}
use Rattle.sect_emit.specs.Words.{IsChainNamed}
use Rattle.sect_warnings.specs.ClassLocks.{class_lock, IsReason}
use Rattle.sect_warnings.proofs.ClassMarks.{kept_reason}
use Rattle.sect_warnings.proofs.class_mark.reason_in.Goals as goal

pub index-requires : goal.index-requires
index-requires c =
    let inside = c.reasons.inside in
    let k = c.number_in-number.result in
    let there = kept_reason c.args.compiled.now _ c.args.reasons.now c.reasons.view_is c.requires.reasons
    (class_lock c.args.lock.class c.args.lock.effect) c.set.result.now k c.set.ensures c.number_in-number.ensures in
    subst (λ m. k < m) (sym inside.chains.ok.0) (slice_get_within inside.chains.items k there.0 there.1)

pub returns-clause-reason : goal.returns-clause-reason
returns-clause-reason c =
    let k = c.number_in-number.result in
    let l = class_lock c.args.lock.class c.args.lock.effect in
    let there = kept_reason c.args.compiled.now _ c.args.reasons.now c.reasons.view_is c.requires.reasons l
    c.set.result.now k c.set.ensures c.number_in-number.ensures in
    subst (IsReason c.args.compiled.now c.args.reasons.now.section l) (sym (c.links.ensures ∙ (c.index.ensures
    ∙ get_or_from_slice_get c.reasons.inside.chains.items k there.0 c.index.result.now there.1))) there.2

pub returns-clause-named : goal.returns-clause-named
returns-clause-named c =
    let k = c.number_in-number.result in
    let there = kept_reason c.args.compiled.now _ c.args.reasons.now c.reasons.view_is c.requires.reasons
    (class_lock c.args.lock.class c.args.lock.effect) c.set.result.now k c.set.ensures c.number_in-number.ensures in
    subst (IsChainNamed c.args.compiled.now.scheme.program) (sym (c.links.ensures ∙ (c.index.ensures
    ∙ get_or_from_slice_get c.reasons.inside.chains.items k there.0 c.index.result.now there.1))) there.3
