use Rattle.std.proofs.Common.{◌∷◌, [], ◌++◌, sym, ap, ◌∙◌, arith}
use Rattle.sect_warnings.specs.declared.warning.{Finding.TheVariants.{NoCommonField}}
use Rattle.sect_warnings.proofs.{Using.{usage_here, share_is, record_is}, Parting.{apart, compared_within, item_at}}
use Rattle.sect_warnings.proofs.Parting.{not_excluded, no_record, common}
use Rattle.sect_warnings.proofs.apart.add_pair.Goals as goal

pub returns-then-not-exclude_by_part : goal.returns-then-not-exclude_by_part
returns-then-not-exclude_by_part c =
    not_excluded c.args.compiled.now c.args.pair.now c.requires.compared c.requires.conflict c.args.found.now.items
    (sym c.exclude_by_part.ensures ∙ c.if-not-exclude_by_part.true)

pub bounds-usages-pair : goal.bounds-usages-pair
bounds-usages-pair c =
    let there = compared_within c.args.compiled.now c.args.pair.now.first c.args.pair.now.second c.requires.compared in
    let many = c.requires.usages.0 in omega (arith, there.0, many)

pub bounds-usages-pair-2 : goal.bounds-usages-pair-2
bounds-usages-pair-2 c =
    let there = compared_within c.args.compiled.now c.args.pair.now.first c.args.pair.now.second c.requires.compared in
    let many = c.requires.usages.0 in omega (arith, there.1, many)

pub returns-then-not-share_record : goal.returns-then-not-share_record
returns-then-not-share_record c =
    let v = c.args.compiled.now in
    let i = c.args.pair.now.first in
    let j = c.args.pair.now.second in
    let usages = c.args.usages.now in
    let there = compared_within v i j c.requires.compared in
    let many = c.requires.usages.0 in
    let x = c.index-usages-pair.result in
    let y = c.index-usages-pair-2.result in
    let mine = usage_here v usages c.requires.usages i x (omega (arith, there.0, many)) c.index-usages-pair.is in
    let theirs = usage_here v usages c.requires.usages j y (omega (arith, there.1, many)) c.index-usages-pair-2.is in
    no_record v c.args.pair.now c.requires.compared c.requires.conflict c.args.found.now.items
    (sym (record_is v i j x y mine theirs) ∙ sym c.share_record.ensures ∙ c.if-not-share_record.true)

pub returns-then-share_field : goal.returns-then-share_field
returns-then-share_field c =
    let v = c.args.compiled.now in
    let i = c.args.pair.now.first in
    let j = c.args.pair.now.second in
    let usages = c.args.usages.now in
    let there = compared_within v i j c.requires.compared in
    let many = c.requires.usages.0 in
    let x = c.index-usages-pair.result in
    let y = c.index-usages-pair-2.result in
    let mine = usage_here v usages c.requires.usages i x (omega (arith, there.0, many)) c.index-usages-pair.is in
    let theirs = usage_here v usages c.requires.usages j y (omega (arith, there.1, many)) c.index-usages-pair-2.is in
    common v c.args.pair.now c.requires.compared c.requires.conflict c.args.found.now.items
    (sym (share_is v i j x y mine theirs) ∙ sym c.share_field.ensures ∙ c.if-share_field.true)

pub bounds-items-pair : goal.bounds-items-pair
bounds-items-pair c =
    let there = compared_within c.args.compiled.now c.args.pair.now.first c.args.pair.now.second c.requires.compared in
    omega (arith, there.0, c.requires.many)

pub returns : goal.returns
returns c =
    let v = c.args.compiled.now in
    let pair = c.args.pair.now in
    let i = pair.first in
    let j = pair.second in
    let usages = c.args.usages.now in
    let there = compared_within v i j c.requires.compared in
    let many = c.requires.usages.0 in
    let x = c.index-usages-pair.result in
    let y = c.index-usages-pair-2.result in
    let mine = usage_here v usages c.requires.usages i x (omega (arith, there.0, many)) c.index-usages-pair.is in
    let theirs = usage_here v usages c.requires.usages j y (omega (arith, there.1, many)) c.index-usages-pair-2.is in
    let found = c.args.found.now.items in
    apart v pair c.requires.compared c.requires.conflict found
    (sym c.exclude_by_part.ensures ∙ c.if-not-exclude_by_part.false)
    (sym (record_is v i j x y mine theirs) ∙ sym c.share_record.ensures ∙ c.if-not-share_record.false)
    (sym (share_is v i j x y mine theirs) ∙ sym c.share_field.ensures ∙ c.if-share_field.false)
    c.push.new.self.items
    (c.in_ok-push.ensures.items ∙ ap (λ k. found ++ record { section = i; finding = NoCommonField j; item = k } ∷ [])
    (item_at v.scheme.program.source c.args.items.now c.requires.items i _ (omega (arith, there.0, c.requires.many))))
