use Rattle.std.proofs.{Common.{◌∙◌, sym}, lemmas.Option.{IfSome_then}}
use Rattle.sect_points.proofs.FilledLaws.{nothing_more, none_there}
use Rattle.sect_points.proofs.path_classes.second_field_site.Goals as goal

pub returns-then-is_some-clause-some : goal.returns-then-is_some-clause-some
returns-then-is_some-clause-some c =
    let base = c.in-Some.base in
    IfSome_then c.field_site-found.result c.field_site-found.ensures.some
    (λ s (m, h, k). (m, (base, c.in-Some.ensures.some.2.0, rw c.points-points.ensures at (c.slot.ensures m).0 h), k))

pub loop-base-preserved : goal.loop-base-preserved
loop-base-preserved c =
    let l = c.loop-base in
    let slot = rw c.points-points.ensures at c.slot.ensures in
    let none = none_there c.field_site-found.result _ c.field_site-found.ensures.none
    (sym c.is_some.ensures ∙ c.if-is_some.false) in
    nothing_more l.from c.in-Some.base c.args.classes.now.sets c.args.bases.now.words
    c.filled_in-filled.result.words
    c.slot.result.words c.args.first c.args.second
    c.filled_in-filled.ensures c.in-Some.ensures.some slot none l.invariant
