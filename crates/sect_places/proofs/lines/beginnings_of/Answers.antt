use Rattle.std.proofs.Common.{ℕ, List, map, get_or, length, ◌<◌, ◌≤◌, sym, ap, subst, ◌∙◌, arith}
use Rattle.std.proofs.{lemmas.List.{take_all}, lemmas.Result.{IfOk-weaker}, lemmas.Simd.{map-map}}
use Rattle.sect_front.specs.declared.span.Span.{Span}
use Rattle.sect_places.specs.Positions.{position}
use Rattle.sect_places.proofs.Lining.{begins_within}
use Rattle.sect_places.proofs.lines.beginnings_of.Goals as goal

pub positions_of-requires : goal.positions_of-requires
positions_of-requires c =
    let spans = c.args.spans.now in
    let all = c.as_slice.ensures.value ∙ c.loop-span.invariant
    ∙ ap (map (λ (s : Span). s.start)) (take_all c.loop-span.span-index spans (omega arith)) in
    subst (λ (ps : List ℕ). (k d : ℕ) → k < length ps → get_or ps k d ≤ length c.args.source.now) (sym all)
    (begins_within (length c.args.source.now) spans c.requires)

pub returns : goal.returns
returns c =
    let spans = c.args.spans.now in
    let all = c.as_slice.ensures.value ∙ c.loop-span.invariant
    ∙ ap (map (λ (s : Span). s.start)) (take_all c.loop-span.span-index spans (omega arith)) in
    IfOk-weaker c.positions_of.result _ _
    (λ list h. h ∙ ap (map (position c.args.source.now)) all
    ∙ map-map (position c.args.source.now) (λ (s : Span). s.start) spans) c.positions_of.ensures
