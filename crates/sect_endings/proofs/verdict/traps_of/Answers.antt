use Rattle.std.proofs.Common.{◌≤◌, subst, sym}
use Rattle.sect_endings.specs.{Graphs.{IsEnd}, steps.Sets.{AreMarks, rank_of}}
use Rattle.sect_endings.proofs.Judging.{traps_marked, others_end}
use Rattle.sect_endings.proofs.verdict.traps_of.Goals as goal

pub returns-clause-traps : goal.returns-clause-traps
returns-clause-traps c =
    let g = c.args.graph.now in
    let all = c.args.all.now in
    let ranks = c.in_ok-ranks.ranks.items in
    let ends : AreMarks g.states c.deref.result.now (IsEnd g) =
    subst (λ z. AreMarks g.states z (IsEnd g)) (sym c.deref.ensures.value) c.in_ok-ends.ensures in
    let traps : AreMarks g.states c.in_ok-traps.traps.items (λ s. g.states ≤ rank_of g ranks s) =
    subst (λ z. AreMarks g.states c.in_ok-traps.traps.items (λ s. g.states ≤ rank_of g z s)) c.deref-2.ensures.value
    c.in_ok-traps.ensures in
    traps_marked g all c.deref.result.now ranks c.in_ok-ranks.ensures.ranks.0 c.in_ok-traps.traps.items c.requires ends
    c.in_ok-ranks.ensures.ranks.1 c.in_ok-ranks.ensures.all traps

pub returns-clause-others : goal.returns-clause-others
returns-clause-others c =
    let g = c.args.graph.now in
    let all = c.args.all.now in
    let ranks = c.in_ok-ranks.ranks.items in
    let ends : AreMarks g.states c.deref.result.now (IsEnd g) =
    subst (λ z. AreMarks g.states z (IsEnd g)) (sym c.deref.ensures.value) c.in_ok-ends.ensures in
    let traps : AreMarks g.states c.in_ok-traps.traps.items (λ s. g.states ≤ rank_of g ranks s) =
    subst (λ z. AreMarks g.states c.in_ok-traps.traps.items (λ s. g.states ≤ rank_of g z s)) c.deref-2.ensures.value
    c.in_ok-traps.ensures in
    others_end g all c.deref.result.now ranks c.in_ok-ranks.ensures.ranks.0 c.in_ok-traps.traps.items c.requires ends
    c.in_ok-ranks.ensures.ranks.1 c.in_ok-ranks.ensures.all traps
