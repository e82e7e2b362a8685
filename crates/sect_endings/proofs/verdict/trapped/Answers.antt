use Rattle.std.proofs.Common.{◌<◌, ◌≤◌, subst, sym, ◌∙◌, arith}
use Rattle.sect_endings.specs.steps.Sets.{In, AreRanks, AreAllRanks, rank_of}
use Rattle.sect_endings.proofs.Judging.{none_trapped, comes_trapped}
use Rattle.sect_endings.proofs.verdict.trapped.Goals as goal

pub returns-then-states-rank_of : goal.returns-then-states-rank_of
returns-then-states-rank_of c =
    let g = c.args.graph.now in
    let all = c.in_ok-all.all.items in
    let traps = c.in_ok-traps.traps.items in
    let ranks = c.in_ok-ranks.ranks.items in
    let whole : AreAllRanks g all traps ranks =
    subst (λ z. AreAllRanks g all z ranks) c.deref-3.ensures.value
    (subst (λ z. AreAllRanks g z c.deref-3.result.now ranks) c.deref-2.ensures.value c.in_ok-ranks.ensures.all) in
    let past : g.states ≤ rank_of g ranks 0 =
    subst (λ z. g.states ≤ rank_of g z 0) c.deref-4.ensures.value
    (omega (arith, c.if-states-rank_of.true, c.states.ensures, c.rank_of.ensures)) in
    none_trapped g all traps ranks c.in_ok-all.ensures.all c.in_ok-traps.ensures.others whole c.requires past

pub returns : goal.returns
returns c =
    let g = c.args.graph.now in
    let all = c.in_ok-all.all.items in
    let traps = c.in_ok-traps.traps.items in
    let ranks = c.in_ok-ranks.ranks.items in
    let n = c.in_ok-ranks.ensures.ranks.0 in
    let a : AreRanks g all c.deref-5.result.now c.deref-6.result.now n =
    subst (λ z. AreRanks g all c.deref-5.result.now z n) (sym c.deref-6.ensures.value)
    (subst (λ z. AreRanks g all z ranks n) (c.deref-3.ensures.value ∙ sym c.deref-5.ensures.value)
    (subst (λ z. AreRanks g z c.deref-3.result.now ranks n) c.deref-2.ensures.value c.in_ok-ranks.ensures.ranks.1)) in
    let less : rank_of g c.deref-6.result.now 0 < g.states =
    subst (λ z. rank_of g z 0 < g.states) (c.deref-4.ensures.value ∙ sym c.deref-6.ensures.value)
    (omega (arith, c.if-states-rank_of.false, c.states.ensures, c.rank_of.ensures)) in
    let come = c.in_ok-walk.ensures all n a less in
    comes_trapped g all traps c.walk.new.run.state c.new.result.items c.walk.new.run.order.items
    c.in_ok-traps.ensures.traps c.requires c.new.ensures.items come.0
    (subst (λ z. In z c.walk.new.run.state) c.deref-5.ensures.value come.1)
