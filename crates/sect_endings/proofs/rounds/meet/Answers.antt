use Rattle.std.proofs.Common.{◌<◌, subst, sym, ◌∙◌}
use Rattle.sect_endings.specs.steps.Sets.{AreMarks, IsMet, AreRanks, rank_of, In}
use Rattle.sect_endings.proofs.{Walks.{passes_go, passes_stay, meets_ranked}, Marked.{in_there}}
use Rattle.sect_endings.proofs.rounds.meet.Goals as goal
use Rattle.sect_endings.proofs.rounds.meet.Goals.{in-Some+in_ok-step, in_default}

pub returns : goal.returns
returns c =
    let g = c.args.graph.now in
    let within = c.args.within.now in
    let t = c.args.thread in
    let s = c.args.run.now.state in
    let order = c.args.run.now.order.items in
    let goals = c.in_ok-goals.goals.items in
    let ranks = c.in_ok-ranks.ranks.items in
    let n = c.in_ok-ranks.ensures.ranks.0 in
    let marks : AreMarks g.states goals (IsMet g within t) = c.in_ok-goals.ensures in
    let first : AreMarks g.states c.deref.result.now (IsMet g within t) =
    subst (λ z. AreMarks g.states z (IsMet g within t)) (sym c.deref.ensures.value) marks in
    let a : AreRanks g within c.deref-2.result.now c.deref-3.result.now n =
    subst (λ z. AreRanks g within z c.deref-3.result.now n) (c.deref.ensures.value ∙ sym c.deref-2.ensures.value)
    (subst (λ z. AreRanks g within c.deref.result.now z n) (sym c.deref-3.ensures.value)
    c.in_ok-ranks.ensures.ranks.1) in
    let lt : rank_of g c.deref-3.result.now s < g.states =
    subst (λ z. rank_of g z s < g.states) (sym c.deref-3.ensures.value)
    (meets_ranked g within c.deref.result.now ranks t s c.requires.size first c.in_ok-ranks.ensures.all
    c.requires.inside (c.requires.meets s c.requires.inside)) in
    let come = c.in_ok-walk.ensures within n a lt in
    let q = c.walk.new.run.state in
    let mid = c.walk.new.run.order.items in
    let at : In goals q = subst (λ z. In z q) c.deref-2.ensures.value come.1 in
    let met : IsMet g within t q = (marks.is q (subst (λ z. q < z) marks.size (in_there goals q at))).0 at in
    elim c.match-go.branch [
      | in-Some+in_ok-step w ↦ rw w.run-is (rw w.in_ok-step.ensures.state (passes_go g within t s q w.in-Some.next order
          mid w.step.new.run.order.items come.0 met (sym w.in-Some.ensures) w.in_ok-step.ensures.order))
      | in_default w ↦ rw w.run-is (passes_stay g within t s q order mid come.0 (sym w.in_default.ensures))
    ]
