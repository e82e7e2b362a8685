use Rattle.std.proofs.Common.{subst, sym}
use Rattle.sect_endings.specs.steps.Sets.{AreMarks, MovesInto}
use Rattle.sect_endings.proofs.Candidates.{narrowed_less, moves_candidate, moves_settled}
use Rattle.sect_endings.proofs.lasting.narrow_to_moves.Goals as goal

pub returns-clause-less : goal.returns-clause-less
returns-clause-less c = narrowed_less c.args.graph.now c.deref.result.now c.args.marks.now c.narrow.new.marks
    c.in_ok-changed.changed c.in_ok-changed.ensures

pub returns-clause-stays : goal.returns-clause-stays
returns-clause-stays c = moves_candidate c.args.graph.now c.deref.result.now c.args.marks.now c.narrow.new.marks
    c.in_ok-changed.changed
    (subst (λ z. AreMarks c.args.graph.now.states z (MovesInto c.args.graph.now c.args.marks.now))
    (sym c.deref.ensures.value) c.in_ok-goals.ensures) c.in_ok-changed.ensures

pub returns-clause-moves : goal.returns-clause-moves
returns-clause-moves c = moves_settled c.args.graph.now c.deref.result.now c.args.marks.now c.narrow.new.marks
    c.in_ok-changed.changed
    (subst (λ z. AreMarks c.args.graph.now.states z (MovesInto c.args.graph.now c.args.marks.now))
    (sym c.deref.ensures.value) c.in_ok-goals.ensures) c.in_ok-changed.ensures c.requires
