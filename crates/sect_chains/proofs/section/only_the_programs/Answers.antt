use Rattle.std.proofs.Common.{◌≡◌, ℕ, Some, subst}
use Rattle.std.specs.Prelude.{slice_get}
use Rattle.sect_types.specs.{Programs.{ProgramView}, Sound.{AreSound}}
use Rattle.sect_graph.specs.declared.flow.Node.{Node}
use Rattle.sect_names.specs.Laws.{IsSoundStep}
use Rattle.sect_names.proofs.shared.Ends.{ended_lawful}
use Rattle.sect_chains.proofs.section.only_the_programs.Goals as goal

pub returns-clause-lawful : goal.returns-clause-lawful
returns-clause-lawful c = λ of g section_at graph_at.
    let s = c.args.scheme.now in
    let sound = subst (λ (p : ProgramView). AreSound p.records p.globals p.locals p.texts) c.program.ensures
    c.facts-2.ensures.sound in
    let step : (j : ℕ) (y : Node) → slice_get g j ≡ Some y → IsSoundStep s.program of.thread y.label
    = λ j y at. (c.steps_of_sections.ensures.sound s c.facts.ensures sound of y
    (c.args.section, g, j, section_at, graph_at, at)).0 in
    record {
      generated = λ j y at. c.locks_stay_the_programs.ensures.generated s c.facts.ensures of.thread y.label
          (step j y at);
      ended = ended_lawful s of.thread c.args.section;
      carried = λ j y at. c.locks_stay_the_programs.ensures.carried s c.facts.ensures of.thread y.label (step j y at);
    }

pub returns-clause-within : goal.returns-clause-within
returns-clause-within c = λ of g section_at graph_at. (c.facts.ensures.graphed.sections c.args.section of g section_at
    graph_at).within

pub returns-clause-respects : goal.returns-clause-respects
returns-clause-respects c = λ of g section_at graph_at j y at.
    let s = c.args.scheme.now in
    c.carrying_back_respects_covering.ensures s c.facts.ensures of.thread y.label
    (c.steps_of_sections.ensures.program s c.facts.ensures of y (c.args.section, g, j, section_at, graph_at, at))
