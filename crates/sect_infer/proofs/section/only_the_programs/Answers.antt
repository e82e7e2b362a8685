use Rattle.std.proofs.Common.{◌≡◌, ℕ, Some, subst}
use Rattle.std.specs.Prelude.{slice_get}
use Rattle.sect_types.specs.{Programs.{ProgramView}, Sound.{AreSound}}
use Rattle.sect_graph.specs.declared.flow.Node.{Node}
use Rattle.sect_names.specs.Laws.{IsSoundStep, IsProgramStep}
use Rattle.sect_infer.proofs.section.only_the_programs.Goals as goal

pub returns : goal.returns
returns c = λ of g section_at graph_at.
    let s = c.args.scheme.now in
    let sound = subst (λ (p : ProgramView). AreSound p.records p.globals p.locals p.texts) c.program.ensures
    c.facts-2.ensures.sound in
    let step : (j : ℕ) (y : Node) → slice_get g j ≡ Some y → IsSoundStep s.program of.thread y.label
    = λ j y at. (c.steps_of_sections.ensures.sound s c.facts.ensures sound of y
    (c.args.section, g, j, section_at, graph_at, at)).0 in
    let program : (j : ℕ) (y : Node) → slice_get g j ≡ Some y → IsProgramStep s of.thread y.label
    = λ j y at. c.steps_of_sections.ensures.program s c.facts.ensures of y
    (c.args.section, g, j, section_at, graph_at, at) in
    record {
      respects = λ j y at. c.carrying_back_respects_covering.ensures s c.facts.ensures of.thread y.label
          (program j y at);
      generated = λ j y at. c.locks_stay_the_programs.ensures.generated s c.facts.ensures of.thread y.label
          (step j y at);
      carried = λ j y at. c.locks_stay_the_programs.ensures.carried s c.facts.ensures of.thread y.label (step j y at);
      within = (c.facts.ensures.graphed.sections c.args.section of g section_at graph_at).within;
    }
