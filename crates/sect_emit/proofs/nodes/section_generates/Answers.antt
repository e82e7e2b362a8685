use Rattle.std.proofs.Common.{◌≡◌, ◌↔◌, ◌≤◌, List, length, Some, sym, ap, ◌∙◌, subst}
use Rattle.std.specs.Prelude.{slice_get}
use Rattle.sect_types.specs.{Programs.{ProgramView}, Sections.{sections_of, section_shown}, Sound.{AreSound}}
use Rattle.sect_graph.specs.{Graphs.{GraphView}, declared.flow.Node.{Node}}
use Rattle.sect_names.specs.{declared.lock.Lock.{Lock}, Chains.{link, IsGeneratedAt}, Needed.{end_locks}}
use Rattle.sect_names.specs.Schemes.{SchemeView}
use Rattle.sect_emit.proofs.Noded.{flow_here, generated_here, own_named}
use Rattle.sect_emit.proofs.nodes.section_generates.Goals.{After-locking, After-generated_at}
use Rattle.sect_emit.proofs.nodes.section_generates.Goals as goal

-- the program, the section and its graph
program_is : (c : After-locking) → c.program-program.result.now ≡ c.args.compiled.now.scheme.program
program_is c = c.program-program.ensures ∙ ap (λ (s : SchemeView). s.program) c.scheme-scheme.ensures

here : (c : After-locking) → slice_get (sections_of c.args.compiled.now.scheme.program.texts) c.args.section
    ≡ Some (section_shown c.section-thread.result)
here c = subst
    (λ (p : ProgramView). slice_get (sections_of p.texts) c.args.section ≡ Some (section_shown c.section-thread.result))
    (program_is c) c.section-thread.ensures.section

there : (c : After-locking) → slice_get c.args.compiled.now.scheme.graphs.sections c.args.section
    ≡ Some c.section-flow.result.now
there c = subst (λ (g : GraphView). slice_get g.sections c.args.section ≡ Some c.section-flow.result.now)
    (c.graph.ensures ∙ ap (λ (s : SchemeView). s.graphs) c.scheme-scheme.ensures) c.section-flow.ensures

lockings : (c : After-locking) → slice_get c.args.compiled.now.scheme.program.lockings c.args.section
    ≡ Some c.locking.result
lockings c = subst (λ (p : ProgramView). slice_get p.lockings c.args.section ≡ Some c.locking.result) (program_is c)
    c.locking.ensures

-- what the node generates, in the scheme of the compiled program
own : (c : After-generated_at) → (l : Lock) → (c.generated_at.result ≡ Some l)
    ↔ IsGeneratedAt c.args.compiled.now.scheme c.section-thread.result.thread (end_locks c.locking.result)
    c.section-flow.result.now (link c.args.node l)
own c = subst (λ (s : SchemeView). (l : Lock) → (c.generated_at.result ≡ Some l)
    ↔ IsGeneratedAt s c.section-thread.result.thread (end_locks c.locking.result) c.section-flow.result.now
    (link c.args.node l)) c.scheme-scheme.ensures c.generated_at.ensures

pub generated_at-requires : goal.generated_at-requires
generated_at-requires c =
    let graph = flow_here c.args.compiled.now c.facts.ensures.compiled c.args.section
    (section_shown c.section-thread.result) (here c) c.section-flow.result.now (there c) in
    subst (λ (g : List Node). c.args.node ≤ length g) (sym graph) c.requires.node

pub returns-clause-generated : goal.returns-clause-generated
returns-clause-generated c =
    let p = (goal.at.returns-clause-generated c).After-locking in
    generated_here c.args.compiled.now c.facts.ensures.compiled c.args.section (section_shown c.section-thread.result)
    (here p) c.section-flow.result.now (there p) c.locking.result (lockings p) c.args.node c.generated_at.result (own c)

pub returns-clause-named : goal.returns-clause-named
returns-clause-named c l is =
    let p = (goal.at.returns-clause-named c).After-locking in
    let s = c.args.compiled.now.scheme in
    let scheme = c.facts.ensures.compiled.scheme in
    let sound = subst (λ (p : ProgramView). AreSound p.records p.globals p.locals p.texts) (program_is p)
    c.facts-2.ensures.sound in
    own_named c.args.compiled.now c.facts.ensures.compiled c.args.section (section_shown c.section-thread.result)
    (here p) c.section-flow.result.now (there p) c.locking.result (lockings p)
    (λ of x stands. (c.steps_of_sections.ensures.sound s scheme sound of x stands).0)
    (c.locks_stay_the_programs.ensures.generated s scheme) c.args.node l ((own c l).0 is)
