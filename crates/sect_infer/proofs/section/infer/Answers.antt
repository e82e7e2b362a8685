use Rattle.std.proofs.{Common.{◌≡◌, ◌+◌, [], ◌∷◌, ℕ, List, Result, length, sym, ap, ◌∙◌}, lemmas.Result.{IfOk-weaker}}
use Rattle.std.specs.Prelude.{slice_get, Some, IfOk}
use Rattle.sect_lemmas.specs.Lists.{Has}
use Rattle.sect_types.specs.Sections.{SectionView, sections_of, section_shown}
use Rattle.sect_graph.specs.{declared.flow.Node.{Node}, Graphs.{IsGraphOf}}
use Rattle.sect_names.specs.{declared.lock.Lock.{Lock}, Schemes.{SchemeView}, Locks.{IsLockOf}}
use Rattle.sect_names.specs.Needed.{end_locks, end_of}
use Rattle.sect_infer.specs.Sets.{LocksView, AreLocksOf}
use Rattle.sect_infer.specs.steps.Found.{IsFound, IsOnAll}
use Rattle.sect_names.proofs.shared.Ending.{section_read, end_is}
use Rattle.sect_infer.proofs.Finding.{inferred_of, on_all_of, found_lawful, all_lawful, end_is_all}
use Rattle.sect_infer.proofs.section.infer.Goals.{After-locking, in-None, in-Some}
use Rattle.sect_names.specs.declared.lock.Lock.TheVariants as lock
use Rattle.sect_infer.proofs.section.infer.Goals as goal

-- all the locks of a section may be taken by the thread
abbrev AreLawfulAt : SchemeView → ℕ → LocksView → Type 0
AreLawfulAt s t sets = (j : ℕ) (locks : List Lock) → slice_get sets.at j ≡ Some locks → (l : Lock) → Has locks l
    → IsLockOf s t l

-- the section and its graph are those of this number
section_at : (c : After-locking) → (slice_get (sections_of c.args.scheme.now.program.texts) c.args.section
    ≡ Some (section_shown c.section-thread.result))
    × (slice_get c.args.scheme.now.graphs.sections c.args.section ≡ Some c.section-flow.result.now)
section_at c = section_read c.args.scheme.now c.args.section _ _ _ _ c.program-2.ensures
    c.section-thread.ensures.section c.graph.ensures c.section-flow.ensures

graph_is : (c : After-locking) → IsGraphOf c.section-thread.result.body.now c.section-flow.result.now
graph_is c = let at = section_at c in
    c.facts.ensures.graphed.sections c.args.section (section_shown c.section-thread.result) c.section-flow.result.now
    at.0 at.1

-- the locks of the section that was read are those of the section of this number
of_number : {E : Type 0} (c : After-locking) (r : Result LocksView E) (last : List Lock) (of : SectionView)
    (g : List Node)
    → slice_get (sections_of c.args.scheme.now.program.texts) c.args.section ≡ Some of
    → slice_get c.args.scheme.now.graphs.sections c.args.section ≡ Some g → end_locks c.locking.result ≡ last
    → IfOk r (AreLocksOf c.args.scheme.now last (section_shown c.section-thread.result)
    c.section-flow.result.now)
    → IfOk r (AreLocksOf c.args.scheme.now (end_of c.args.scheme.now c.args.section) of g)
of_number c r last of g section_is flow_is takes locks =
    let at = section_at c in
    let same_section : section_shown c.section-thread.result ≡ of = cc in
    let same_graph : c.section-flow.result.now ≡ g = cc in
    rw (
      sym same_section,
      sym same_graph,
      end_is c.args.scheme.now c.args.section _ c.locking.result c.program-3.ensures c.locking.ensures,
      takes,
    ) locks

pub found-requires : goal.found-requires
found-requires c = let at = section_at (goal.at.found-requires c).After-locking in
    c.only_the_programs.ensures (section_shown c.section-thread.result) c.section-flow.result.now at.0 at.1

pub returns-clause-locks : goal.returns-clause-locks
returns-clause-locks c = λ of g section_is flow_is.
    let s = c.args.scheme.now in
    let here = section_shown c.section-thread.result in
    let flow = c.section-flow.result.now in
    let read = (goal.at.returns-clause-locks c).After-locking in
    elim c.match-end_lock.branch [
      | in-None w ↦ rw w.result-is
          (of_number read w.found.result [] of g section_is flow_is w.in-None.ensures.none
          (IfOk-weaker w.found.result (IsFound s here.thread flow) (AreLocksOf s [] here flow)
          (inferred_of s here.thread flow here.body (graph_is read)) w.found.ensures))
      | in-Some w ↦ rw w.result-is
          (of_number read w.on_all_of.result (lock.All ∷ []) of g section_is flow_is
          (w.in-Some.ensures.some
          ∙ ap (λ x. x ∷ []) (end_is_all c.locking.result w.in-Some.field-0 w.in-Some.ensures.some))
          (IfOk-weaker w.on_all_of.result (IsOnAll s (length flow + 1)) (AreLocksOf s (lock.All ∷ []) here flow)
          (on_all_of s here.thread flow here.body (graph_is read)) w.on_all_of.ensures))
    ]

pub returns-clause-lawful : goal.returns-clause-lawful
returns-clause-lawful c = λ of section_is.
    let s = c.args.scheme.now in
    let flow = c.section-flow.result.now in
    let here = section_shown c.section-thread.result in
    let at = section_at (goal.at.returns-clause-lawful c).After-locking in
    elim c.match-end_lock.branch [
      | in-None w ↦
          let same : here ≡ of = cc in
          rw (w.result-is, sym same)
          (IfOk-weaker w.found.result (IsFound s here.thread flow) (AreLawfulAt s here.thread)
          (λ sets f. found_lawful s here.thread flow (c.only_the_programs.ensures here flow at.0 at.1) sets.at f.found)
          w.found.ensures)
      | in-Some w ↦ rw w.result-is
          (IfOk-weaker w.on_all_of.result (IsOnAll s (length flow + 1)) (AreLawfulAt s of.thread)
          (λ sets f. all_lawful s of.thread (length flow + 1) sets.at f.all) w.on_all_of.ensures)
    ]
