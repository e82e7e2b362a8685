use Rattle.std.proofs.{Common.{◌≡◌, ◌+◌, [], ◌∷◌, List, length, sym, ap, ◌∙◌}, lemmas.Result.{IfOk-weaker}}
use Rattle.std.specs.Prelude.{slice_get, Some}
use Rattle.sect_lemmas.specs.Lists.{Has}
use Rattle.sect_types.specs.Sections.{SectionView, sections_of, section_shown}
use Rattle.sect_graph.specs.Graphs.{IsGraphOf}
use Rattle.sect_names.specs.{declared.lock.Lock.{Lock}, Locks.{IsLockOf}, Needed.{end_locks, end_of}}
use Rattle.sect_names.proofs.shared.Ending.{section_read, end_is}
use Rattle.sect_infer.specs.{Sets.{AreTaken}, steps.Found.{AreFirstFound}}
use Rattle.sect_infer.proofs.Finding.{first_taken, first_lawful, on_all_of, all_lawful, end_is_all}
use Rattle.sect_infer.proofs.section.entry_locks.Goals.{After-locking, in-None, in-Some+in_ok-on_all_of-in-Some}
use Rattle.sect_names.specs.declared.lock.Lock.TheVariants as lock
use Rattle.sect_infer.proofs.section.entry_locks.Goals as goal

-- the section and its graph are those of this number
section_at : (c : After-locking) → (slice_get (sections_of c.args.scheme.now.program.texts) c.args.section
    ≡ Some (section_shown c.section-thread.result))
    × (slice_get c.args.scheme.now.graphs.sections c.args.section ≡ Some c.section-flow.result.now)
section_at c = section_read c.args.scheme.now c.args.section _ _ _ _ c.program-2.ensures
    c.section-thread.ensures.section c.graph.ensures c.section-flow.ensures

graph_is : (c : After-locking) → IsGraphOf c.section-thread.result.body.now c.section-flow.result.now
graph_is c = let at = section_at c in
    c.facts.ensures.graphed.sections c.args.section (section_shown c.section-thread.result) c.section-flow.result.now
    at.0 at.1

-- the locks of the section that was read are those of the section of this number
of_number : (c : After-locking) (entry last : List Lock) (of : SectionView)
    → slice_get (sections_of c.args.scheme.now.program.texts) c.args.section ≡ Some of
    → end_locks c.locking.result ≡ last
    → AreTaken c.args.scheme.now last (section_shown c.section-thread.result) entry
    → AreTaken c.args.scheme.now (end_of c.args.scheme.now c.args.section) of entry
of_number c entry last of section_is takes taken =
    let at = section_at c in
    let same : section_shown c.section-thread.result ≡ of = cc in
    rw (
      sym same,
      end_is c.args.scheme.now c.args.section _ c.locking.result c.program-3.ensures c.locking.ensures,
      takes,
    ) taken

pub first_found-requires : goal.first_found-requires
first_found-requires c = let at = section_at (goal.at.first_found-requires c).After-locking in
    c.only_the_programs.ensures (section_shown c.section-thread.result) c.section-flow.result.now at.0 at.1

pub returns-clause-locks : goal.returns-clause-locks
returns-clause-locks c = λ of section_is.
    let s = c.args.scheme.now in
    let here = section_shown c.section-thread.result in
    let flow = c.section-flow.result.now in
    let read = (goal.at.returns-clause-locks c).After-locking in
    elim c.match-end_lock.branch [
      | in-None w ↦ rw w.result-is
          (IfOk-weaker w.first_found.result (λ locks. AreFirstFound s here.thread flow locks.items)
          (λ locks. AreTaken s (end_of s c.args.section) of locks.items)
          (λ locks f. of_number read locks.items [] of section_is w.in-None.ensures.none
          (first_taken s here.thread flow here.body (graph_is read) locks.items f))
          w.first_found.ensures)
      | in-Some+in_ok-on_all_of-in-Some w ↦
          let all = on_all_of s here.thread flow here.body (graph_is read) w.in_ok-on_all_of-in-Some.field-0
          w.in_ok-on_all_of-in-Some.ensures in
          rw (w.result-is, w.into_entry.ensures)
          (of_number read w.in_ok-on_all_of-in-Some.field-0.entry (lock.All ∷ []) of section_is
          (w.in-Some.ensures.some
          ∙ ap (λ x. x ∷ []) (end_is_all c.locking.result w.in-Some.field-0 w.in-Some.ensures.some))
          (record { needed = all.entry_needed; least = all.least; in_order = all.in_order }))
    ]

pub returns-clause-lawful : goal.returns-clause-lawful
returns-clause-lawful c = λ of section_is.
    let s = c.args.scheme.now in
    let flow = c.section-flow.result.now in
    let here = section_shown c.section-thread.result in
    let at = section_at (goal.at.returns-clause-lawful c).After-locking in
    let same : here ≡ of = cc in
    elim c.match-end_lock.branch [
      | in-None w ↦
          rw (w.result-is, sym same)
          (IfOk-weaker w.first_found.result (λ locks. AreFirstFound s here.thread flow locks.items)
          (λ locks. (l : Lock) → Has locks.items l → IsLockOf s here.thread l)
          (λ locks f. first_lawful s here.thread flow (c.only_the_programs.ensures here flow at.0 at.1) locks.items f)
          w.first_found.ensures)
      | in-Some+in_ok-on_all_of-in-Some w ↦
          let sets = w.in_ok-on_all_of-in-Some.field-0 in
          let found = w.in_ok-on_all_of-in-Some.ensures in
          rw (w.result-is, w.into_entry.ensures)
          (all_lawful s of.thread (length flow + 1) sets.at found.all 0 sets.entry found.first)
    ]
