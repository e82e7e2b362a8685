use Rattle.std.proofs.Common.{◌<◌, ◌∙◌, refl, ap, subst, length}
use Rattle.sect_types.specs.{Programs.{ProgramView}, Sections.{sections_of}}
use Rattle.sect_infer.specs.declared.workers.SectionLocks.{SectionLocks}
use Rattle.sect_infer.proofs.Sharing.{one_found, dealt_one, dealt_past}
use Rattle.sect_infer.proofs.workers.share.Goals.{then-section-workers+in_ok-locks+in_ok-push, else-section-workers}
use Rattle.sect_infer.proofs.workers.share.Goals as goal

pub loop-section-preserved : goal.loop-section-preserved
loop-section-preserved g c =
    let s = c.args.scheme.now in
    let within : c.loop-section.section < length (sections_of s.program.texts) =
    subst (λ n. c.loop-section.section < n)
    (c.section_count-section-end.ensures.count
    ∙ ap (λ (p : ProgramView). length (sections_of p.texts)) c.program-2.ensures) c.loop-section-test.true in
    elim c.if-section-workers.branch [
      | then-section-workers+in_ok-locks+in_ok-push w ↦
          let one : SectionLocks = record { section = c.loop-section.section; locks = w.in_ok-locks.locks } in
          rw (w.found-is, w.in_ok-push.ensures.items) (record {
            sections = dealt_one c.args.workers c.args.worker c.loop-section.section c.loop-section.found.items one refl
                w.if-section-workers.true c.loop-section.invariant.sections;
            found = one_found s c.loop-section.found.items one c.loop-section.invariant.found within
                (λ of graph at flow. (
                  w.in_ok-locks.ensures.locks of graph at flow,
                  w.in_ok-locks.ensures.lawful of at,
                ));
          })
      | else-section-workers w ↦ rw w.found-is (record {
        sections = dealt_past c.args.workers c.args.worker c.loop-section.section c.loop-section.found.items
            w.if-section-workers.false c.loop-section.invariant.sections;
        found = c.loop-section.invariant.found;
      })
    ]
