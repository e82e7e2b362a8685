use Rattle.std.proofs.Common.{arith, sym, ◌∙◌, true≢false}
use Rattle.sect_lemmas.proofs.Membership.{Has-slice_get}
use Rattle.sect_names.specs.Needed.{end_locks}
use Rattle.sect_check.specs.Faults.{ComesRight}
use Rattle.sect_check.proofs.Stepping.{comes_from, comes_to, comes_first, ends_last}
use Rattle.sect_check.proofs.links.is_right.Goals.{else-number-gt0-via-then-number-gt0+in_ok-links_to+else-not-branch}
use Rattle.sect_check.proofs.links.is_right.Goals.{else-number-gt0-via-else-number-gt0}
use Rattle.sect_check.proofs.links.is_right.Goals as goal

pub links_to-requires : goal.links_to-requires
links_to-requires c = record {
  lawful = c.requires.lawful _ (Has-slice_get c.args.links.now c.args.number _ c.pair_at.ensures.next);
  same = c.pair_at.ensures.same;
}

pub returns-then-not-branch : goal.returns-then-not-branch
returns-then-not-branch c =
    let section = c.args.section in
    let to = comes_to section.scheme.now section.thread section.flow.now c.args.links.now c.args.number _ _
    c.if-number-gt0.true c.pair_at.ensures.step c.pair_at.ensures.next in (
      λ t. absurd (true≢false (sym t)),
      λ h. absurd (true≢false (sym (c.in_ok-links_to.ensures.1 (to h.0)) ∙ c.if-not-branch.true)),
    )

pub returns-else-number-count : goal.returns-else-number-count
returns-else-number-count c =
    let s = c.args.section.scheme.now in
    let t = c.args.section.thread in
    let g = c.args.section.flow.now in
    let links = c.args.links.now in
    let n = c.args.number in
    let comes : ComesRight s t g links n = elim c.else-number-gt0.branch [
      | else-number-gt0-via-then-number-gt0+in_ok-links_to+else-not-branch w ↦ comes_from s t g links n _ _
          w.if-number-gt0.true w.pair_at.ensures.step w.pair_at.ensures.next
          (w.in_ok-links_to.ensures.0 w.if-not-branch.false)
      | else-number-gt0-via-else-number-gt0 w ↦ comes_first s t g links n (omega (arith, w.if-number-gt0.false))
    ] in
    let ends = ends_last s t g links n (end_locks c.args.section.locking) _ c.requires.number
    (omega (arith, c.if-number-count.false, c.len-count.ensures)) c.at.ensures in
    (λ made. (comes, ends.0 (c.is_generated.ensures.0 made)), λ h. c.is_generated.ensures.1 (ends.1 h.1))
