use Rattle.std.proofs.Common.{suc, length, get_or, subst, arith, sym}
use Rattle.sect_front.specs.FaultPlaces.{IsWithin}
use Rattle.sect_warnings.specs.Reports.{AreWithin}
use Rattle.sect_warnings.proofs.report.reports_text.Goals as goal

pub put_others-requires : goal.put_others-requires
put_others-requires c = subst (λ text. AreWithin (length text) c.in-Some.others.now) (sym c.in_ok-lines.ensures)
    (λ k d lt.
    let total = length c.args.source.now in
    let many = c.in-Some.ensures.cases.1 in
    subst (λ l. IsWithin total (get_or l (suc k) d).span) c.in-Some.ensures.cases.0
    (c.requires (suc k) d (omega (arith, lt, many))))
