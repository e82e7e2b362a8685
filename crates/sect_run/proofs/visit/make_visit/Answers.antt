use Rattle.sect_run.proofs.{Turning.{of_refusal}, Visiting.{none_broken_off}}
use Rattle.sect_run.proofs.visit.make_visit.Goals as goal

pub returns-in_err-was_stale-clause-err : goal.returns-in_err-was_stale-clause-err
returns-in_err-was_stale-clause-err c =
    let w = c.add_brought.new.world in
    of_refusal c.from_residual.result
    (w, c.in_err-was_stale.ensures.acts, none_broken_off c.args.thread c.args.terms.most w)
