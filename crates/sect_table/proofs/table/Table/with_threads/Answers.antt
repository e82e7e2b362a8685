use Rattle.sect_table.proofs.Keeping.{empty_kept}
use Rattle.sect_table.proofs.table.Table.with_threads.Goals as goal

pub invariant_of-result : goal.invariant_of-result
invariant_of-result c = rw c.in_ok-new.ensures.ok (empty_kept c.args.threads _ c.in_ok-with_threads.ensures)

pub returns-clause-kept : goal.returns-clause-kept
returns-clause-kept c = rw c.in_ok-new.ensures.ok (empty_kept c.args.threads _ c.in_ok-with_threads.ensures)
