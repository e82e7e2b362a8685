use Rattle.std.proofs.Common.{◌∙◌, true≢false, sym}
use Rattle.sect_infer.proofs.Extending.{writes_other}
use Rattle.sect_infer.proofs.numbering.Numbering.has_writes_with.Goals as goal

pub returns-else-has_writes-clause-behind : goal.returns-else-has_writes-clause-behind
returns-else-has_writes-clause-behind c = λ e. writes_other c.args.self.now.keys c.args.lock.now
    (c.has_writes.ensures c.if-has_writes.false) (λ w. true≢false (sym (c.is_to_write.ensures.1 w) ∙ e))
