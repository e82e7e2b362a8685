use Rattle.std.proofs.Common.{◌∙◌, true≢false, sym}
use Rattle.sect_infer.proofs.Extending.{broad_other}
use Rattle.sect_infer.proofs.numbering.Numbering.has_broad_with.Goals as goal

pub returns-else-has_broad-clause-behind : goal.returns-else-has_broad-clause-behind
returns-else-has_broad-clause-behind c = λ e. broad_other c.args.self.now.keys c.args.lock.now
    (c.has_broad.ensures c.if-has_broad.false) (λ b. true≢false (sym (c.is_broad.ensures.1 b) ∙ e))
