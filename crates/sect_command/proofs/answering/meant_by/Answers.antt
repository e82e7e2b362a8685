use Rattle.std.proofs.lemmas.Result.{IfOk-weaker}
use Rattle.sect_command.proofs.answering.meant_by.Goals as goal

pub returns : goal.returns
returns c =
    IfOk-weaker c.spread.result _ _ (λ meant is. (c.args.threads.items, c.requires, is)) c.spread.ensures
