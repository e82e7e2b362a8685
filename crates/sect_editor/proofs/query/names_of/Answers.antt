use Rattle.std.proofs.Common.{length}
use Rattle.sect_editor.proofs.Within.{proper_within}
use Rattle.sect_editor.proofs.query.names_of.Goals as goal

pub returns-in-Ok-clause-within : goal.returns-in-Ok-clause-within
returns-in-Ok-clause-within c =
    proper_within (length c.args.source.now) c.in-Ok.names.items c.in-Ok.ensures.1.proper
