use Rattle.std.proofs.Common.{sym}
use Rattle.sect_lint.proofs.Faulty.{item_within, types_known}
use Rattle.sect_lint.proofs.judge.types_diagnostic.Goals as goal

pub plain_diagnostic-requires-clause-there : goal.plain_diagnostic-requires-clause-there
plain_diagnostic-requires-clause-there c =
    let fault = c.args.mistyped.now.fault in
    item_within c.args.mistyped.now.tree fault (types_known fault c.in-Some.mistake c.in-Some.ensures)
    c.requires.judged

pub plain_diagnostic-requires-clause-mistake : goal.plain_diagnostic-requires-clause-mistake
plain_diagnostic-requires-clause-mistake c = sym c.in-Some.ensures

pub named_diagnostic-requires-clause-mistake : goal.named_diagnostic-requires-clause-mistake
named_diagnostic-requires-clause-mistake c = sym c.in-Some.ensures

pub named_diagnostic-requires-clause-there : goal.named_diagnostic-requires-clause-there
named_diagnostic-requires-clause-there c =
    let fault = c.args.mistyped.now.fault in
    item_within c.args.mistyped.now.tree fault (types_known fault c.in-Some.mistake c.in-Some.ensures)
    c.requires.judged
