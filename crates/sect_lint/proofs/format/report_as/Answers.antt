use Rattle.std.proofs.Common.{ap, ◌∙◌}
use Rattle.serde_json.specs.Written.{has_float}
use Rattle.sect_lint.proofs.Telling.{plain_json, plain_log}
use Rattle.sect_lint.proofs.format.report_as.Goals as goal

pub compact-requires : goal.compact-requires
compact-requires c =
    ap has_float c.in_ok-value-in-Json.ensures ∙ plain_json c.args.source.now c.args.diagnostic.now

pub compact-requires-in-Sarif : goal.compact-requires-in-Sarif
compact-requires-in-Sarif c =
    ap has_float c.in_ok-log-in-Sarif.ensures ∙ plain_log _ c.args.source.now c.args.diagnostic.now
