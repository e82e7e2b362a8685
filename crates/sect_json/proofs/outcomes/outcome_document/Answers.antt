use Rattle.std.proofs.Common.{ap, ◌∙◌}
use Rattle.serde_json.specs.Written.{has_float}
use Rattle.sect_json.proofs.PlainOutcomes.{plain_outcome}
use Rattle.sect_json.proofs.outcomes.outcome_document.Goals as goal

pub document-requires : goal.document-requires
document-requires c =
    ap has_float c.in_ok-value.ensures ∙ plain_outcome c.in_ok-printer.printer c.args.outcome.now
