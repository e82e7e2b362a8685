use Rattle.std.proofs.Common.{ap, ◌∙◌}
use Rattle.serde_json.specs.Written.{has_float}
use Rattle.sect_json.proofs.PlainOutcomes.{plain_outcomes}
use Rattle.sect_json.proofs.outcomes.outcomes_document.Goals as goal

pub document-requires : goal.document-requires
document-requires c =
    ap has_float c.in_ok-value.ensures ∙ plain_outcomes c.args.program.now c.args.outcomes.now
