use Rattle.std.proofs.Common.{ap, ◌∙◌}
use Rattle.serde_json.specs.Written.{has_float}
use Rattle.sect_warnings.proofs.Plain.{plain_log}
use Rattle.sect_warnings.proofs.format.log_text.Goals as goal

pub compact-requires : goal.compact-requires
compact-requires c = ap has_float c.in_ok-log.ensures ∙ plain_log _ c.args.source.now c.args.placed.now
