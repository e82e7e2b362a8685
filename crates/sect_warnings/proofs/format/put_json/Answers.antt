use Rattle.std.proofs.Common.{ap, ◌∙◌}
use Rattle.serde_json.specs.Written.{has_float}
use Rattle.sect_warnings.proofs.Plain.{plain_warning}
use Rattle.sect_warnings.proofs.format.put_json.Goals as goal

pub compact-requires : goal.compact-requires
compact-requires c = ap has_float c.in_ok-value.ensures ∙ plain_warning c.args.source.now c.args.placed.now
