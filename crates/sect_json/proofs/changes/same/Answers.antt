use Rattle.std.proofs.Common.{◌∙◌}
use Rattle.sect_types.proofs.shared.SameData.{same_tells}
use Rattle.sect_json.proofs.changes.same.Goals as goal

pub returns : goal.returns
returns c = c.eq.ensures ∙ same_tells c.args.left c.args.right
