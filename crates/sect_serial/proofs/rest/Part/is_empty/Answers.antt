use Rattle.std.proofs.Common.{ap, ◌∙◌}
use Rattle.sect_serial.proofs.RestLemmas.{is_stop-text}
use Rattle.sect_serial.specs.steps.Rests.{is_stop}
use Rattle.sect_serial.proofs.rest.Part.is_empty.Goals as goal

pub returns : goal.returns
returns c = c.is_empty.ensures ∙ is_stop-text c.self.inside.steps.now ∙ ap is_stop c.self.view_is
