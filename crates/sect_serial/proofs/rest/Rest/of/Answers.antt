use Rattle.std.proofs.Common.{ap, ◌∙◌}
use Rattle.sect_types.specs.Statements.{joined}
use Rattle.sect_serial.specs.steps.Rests.{rest_of}
use Rattle.sect_types.proofs.shared.Joining.{joined_stop}
use Rattle.sect_serial.proofs.rest.Rest.of.Goals as goal

pub returns : goal.returns
returns c = c.in_ok-enter.ensures ∙ ap (λ ks. joined c.args.text.now (rest_of ks)) c.new.ensures.items
    ∙ joined_stop c.args.text.now
