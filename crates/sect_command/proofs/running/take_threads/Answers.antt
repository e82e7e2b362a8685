-- Another command takes no threads.
use Rattle.std.proofs.Common.{◌∙◌, ap, sym, ltb-true}
use Rattle.std.specs.String.{string_bytes}
use Rattle.sect_command.proofs.Wanting.{not_taken}
use Rattle.sect_command.proofs.running.take_threads.Goals as goal

pub returns-in_default : goal.returns-in_default
returns-in_default c = not_taken string_bytes c.args.words.now _ c.as_str.result.now
    (ltb-true _ _ (sym c.in-Some.ensures.lookup.0))
    (c.as_str.ensures.value ∙ ap string_bytes c.in-Some.ensures.lookup.1) c.in_default.not-serial
    c.in_default.not-schedule
