-- A run is found where whole sections come to an end in this order.
use Rattle.std.proofs.Common.{◌≡◌, ◌∙◌, sym, ap, true≢false, is_some}
use Rattle.sect_world.specs.declared.turned.WorldFault.TheVariants.{NoSuchThread, Memory}
use Rattle.sect_answers.proofs.placed.ran_by.Goals as goal

pub returns-in-Ok-None-clause-told : goal.returns-in-Ok-None-clause-told
returns-in-Ok-None-clause-told c = λ end whole.
    let found = (c.in-Ok-None.ensures.found end whole).0 in
    absurd (true≢false (sym found ∙ ap is_some c.in-Ok-None.field-0-is))

pub returns-in-Err-NoSuchThread-clause-told : goal.returns-in-Err-NoSuchThread-clause-told
returns-in-Err-NoSuchThread-clause-told c = λ end whole.
    let why = (c.in-Err-NoSuchThread.ensures.found end whole).1 in
    absurd (let off : NoSuchThread c.in-Err-NoSuchThread.field-0-0 ≡ Memory =
    sym c.in-Err-NoSuchThread.field-0-is ∙ why in cc)
