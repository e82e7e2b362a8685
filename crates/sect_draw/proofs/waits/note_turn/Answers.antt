use Rattle.std.proofs.{Common.{sym, ap, ◌∙◌, rules}, lemmas.Fn.{filter_same}}
use Rattle.sect_draw.specs.Waits.{waiting_after}
use Rattle.sect_draw.proofs.waits.note_turn.Goals as goal

pub returns-in-Moved : goal.returns-in-Moved
returns-in-Moved c =
    filter_same _ _ _ (λ x b f' k. search rules) _ _ c.retain.ensures.filtered
    ∙ ap (λ z. waiting_after c.args.thread z c.args.let_in.now c.args.waiting.now.items) (sym c.in-Moved.is)
