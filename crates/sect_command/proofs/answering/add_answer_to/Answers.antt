-- A heading, if there is one, and then the answer as it is shown.
use Rattle.std.proofs.Common.{◌∙◌, ◌++◌, ap}
use Rattle.std.proofs.lemmas.Result.{on_ok_weaker}
use Rattle.sect_command.specs.Reporting.{shown_text}
use Rattle.sect_command.proofs.answering.add_answer_to.Goals as goal

pub returns : goal.returns
returns g c =
    let asked = c.args.setting.now.asked.now in
    let shown = shown_text c.args.setting.now.around.now.screen asked c.in_ok-answer.answer.text.items in
    on_ok_weaker c.add_answer.result (λ adds. (
      c.in_ok-answer.answer,
      c.in_ok-answer.ensures.answers,
      record {
        text = adds.text ∙ ap (λ t. t ++ shown) c.in_ok-put_head.ensures;
        status = adds.status;
        complaints = adds.complaints;
      },
    )) c.add_answer.ensures
