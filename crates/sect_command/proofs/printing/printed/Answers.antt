-- What is answered with places is of the threads that the words mean.
use Rattle.std.proofs.{Common.{sym, subst}, lemmas.Result.{IfOk-weaker, IfErr-weaker}}
use Rattle.sect_command.specs.Requests.{Answers, AreMeantBy, IsRefusalDue}
use Rattle.sect_command.specs.declared.request.Request.{Request}
use Rattle.sect_command.proofs.printing.printed.Goals as goal

pub returns-in-Placed-clause-answers : goal.returns-in-Placed-clause-answers
returns-in-Placed-clause-answers g c =
    IfOk-weaker c.with_places.result _ _
    (λ answer is. subst (λ (r : Request). Answers c.args.text.name.now r c.args.text.source.now answer.items)
    (sym c.in-Placed.is) (
      c.args.threads.items,
      subst (λ (r : Request). AreMeantBy c.args.text.source.now r c.args.threads.items) c.in-Placed.is
          c.requires.meant,
      is,
    )) c.with_places.ensures.answers

pub returns-in-Placed-clause-refuses : goal.returns-in-Placed-clause-refuses
returns-in-Placed-clause-refuses g c =
    IfErr-weaker c.with_places.result _ _
    (λ why is. subst (λ (r : Request). IsRefusalDue c.args.text.name.now r c.args.text.source.now why)
    (sym c.in-Placed.is) (
      c.args.threads.items,
      subst (λ (r : Request). AreMeantBy c.args.text.source.now r c.args.threads.items) c.in-Placed.is
          c.requires.meant,
      is,
    )) c.with_places.ensures.refuses
