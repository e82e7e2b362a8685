use Rattle.std.proofs.Common.{◌∙◌, ap, inr, refl, subst}
use Rattle.std.specs.{Prelude.{option_map}, String.{string_bytes}}
use Rattle.sect_answers.specs.Naming.{IsNamingDue}
use Rattle.sect_command.specs.Requests.{threads_of, unknown_text}
use Rattle.sect_command.proofs.answering.worked.Goals as goal

pub returns-in_ok-unknown_line-in-Err-Unknown-clause-answers :
    goal.returns-in_ok-unknown_line-in-Err-Unknown-clause-answers
returns-in_ok-unknown_line-in-Err-Unknown-clause-answers g c =
    let name = c.in-Err-Unknown.name in
    let near = c.in-Err-Unknown.near in
    let source = c.args.text.source.now in
    let words = threads_of c.args.request.now in
    let due = subst (λ fault. IsNamingDue source words fault) c.in-Err-Unknown.field-0-is
    (subst (λ words. IsNamingDue source words c.in-Err-Unknown.field-0) c.threads.ensures
    c.in-Err-Unknown.ensures.refuses) in
    let line = ap (λ v. v.items) c.into_bytes.ensures.value
    ∙ c.in_ok-unknown_line-in-Err-Unknown.ensures
    ∙ ap (λ n. unknown_text n (option_map string_bytes near)) c.as_str.ensures.value in
    inr (inr (record {
      status = refl;
      line = (name, near, due, line);
      remarks = c.new.ensures.items;
      linted = refl;
    }))
