use Rattle.std.proofs.{Common.{IfOk, subst}, lemmas.Result.{IfOk-weaker}}
use Rattle.std.specs.String.{string_bytes}
use Rattle.sect_names.specs.Schemes.{SchemeView}
use Rattle.sect_answers.specs.Listing.{IsSetsDocument}
use Rattle.sect_answers.proofs.lock_sets.sets_document.Goals as goal

pub returns : goal.returns
returns c =
    subst (λ (s : SchemeView). IfOk c.locks_document.result (λ text. IsSetsDocument s (string_bytes text)))
    c.in_ok-compiled.ensures.compiled.0
    (IfOk-weaker c.locks_document.result _ _
    (λ text h. record {
      sets = _;
      each = c.facts.ensures.least;
      counted = c.facts.ensures.compiled.set_count;
      printed = h;
    }) c.locks_document.ensures)
