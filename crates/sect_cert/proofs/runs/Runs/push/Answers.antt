use Rattle.std.proofs.Common.{◌≡◌, ◌+◌, ◌∷◌, ◌++◌, [], length, ap, arith, ◌∙◌, length-append}
use Rattle.std.proofs.lemmas.Result.{err_from_is_err_and}
use Rattle.sect_cert.proofs.RunsLemmas.{kept_more, below_more, run_pushed}
use Rattle.sect_cert.proofs.runs.Runs.push.Goals as goal

pub returns-in_err-push-2-clause-err : goal.returns-in_err-push-2-clause-err
returns-in_err-push-2-clause-err g c =
    let p = err_from_is_err_and c.from_residual-in_err-push-2.result c.from_residual-in_err-push-2.ensures.1 in
    rw (p.1, c.in_ok-push.ensures.items, c.in_err-push-2.ensures.items)
    (kept_more c.self.inside.kept.items c.args.item c.self.inside.numbers.items c.self.invariant ∙ c.self.view_is)

pub invariant_of-self-2 : goal.invariant_of-self-2
invariant_of-self-2 g c =
    let count : length (c.self.inside.kept.items ++ c.args.item ∷ []) ≡ length c.self.inside.kept.items + 1 =
    omega (arith, length-append c.self.inside.kept.items (c.args.item ∷ [])) in
    rw (c.in_ok-push.ensures.items, c.in_ok-push-2.ensures.items, count)
    (below_more (length c.self.inside.kept.items) c.self.inside.numbers.items c.len-number.result c.self.invariant
    (omega (arith, c.len-number.ensures, c.self.inside.kept.ok.0)))

pub returns-clause-ok : goal.returns-clause-ok
returns-clause-ok g c =
    let is : c.len-number.result ≡ length c.self.inside.kept.items =
    omega (arith, c.len-number.ensures, c.self.inside.kept.ok.0) in
    rw (c.in_ok-push.ensures.items, c.in_ok-push-2.ensures.items, is)
    (run_pushed c.self.inside.kept.items c.args.item c.self.inside.numbers.items c.self.invariant
    ∙ ap (λ xs. xs ++ c.args.item ∷ []) c.self.view_is)
