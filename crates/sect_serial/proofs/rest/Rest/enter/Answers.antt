use Rattle.std.proofs.Common.{◌≡◌, ap, ◌∙◌, sym, false}
use Rattle.sect_types.specs.Statements.{joined}
use Rattle.sect_serial.specs.steps.Rests.{is_stop, rest_of}
use Rattle.sect_serial.proofs.RestLemmas.{full_push, rest_push}
use Rattle.sect_serial.proofs.rest.Rest.enter.Goals as goal

pub invariant_of-self : goal.invariant_of-self
invariant_of-self c =
    let e : is_stop c.of-part.result ≡ false = sym c.is_empty.ensures ∙ c.if-not-is_empty.true in
    rw c.in_ok-push.ensures.items (full_push c.self.inside.parts.items c.of-part.result e c.self.invariant)

pub returns-in_ok-push : goal.returns-in_ok-push
returns-in_ok-push c =
    ap rest_of c.in_ok-push.ensures.items ∙ rest_push c.self.inside.parts.items c.of-part.result
    ∙ ap (λ k. joined k (rest_of c.self.inside.parts.items)) c.of-part.ensures
    ∙ ap (joined c.args.text.now) c.self.view_is
