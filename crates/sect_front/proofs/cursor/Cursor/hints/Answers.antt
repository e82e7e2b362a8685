use Rattle.std.proofs.Common.{◌≡◌, [], ◌∷◌, true, false, refl, sym, ◌∙◌, subst, arith}
use Rattle.sect_front.specs.Tokens.{hints_tokens}
use Rattle.sect_front.specs.steps.Passing.{ArePassed, IsAbsent}
use Rattle.sect_front.proofs.Leading.{hints_after}
use Rattle.sect_front.proofs.Growing.{hints_behind, hints_grow}
use Rattle.sect_front.proofs.Stopping.{passed_append, passed_shorter}
use Rattle.sect_front.specs.declared.token.Token.TheVariants as token
use Rattle.sect_front.proofs.Chains.{none, rule, one, fails}
use Rattle.sect_front.proofs.cursor.Cursor.hints.Goals as goal

pub more-init : goal.more-init
more-init c =
    subst (λ x. ArePassed c.args.self.now (hints_tokens x []) c.args.self.now) (sym c.new-hints.ensures) refl

pub returns-in_err-hint-clause-err : goal.returns-in_err-hint-clause-err
returns-in_err-hint-clause-err c =
    let going : c.takes_keyword.result ≡ true = grind arith in
    fails _ (rule (hints_tokens c.more.hints []) c.more.invariant (hints_after c.more.hints [] [])
    (one (c.takes_keyword.ensures.taken going) refl none))
    c.in_err-hint.ensures.err c.from_residual.ensures.1

pub more-smaller : goal.more-smaller
more-smaller c =
    let going : c.takes_keyword.result ≡ true = grind arith in
    omega (
      arith,
      passed_shorter c.more.self c.takes_keyword.new.self token.ProtectedBy (c.takes_keyword.ensures.taken going),
      passed_shorter c.takes_keyword.new.self c.name.new.self (token.Name c.in_ok-hint.hint) c.in_ok-hint.ensures.ok,
    )

pub more-preserved : goal.more-preserved
more-preserved c =
    let going : c.takes_keyword.result ≡ true = grind arith in
    let ns = c.more.hints in
    let n = c.in_ok-hint.hint in
    subst (λ x. ArePassed c.args.self.now (hints_tokens x []) c.name.new.self) (sym c.in_ok-push.ensures.ok)
    (subst (λ ts. ArePassed c.args.self.now ts c.name.new.self)
    (hints_behind ns [] (token.ProtectedBy ∷ token.Name n ∷ []) ∙ sym (hints_grow ns n []))
    (passed_append c.args.self.now (hints_tokens ns []) (token.ProtectedBy ∷ token.Name n ∷ []) c.more.self
    c.name.new.self c.more.invariant
    (c.takes_keyword.new.self, c.takes_keyword.ensures.taken going, (c.name.new.self, c.in_ok-hint.ensures.ok, refl))))

pub returns-clause-ok : goal.returns-clause-ok
returns-clause-ok c =
    let done : c.takes_keyword.result ≡ false = grind arith in
    subst (ArePassed c.args.self.now (hints_tokens c.more.hints [])) (sym (c.takes_keyword.ensures.stays done))
    c.more.invariant

pub returns-clause-end : goal.returns-clause-end
returns-clause-end c =
    let done : c.takes_keyword.result ≡ false = grind arith in
    subst (IsAbsent token.ProtectedBy) (sym (c.takes_keyword.ensures.stays done)) (c.takes_keyword.ensures.none done)
