use Rattle.std.proofs.Common.{◌≡◌, [], ◌∷◌, ◌++◌, true, false, refl, sym, ◌∙◌, ap, subst, arith}
use Rattle.sect_front.specs.Grammar.{operand_token}
use Rattle.sect_front.specs.Tokens.{operands_tokens}
use Rattle.sect_front.specs.steps.Passing.{Passes, ArePassed, IsAbsent, IsRefused}
use Rattle.sect_front.proofs.Growing.{operands_behind, operands_grow, arguments_after, some_grown}
use Rattle.sect_front.proofs.Stopping.{passed_append, passed_shorter}
use Rattle.sect_front.proofs.Stopping.{refused_argument, refused_after_argument}
use Rattle.sect_front.specs.declared.token.Token.TheVariants as token
use Rattle.sect_front.specs.declared.expected.Expected.TheVariants as expected
use Rattle.sect_front.proofs.Chains.{none, rule, one, stops, fails}
use Rattle.sect_front.proofs.cursor.Cursor.arguments.Goals as goal

pub returns-then-takes-clause-ok : goal.returns-then-takes-clause-ok
returns-then-takes-clause-ok c =
    subst (λ vs. ArePassed c.args.self.now (operands_tokens vs (token.CloseParen ∷ [])) c.takes.new.self)
    (sym c.new-values.ensures)
    (c.takes.new.self, c.takes.ensures.taken token.CloseParen refl (λ k. refl) c.if-takes.true, refl)

pub returns-in_default-clause-err : goal.returns-in_default-clause-err
returns-in_default-clause-err c =
    let stays = c.takes.ensures.stays c.if-takes.false in
    stops none ((rw c.in_default.is at c.takes_operand.ensures.stays) ∙ stays)
    (refused_argument c.args.self.now (c.takes.ensures.none token.CloseParen refl c.if-takes.false)
    (subst (IsRefused expected.Operand) stays (rw c.in_default.is at c.takes_operand.ensures.none)))

pub more-init : goal.more-init
more-init c =
    let stays = c.takes.ensures.stays c.if-takes.false in
    let v = c.in-Some.first in
    let is : c.push.new.self ≡ v ∷ [] = c.in_ok-push.ensures.ok ∙ ap (λ vs. vs ++ v ∷ []) c.new-values.ensures in
    record {
      are = subst (λ vs. ArePassed c.args.self.now (operands_tokens vs []) c.takes_operand.new.self) (sym is) (
        c.takes_operand.new.self,
        subst (λ x. Passes x (operand_token v) c.takes_operand.new.self) stays
            c.in-Some.ensures.some,
        refl,
      );
      some = λ e. some_grown [] v (sym is ∙ e);
    }

pub returns-then-not-takes-clause-err : goal.returns-then-not-takes-clause-err
returns-then-not-takes-clause-err c =
    let going : c.takes-in-more.result ≡ false = grind arith in
    let stays = c.takes-in-more.ensures.stays going in
    stops (rule (operands_tokens c.more.values []) c.more.invariant.are
    (arguments_after c.more.values c.more.invariant.some [] []) none)
    (c.takes-in-more-2.ensures.stays c.if-not-takes.true ∙ stays)
    (refused_after_argument c.more.self (c.takes-in-more.ensures.none token.CloseParen refl going)
    (subst (IsAbsent token.Comma) stays (c.takes-in-more-2.ensures.none token.Comma refl c.if-not-takes.true)))

pub returns-in_err-next-clause-err : goal.returns-in_err-next-clause-err
returns-in_err-next-clause-err c =
    let going : c.takes-in-more.result ≡ false = grind arith in
    let comma = subst (λ x. Passes x token.Comma c.takes-in-more-2.new.self) (c.takes-in-more.ensures.stays going)
    (c.takes-in-more-2.ensures.taken token.Comma refl (λ k. refl) c.if-not-takes.false) in
    fails _ (rule (operands_tokens c.more.values []) c.more.invariant.are
    (arguments_after c.more.values c.more.invariant.some [] []) (one comma refl none))
    c.in_err-next.ensures.err c.from_residual-in_err-next.ensures.1

pub more-smaller : goal.more-smaller
more-smaller c =
    let going : c.takes-in-more.result ≡ false = grind arith in
    let comma = subst (λ x. Passes x token.Comma c.takes-in-more-2.new.self) (c.takes-in-more.ensures.stays going)
    (c.takes-in-more-2.ensures.taken token.Comma refl (λ k. refl) c.if-not-takes.false) in
    omega (
      arith,
      passed_shorter c.more.self c.takes-in-more-2.new.self token.Comma comma,
      passed_shorter c.takes-in-more-2.new.self c.operand.new.self (operand_token c.in_ok-next.next)
          c.in_ok-next.ensures.ok,
    )

pub more-preserved : goal.more-preserved
more-preserved c =
    let going : c.takes-in-more.result ≡ false = grind arith in
    let comma = subst (λ x. Passes x token.Comma c.takes-in-more-2.new.self) (c.takes-in-more.ensures.stays going)
    (c.takes-in-more-2.ensures.taken token.Comma refl (λ k. refl) c.if-not-takes.false) in
    let vs = c.more.values in
    let v = c.in_ok-next.next in
    record {
      are = subst (λ x. ArePassed c.args.self.now (operands_tokens x []) c.operand.new.self)
          (sym c.in_ok-push-2.ensures.ok) (subst (λ ts. ArePassed c.args.self.now ts c.operand.new.self)
          (operands_behind vs [] (token.Comma ∷ operand_token v ∷ []) ∙ sym (operands_grow vs c.more.invariant.some v
          []))
          (passed_append c.args.self.now (operands_tokens vs []) (token.Comma ∷ operand_token v ∷ []) c.more.self
          c.operand.new.self c.more.invariant.are
          (c.takes-in-more-2.new.self, comma, (c.operand.new.self, c.in_ok-next.ensures.ok, refl))));
      some = λ e. some_grown vs v (sym c.in_ok-push-2.ensures.ok ∙ e);
    }

pub returns-clause-ok : goal.returns-clause-ok
returns-clause-ok c =
    let done : c.takes-in-more.result ≡ true = grind arith in
    subst (λ ts. ArePassed c.args.self.now ts c.takes-in-more.new.self)
    (operands_behind c.more.values [] (token.CloseParen ∷ []))
    (passed_append c.args.self.now (operands_tokens c.more.values []) (token.CloseParen ∷ []) c.more.self
    c.takes-in-more.new.self c.more.invariant.are
    (c.takes-in-more.new.self, c.takes-in-more.ensures.taken token.CloseParen refl (λ k. refl) done, refl))
