use Rattle.std.proofs.Common.{[], ◌∷◌, refl, ◌∙◌, subst}
use Rattle.sect_front.specs.Syntax.{Primitive}
use Rattle.sect_front.specs.Grammar.{operand_token, operator_token}
use Rattle.sect_front.specs.steps.Passing.{Passes, IsAbsent}
use Rattle.sect_front.proofs.Stopping.{refused_alike, refused_first}
use Rattle.sect_front.proofs.Stopping.{operator_follows}
use Rattle.sect_front.specs.declared.token.Token.TheVariants as token
use Rattle.sect_front.specs.declared.tree.Primitive.TheVariants as primitive
use Rattle.sect_front.specs.declared.expected.Expected.TheVariants as expected
use Rattle.sect_front.proofs.Chains.{none, one, operand, stops, fails}
use Rattle.sect_front.proofs.cursor.Cursor.computed.Goals as goal

pub returns-then-takes-clause-ok : goal.returns-then-takes-clause-ok
returns-then-takes-clause-ok c = record {
  statement = Primitive (primitive.Assign c.args.x.now c.args.v.now);
  tokens = token.Semicolon ∷ [];
  are = (c.takes.new.self, c.takes.ensures.taken token.Semicolon refl (λ k. refl) c.if-takes.true, refl);
  spelled = refl;
  added = c.in_ok-push.ensures.ok;
  behind = refl;
}

pub returns-in_default-clause-err : goal.returns-in_default-clause-err
returns-in_default-clause-err c =
    let stays = c.takes.ensures.stays c.if-takes.false in
    let absent = rw c.in_default.is at c.takes_operator.ensures.none in
    let same = rw c.in_default.is at c.takes_operator.ensures.stays in
    stops none (same ∙ stays) (refused_alike c.args.expected expected.AfterFirst c.args.self.now c.requires.alike
    (refused_first c.args.self.now (c.takes.ensures.none token.Semicolon refl c.if-takes.false)
    (λ o. subst (IsAbsent (operator_token o)) stays (absent o))))

pub returns-in_err-w-clause-err : goal.returns-in_err-w-clause-err
returns-in_err-w-clause-err c =
    let stays = c.takes.ensures.stays c.if-takes.false in
    let t = operator_token c.in-Some.o in
    let p = subst (λ x. Passes x t c.takes_operator.new.self) stays c.in-Some.ensures.some in
    fails _ (one p (c.requires.alike t c.takes_operator.new.self.here p.stands ∙ operator_follows c.in-Some.o) none)
    c.in_err-w.ensures.err c.from_residual-in_err-w.ensures.1

pub returns-in_err-sign-clause-err : goal.returns-in_err-sign-clause-err
returns-in_err-sign-clause-err c =
    let stays = c.takes.ensures.stays c.if-takes.false in
    let t = operator_token c.in-Some.o in
    let p = subst (λ x. Passes x t c.takes_operator.new.self) stays c.in-Some.ensures.some in
    fails _ (one p (c.requires.alike t c.takes_operator.new.self.here p.stands ∙ operator_follows c.in-Some.o)
    (operand c.in_ok-w.w c.in_ok-w.ensures.ok none))
    c.in_err-sign.ensures.err c.from_residual-in_err-sign.ensures.1

pub returns-clause-ok : goal.returns-clause-ok
returns-clause-ok c =
    let stays = c.takes.ensures.stays c.if-takes.false in
    let t = operator_token c.in-Some.o in
    let p = subst (λ x. Passes x t c.takes_operator.new.self) stays c.in-Some.ensures.some in
    record {
      statement = Primitive (primitive.Compute c.args.x.now c.args.v.now c.in-Some.o c.in_ok-w.w);
      tokens = t ∷ operand_token c.in_ok-w.w ∷ token.Semicolon ∷ [];
      are = (
        c.takes_operator.new.self,
        p,
        (
          c.operand.new.self,
          c.in_ok-w.ensures.ok,
          (c.sign.new.self, c.in_ok-sign.ensures.ok, refl),
        ),
      );
      spelled = refl;
      added = c.in_ok-push-2.ensures.ok;
      behind = refl;
    }
