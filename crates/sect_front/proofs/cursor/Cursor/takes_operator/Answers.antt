use Rattle.std.proofs.Common.{refl, ◌∙◌, subst}
use Rattle.sect_front.specs.steps.Passing.{Passes, IsAbsent}
use Rattle.sect_front.proofs.Stopping.{absent_operator}
use Rattle.sect_front.specs.declared.token.Token.TheVariants as token
use Rattle.sect_front.proofs.cursor.Cursor.takes_operator.Goals as goal

pub returns-then-takes-clause-some : goal.returns-then-takes-clause-some
returns-then-takes-clause-some c = c.takes.ensures.taken token.Plus refl (λ k. refl) c.if-takes.true

pub returns-then-takes-2-clause-some : goal.returns-then-takes-2-clause-some
returns-then-takes-2-clause-some c =
    subst (λ x. Passes x token.Minus c.takes-2.new.self) (c.takes.ensures.stays c.if-takes.false)
    (c.takes-2.ensures.taken token.Minus refl (λ k. refl) c.if-takes-2.true)

pub returns-then-takes-3-clause-some : goal.returns-then-takes-3-clause-some
returns-then-takes-3-clause-some c =
    subst (λ x. Passes x token.Star c.takes-3.new.self)
    (c.takes-2.ensures.stays c.if-takes-2.false ∙ c.takes.ensures.stays c.if-takes.false)
    (c.takes-3.ensures.taken token.Star refl (λ k. refl) c.if-takes-3.true)

pub returns-clause-none : goal.returns-clause-none
returns-clause-none c =
    let one = c.takes.ensures.stays c.if-takes.false in
    let two = c.takes-2.ensures.stays c.if-takes-2.false ∙ one in
    absent_operator c.args.self.now
    (c.takes.ensures.none token.Plus refl c.if-takes.false)
    (subst (IsAbsent token.Minus) one (c.takes-2.ensures.none token.Minus refl c.if-takes-2.false))
    (subst (IsAbsent token.Star) two (c.takes-3.ensures.none token.Star refl c.if-takes-3.false))
