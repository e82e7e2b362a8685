use Rattle.std.proofs.Common.{refl, ◌∙◌, subst}
use Rattle.sect_front.specs.steps.{Passing.{Passes, IsAbsent}}
use Rattle.sect_front.proofs.Stopping.{refused_after_name}
use Rattle.sect_front.specs.declared.token.Token.TheVariants as token
use Rattle.sect_front.specs.declared.expected.Expected.TheVariants as expected
use Rattle.sect_front.proofs.Chains.{none, one, stops, stops_so, adds_so}
use Rattle.sect_front.proofs.cursor.Cursor.named.Goals as goal

pub returns-then-takes_equal-clause-ok : goal.returns-then-takes_equal-clause-ok
returns-then-takes_equal-clause-ok c =
    adds_so _ (λ _. expected.Start) _ _ _ _ (c.takes_equal.ensures.taken c.if-takes_equal.true) c.value.ensures.ok

pub returns-then-takes_equal-clause-err : goal.returns-then-takes_equal-clause-err
returns-then-takes_equal-clause-err c =
    stops_so _ _ (one (c.takes_equal.ensures.taken c.if-takes_equal.true) refl none) c.value.ensures.err

pub returns-then-takes-clause-ok : goal.returns-then-takes-clause-ok
returns-then-takes-clause-ok c =
    adds_so _ (λ _. expected.Start) _ _ _ _ (subst (λ x. Passes x token.Dot c.takes.new.self)
    (c.takes_equal.ensures.stays c.if-takes_equal.false)
    (c.takes.ensures.taken token.Dot refl (λ k. refl) c.if-takes.true)) c.store.ensures.ok

pub returns-then-takes-clause-err : goal.returns-then-takes-clause-err
returns-then-takes-clause-err c =
    stops_so _ _ (one (subst (λ x. Passes x token.Dot c.takes.new.self)
    (c.takes_equal.ensures.stays c.if-takes_equal.false)
    (c.takes.ensures.taken token.Dot refl (λ k. refl) c.if-takes.true)) refl none) c.store.ensures.err

pub returns-clause-err : goal.returns-clause-err
returns-clause-err c =
    let stays = c.takes_equal.ensures.stays c.if-takes_equal.false in
    stops none (c.takes.ensures.stays c.if-takes.false ∙ stays) (refused_after_name c.args.self.now
    (c.takes_equal.ensures.none c.if-takes_equal.false)
    (subst (IsAbsent token.Dot) stays (c.takes.ensures.none token.Dot refl c.if-takes.false)))
