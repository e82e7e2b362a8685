use Rattle.std.proofs.Common.{[], ◌∷◌, refl, sym, subst}
use Rattle.std.proofs.lemmas.Result.{IfOk-weaker, IfErr-weaker}
use Rattle.sect_front.specs.steps.Passing.{IsAlike, StopsIn, HasAdded}
use Rattle.sect_front.proofs.Stopping.{alike_name}
use Rattle.sect_front.specs.declared.token.Token.TheVariants as token
use Rattle.sect_front.specs.declared.expected.Expected.TheVariants as expected
use Rattle.sect_front.proofs.Chains.{none, one, stops_so, adds_so}
use Rattle.sect_front.proofs.cursor.Cursor.first_name.Goals as goal

pub returns-then-takes-clause-ok : goal.returns-then-takes-clause-ok
returns-then-takes-clause-ok c =
    adds_so _ (λ _. expected.Start) _ _ _ _ (c.takes.ensures.taken token.Dot refl (λ k. refl) c.if-takes.true)
    c.load.ensures.ok

pub returns-then-takes-clause-err : goal.returns-then-takes-clause-err
returns-then-takes-clause-err c =
    stops_so _ _ (one (c.takes.ensures.taken token.Dot refl (λ k. refl) c.if-takes.true) refl none) c.load.ensures.err

pub computed-requires : goal.computed-requires
computed-requires c = record {
  alike = subst (IsAlike expected.AfterFirstName expected.AfterFirst) (sym (c.takes.ensures.stays c.if-takes.false))
      (alike_name c.args.self.now (c.takes.ensures.none token.Dot refl c.if-takes.false));
}

pub returns-clause-ok : goal.returns-clause-ok
returns-clause-ok c =
    let front = token.Name c.args.x.now ∷ token.Equal ∷ token.Name c.args.y.now ∷ [] in
    IfOk-weaker c.computed.result _
    (λ _. HasAdded expected.Start front c.args.self.now c.computed.new.self c.args.block.now c.computed.new.block)
    (λ _ h. subst (λ x. HasAdded expected.Start front x c.computed.new.self c.args.block.now c.computed.new.block)
    (c.takes.ensures.stays c.if-takes.false) h) c.computed.ensures.ok

pub returns-clause-err : goal.returns-clause-err
returns-clause-err c =
    IfErr-weaker c.computed.result _ (λ s. StopsIn s (expected.AfterFirstName ∷ []) c.args.self.now c.computed.new.self)
    (λ s h. subst (λ x. StopsIn s (expected.AfterFirstName ∷ []) x c.computed.new.self)
    (c.takes.ensures.stays c.if-takes.false) h) c.computed.ensures.err
