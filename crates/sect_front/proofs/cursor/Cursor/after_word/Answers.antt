use Rattle.std.proofs.Common.{[], ◌∷◌, refl, ◌∙◌, ap, subst}
use Rattle.sect_front.specs.Tokens.{declarations_tokens}
use Rattle.sect_front.specs.steps.{Places.{store_places}, Passing.{Passes, IsAbsent, IsRefused}}
use Rattle.sect_front.proofs.{Growing.{declarations_grow}, Begun.{named_begun}}
use Rattle.sect_front.proofs.{Stopping.{refused_word}, Spans.{word_item, local_item}}
use Rattle.sect_front.specs.declared.token.Token.TheVariants as token
use Rattle.sect_front.specs.declared.tree.Kind.TheVariants as kind
use Rattle.sect_front.specs.declared.expected.Expected.TheVariants as expected
use Rattle.sect_front.proofs.Chains.{none, one, stops, fails, fails_part}
use Rattle.sect_front.proofs.cursor.Cursor.after_word.Goals as goal

pub returns-in_err-value-clause-err : goal.returns-in_err-value-clause-err
returns-in_err-value-clause-err c =
    fails_part _ _ _ (expected.Value ∷ []) (expected.Start ∷ [])
    (one (c.takes_equal.ensures.taken c.if-takes_equal.true) refl none)
    c.in_err-value.ensures.err c.from_residual.ensures.1

pub returns-then-takes_equal-clause-ok : goal.returns-then-takes_equal-clause-ok
returns-then-takes_equal-clause-ok c =
    named_begun c.args.x.now token.Equal c.args.self.now c.takes_equal.new.self c.value.new.self c.args.locals.now
    c.args.block.now c.value.new.block (λ ts. refl) (c.takes_equal.ensures.taken c.if-takes_equal.true)
    c.in_ok-value.ensures.ok

pub returns-then-takes_equal-clause-alike : goal.returns-then-takes_equal-clause-alike
returns-then-takes_equal-clause-alike c = λ ne t rest s. refl

pub returns-in_err-store-clause-err : goal.returns-in_err-store-clause-err
returns-in_err-store-clause-err c =
    fails_part _ _ _ (store_places []) (expected.Start ∷ []) (one (subst (λ x. Passes x token.Dot c.takes.new.self)
    (c.takes_equal.ensures.stays c.if-takes_equal.false)
    (c.takes.ensures.taken token.Dot refl (λ k. refl) c.if-takes.true)) refl none)
    c.in_err-store.ensures.err c.from_residual-in_err-store.ensures.1

pub returns-then-takes-clause-ok : goal.returns-then-takes-clause-ok
returns-then-takes-clause-ok c =
    named_begun c.args.x.now token.Dot c.args.self.now c.takes.new.self c.store.new.self c.args.locals.now
    c.args.block.now c.store.new.block (λ ts. refl) (subst (λ x. Passes x token.Dot c.takes.new.self)
    (c.takes_equal.ensures.stays c.if-takes_equal.false)
    (c.takes.ensures.taken token.Dot refl (λ k. refl) c.if-takes.true)) c.in_ok-store.ensures.ok

pub returns-then-takes-clause-alike : goal.returns-then-takes-clause-alike
returns-then-takes-clause-alike c = λ ne t rest s. refl

pub returns-in_default-clause-err : goal.returns-in_default-clause-err
returns-in_default-clause-err c =
    let one = c.takes_equal.ensures.stays c.if-takes_equal.false in
    let two = c.takes.ensures.stays c.if-takes.false ∙ one in
    stops none ((rw c.in_default.is at c.takes_name.ensures.stays) ∙ two)
    (refused_word c.args.self.now (c.takes_equal.ensures.none c.if-takes_equal.false)
    (subst (IsAbsent token.Dot) one (c.takes.ensures.none token.Dot refl c.if-takes.false))
    (subst (IsRefused expected.Name) two (rw c.in_default.is at c.takes_name.ensures.none)))

pub returns-in_err-sign-clause-err : goal.returns-in_err-sign-clause-err
returns-in_err-sign-clause-err c =
    let two = c.takes.ensures.stays c.if-takes.false ∙ c.takes_equal.ensures.stays c.if-takes_equal.false in
    fails _ (one (subst (λ x. Passes x (token.Name c.in-Some.name) c.takes_name.new.self) two c.in-Some.ensures.some)
    refl none)
    c.in_err-sign.ensures.err c.from_residual-in_err-sign.ensures.1

pub returns-clause-ok : goal.returns-clause-ok
returns-clause-ok c =
    let two = c.takes.ensures.stays c.if-takes.false ∙ c.takes_equal.ensures.stays c.if-takes_equal.false in
    let t = token.Name c.in-Some.name in
    record {
      tokens = t ∷ token.Semicolon ∷ [];
      are = (
        c.takes_name.new.self,
        subst (λ x. Passes x t c.takes_name.new.self) two c.in-Some.ensures.some,
        (c.sign.new.self, c.in_ok-sign.ensures.ok, refl),
      );
      some = λ e. cc;
      next = refl;
      spelled = rw c.requires (ap (λ ds. declarations_tokens ds []) c.in_ok-push.ensures.ok
          ∙ declarations_grow c.args.locals.now (kind.Record c.args.x.now) c.in-Some.name []);
      none = λ e. c.requires;
    }

pub returns-clause-alike : goal.returns-clause-alike
returns-clause-alike c = λ ne. absurd (ne refl)

pub returns-then-takes_equal-clause-item : goal.returns-then-takes_equal-clause-item
returns-then-takes_equal-clause-item c =
    word_item c.args.x.now token.Equal c.args.self.now c.takes_equal.new.self c.value.new.self c.args.locals.now
    c.args.block.now c.value.new.block c.requires (c.takes_equal.ensures.taken c.if-takes_equal.true)
    c.in_ok-value.ensures.ok

pub returns-then-takes-clause-item : goal.returns-then-takes-clause-item
returns-then-takes-clause-item c =
    word_item c.args.x.now token.Dot c.args.self.now c.takes.new.self c.store.new.self c.args.locals.now
    c.args.block.now c.store.new.block c.requires (subst (λ x. Passes x token.Dot c.takes.new.self)
    (c.takes_equal.ensures.stays c.if-takes_equal.false)
    (c.takes.ensures.taken token.Dot refl (λ k. refl) c.if-takes.true)) c.in_ok-store.ensures.ok

pub returns-clause-item : goal.returns-clause-item
returns-clause-item c =
    let two = c.takes.ensures.stays c.if-takes.false ∙ c.takes_equal.ensures.stays c.if-takes_equal.false in
    let t = token.Name c.in-Some.name in
    local_item (kind.Record c.args.x.now) c.in-Some.name (token.Name c.args.x.now ∷ []) (t ∷ token.Semicolon ∷ [])
    c.args.self.now c.sign.new.self c.args.locals.now c.push.new.self c.args.block.now c.in_ok-push.ensures.ok
    c.requires
    refl (
      c.takes_name.new.self,
      subst (λ x. Passes x t c.takes_name.new.self) two c.in-Some.ensures.some,
      (c.sign.new.self, c.in_ok-sign.ensures.ok, refl),
    )
