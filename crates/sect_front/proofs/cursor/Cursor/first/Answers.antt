use Rattle.std.proofs.Common.{◌≢◌, [], ◌∷◌, length, refl, ◌∙◌, ap, arith}
use Rattle.std.proofs.lemmas.Result.{IfOk-weaker}
use Rattle.sect_front.specs.{Tokens.{declarations_tokens}}
use Rattle.sect_front.specs.steps.Passing.{IsAlike}
use Rattle.sect_front.proofs.Growing.{declarations_grow}
use Rattle.sect_front.proofs.{Begun.{begun_behind}, Spans.{begun_item, begun_statement, local_item}}
use Rattle.sect_front.proofs.Stopping.{refused_bare, alike_local}
use Rattle.sect_front.specs.declared.token.Token.TheVariants as token
use Rattle.sect_front.specs.declared.tree.Kind.TheVariants as kind
use Rattle.sect_front.specs.declared.expected.Expected.TheVariants as expected
use Rattle.sect_front.proofs.Chains.{none, one, passed, stops, fails_in, fails_part}
use Rattle.sect_front.proofs.cursor.Cursor.first.Goals as goal

pub returns-in_default-clause-err : goal.returns-in_default-clause-err
returns-in_default-clause-err c =
    stops none refl (refused_bare expected.StartOrLocal c.args.self.now (rw c.in_default.is at c.token.ensures.none))

pub returns-in_err-declared-in-Int-clause-err : goal.returns-in_err-declared-in-Int-clause-err
returns-in_err-declared-in-Int-clause-err c =
    let p = passed c.args.self.now c.in-Some.ensures.some c.in-Int.is (λ k. refl) c.pass.ensures in
    fails_part _ _ _ (expected.Name ∷ expected.Semicolon ∷ []) (expected.StartOrLocal ∷ []) (one p refl none)
    c.in_err-declared-in-Int.ensures.err c.from_residual.ensures.1

pub returns-in_ok-add-in-Int-clause-ok : goal.returns-in_ok-add-in-Int-clause-ok
returns-in_ok-add-in-Int-clause-ok c =
    let p = passed c.args.self.now c.in-Some.ensures.some c.in-Int.is (λ k. refl) c.pass.ensures in
    let h = c.in_ok-declared-in-Int.ensures.ok in
    begun_item expected.StartOrLocal expected.StartOrLocal token.Int c.args.self.now _ c.declared.new.self
    c.args.locals.now c.declared.new.list c.args.block.now c.args.block.now (length c.self.inside.here.now)
    c.self-in-Int.inside.end c.requires.empty p
    (record {
      tokens = token.Int ∷ token.Name h.name ∷ token.Semicolon ∷ [];
      are = (_, p, h.are);
      some = λ e. cc;
      next = refl;
      spelled = rw c.requires.empty (ap (λ ds. declarations_tokens ds []) h.added
          ∙ declarations_grow c.args.locals.now kind.Int h.name []);
      none = λ e. c.requires.empty;
    })
    (local_item kind.Int h.name (token.Int ∷ []) (token.Name h.name ∷ token.Semicolon ∷ []) _ c.declared.new.self
    c.args.locals.now c.declared.new.list c.args.block.now h.added c.requires.empty refl h.are) (grind arith)
    (grind arith) c.in_ok-add-in-Int.ensures

pub returns-in_ok-add-in-Int-clause-alike : goal.returns-in_ok-add-in-Int-clause-alike
returns-in_ok-add-in-Int-clause-alike c = λ ne. absurd (ne refl)

pub after_word-requires : goal.after_word-requires
after_word-requires c = c.requires.empty

pub returns-in_err-next-in-Name-clause-err : goal.returns-in_err-next-in-Name-clause-err
returns-in_err-next-in-Name-clause-err c =
    let p = passed c.args.self.now c.in-Some.ensures.some c.in-Name.is (λ k. refl) c.pass-in-Name.ensures in
    fails_in _ _ _ (one p refl none) c.in_err-next-in-Name.ensures.err c.from_residual-in_err-next-in-Name.ensures.1

pub returns-in_ok-add-in-Name-clause-ok : goal.returns-in_ok-add-in-Name-clause-ok
returns-in_ok-add-in-Name-clause-ok c =
    let p = passed c.args.self.now c.in-Some.ensures.some c.in-Name.is (λ k. refl) c.pass-in-Name.ensures in
    let e = c.in_ok-next-in-Name.next in
    begun_item expected.StartOrLocal e (token.Name c.in-Name.x) c.args.self.now _ c.after_word.new.self
    c.args.locals.now c.after_word.new.locals c.args.block.now c.after_word.new.block (length c.self.inside.here.now)
    c.self-in-Name.inside.end c.requires.empty p
    (begun_behind expected.StartOrLocal e [] (token.Name c.in-Name.x) c.args.self.now _ c.after_word.new.self
    c.args.locals.now c.after_word.new.locals c.args.block.now c.after_word.new.block p
    c.in_ok-next-in-Name.ensures.ok) c.in_ok-next-in-Name.ensures.item (grind arith) (grind arith)
    c.in_ok-add-in-Name.ensures

pub returns-in_ok-add-in-Name-clause-alike : goal.returns-in_ok-add-in-Name-clause-alike
returns-in_ok-add-in-Name-clause-alike c = c.in_ok-next-in-Name.ensures.alike

pub statement-requires : goal.statement-requires
statement-requires c = record {
  alike = alike_local c.args.self.now _ c.token.new.token c.in-Some.ensures.some.stands
      c.in_default-token.not-Int c.in_default-token.not-Name;
  brace = c.requires.brace;
}

pub returns-in_default-token-clause-ok : goal.returns-in_default-token-clause-ok
returns-in_default-token-clause-ok c =
    IfOk-weaker c.statement.result _ _ (λ e h. begun_statement expected.StartOrLocal e c.args.self.now
    c.statement.new.self c.args.locals.now c.args.block.now c.statement.new.block
    (alike_local c.args.self.now _ c.token.new.token c.in-Some.ensures.some.stands
    c.in_default-token.not-Int c.in_default-token.not-Name) h) c.statement.ensures.ok

pub returns-in_default-token-clause-alike : goal.returns-in_default-token-clause-alike
returns-in_default-token-clause-alike c =
    IfOk-weaker c.statement.result (λ e. IsAlike e expected.Start c.statement.new.self)
    (λ e. e ≢ expected.StartOrLocal → IsAlike e expected.Start c.statement.new.self) (λ e h ne. h)
    c.statement.ensures.alike

pub returns-in_default-token-clause-err : goal.returns-in_default-token-clause-err
returns-in_default-token-clause-err c = c.statement.ensures.err
