use Rattle.std.proofs.Common.{◌≡◌, [], ◌∷◌, Some, IfOk, length, true, false, refl, sym, ◌∙◌, ap, subst, arith}
use Rattle.std.proofs.Common.{append-nil}
use Rattle.std.proofs.lemmas.Result.{IfOk-weaker}
use Rattle.sect_lemmas.proofs.Results.{given}
use Rattle.sect_front.specs.{Syntax.{If, IfElse, While, Atomic}, Tokens.{test_tokens, block_tokens}}
use Rattle.sect_front.specs.steps.Places.{test_places, after}
use Rattle.sect_front.specs.steps.Passing.{ArePassed, IsAbsent, IsAlike, StopsIn}
use Rattle.sect_front.proofs.{Places.{body_tokens}, Leading.{test_after, body_after}}
use Rattle.sect_front.proofs.{Growing.{block_behind}, Adding.{added_are, added_leads, added_shorter}}
use Rattle.sect_front.proofs.Stopping.{passed_append}
use Rattle.sect_front.proofs.Stopping.{passed_shorter, no_longer, refused_alike, refused_by}
use Rattle.sect_front.proofs.Stopping.{refused_bare, refused_brace, alike_takes, alike_else, alike_all, not_start}
use Rattle.sect_front.specs.declared.token.Token.TheVariants as token
use Rattle.sect_front.specs.declared.tree.Locking.TheVariants as locking
use Rattle.sect_front.specs.declared.expected.Expected.TheVariants as expected
use Rattle.sect_front.proofs.Chains.{none, rule, one, passed, stops, fails_in, fails_part, fails_at_brace, stops_so}
use Rattle.sect_front.specs.{ItemSpans.{block_spans}, steps.Spanning.{with_spans}}
use Rattle.sect_front.proofs.Spans.{passed_here, one_block, two_blocks, one_statement, item_added, items_behind}
use Rattle.sect_front.proofs.cursor.Cursor.+statements.Goals as goal

pub block-returns-in_err-open_brace-clause-err : goal.block-returns-in_err-open_brace-clause-err
block-returns-in_err-open_brace-clause-err t c =
    fails_at_brace _ _ _ none c.in_err-open_brace.ensures.err
    (λ absent. refused_alike c.args.expected expected.OpenBrace c.args.self.now c.requires.alike
    (refused_brace c.args.self.now absent))
    (λ rest s. alike_takes c.args.expected expected.OpenBrace token.OpenBrace
    (c.requires.alike token.OpenBrace rest s)) c.from_residual.ensures.1

pub block-statements-requires : goal.block-statements-requires
block-statements-requires t c =
    omega (arith, passed_shorter c.args.self.now c.open_brace.new.self token.OpenBrace c.in_ok-open_brace.ensures.ok)

pub block-returns-clause-ok : goal.block-returns-clause-ok
block-returns-clause-ok t c =
    IfOk-weaker c.statements.result _
    (λ b. ArePassed c.args.self.now (token.OpenBrace ∷ body_tokens b []) c.statements.new.self)
    (λ b h. (c.open_brace.new.self, c.in_ok-open_brace.ensures.ok, h)) c.statements.ensures.ok

pub block-returns-clause-spans : goal.block-returns-clause-spans
block-returns-clause-spans t c =
    let was = c.args.spans.now in
    let same = passed_here c.args.self.now token.OpenBrace c.open_brace.new.self c.in_ok-open_brace.ensures.ok in
    subst (λ x. IfOk c.statements.result (λ b. c.statements.new.spans ≡ with_spans was (block_spans was.total x b)))
    same
    c.statements.ensures.spans

pub block-returns-clause-err : goal.block-returns-clause-err
block-returns-clause-err t c =
    let p = c.in_ok-open_brace.ensures.ok in
    stops_so _ _ (one p (c.requires.alike token.OpenBrace _ p.stands) none) c.statements.ensures.err

pub branch-returns-in_err-test-clause-err : goal.branch-returns-in_err-test-clause-err
branch-returns-in_err-test-clause-err t c =
    fails_part _ _ _ (test_places []) (expected.OpenBrace ∷ expected.StartOrElse ∷ []) none
    c.in_err-test.ensures.err c.from_residual.ensures.1

pub branch-block-requires : goal.branch-block-requires
branch-block-requires t c = (
  omega (arith, no_longer c.args.self.now (test_tokens c.in_ok-test.test []) c.test.new.self c.in_ok-test.ensures.ok),
  λ t rest s. refl,
)

pub branch-returns-in_err-then-clause-err : goal.branch-returns-in_err-then-clause-err
branch-returns-in_err-then-clause-err t c =
    fails_part _ _ _ (expected.OpenBrace ∷ []) (expected.StartOrElse ∷ [])
    (rule (test_tokens c.in_ok-test.test []) c.in_ok-test.ensures.ok (test_after c.in_ok-test.test _ []) none)
    c.in_err-then.ensures.err c.from_residual-in_err-then.ensures.1

pub branch-block-requires-then-takes_keyword : goal.branch-block-requires-then-takes_keyword
branch-block-requires-then-takes_keyword t c =
    let q = c.in_ok-test.test in
    let a = c.in_ok-then.then in
    let begun = test_tokens q (token.OpenBrace ∷ body_tokens a []) in
    let then = passed_append c.args.self.now (test_tokens q []) (token.OpenBrace ∷ body_tokens a []) c.test.new.self
    c.block.new.self c.in_ok-test.ensures.ok c.in_ok-then.ensures.ok in (
      omega (
        arith,
        no_longer c.args.self.now begun c.block.new.self then,
        passed_shorter c.block.new.self c.takes_keyword.new.self token.Else
            (c.takes_keyword.ensures.taken c.if-takes_keyword.true),
      ),
      λ t rest s. refl,
    )

pub branch-returns-in_err-other-clause-err : goal.branch-returns-in_err-other-clause-err
branch-returns-in_err-other-clause-err t c =
    fails_part _ _ _ (expected.OpenBrace ∷ []) (expected.Start ∷ [])
    (rule (test_tokens c.in_ok-test.test []) c.in_ok-test.ensures.ok (test_after c.in_ok-test.test _ [])
    (rule (token.OpenBrace ∷ body_tokens c.in_ok-then.then []) c.in_ok-then.ensures.ok
    (body_after c.in_ok-then.then (expected.StartOrElse ∷ []) [])
    (one (c.takes_keyword.ensures.taken c.if-takes_keyword.true) refl none)))
    c.in_err-other.ensures.err c.from_residual-in_err-other.ensures.1

pub branch-returns-then-takes_keyword-clause-ok : goal.branch-returns-then-takes_keyword-clause-ok
branch-returns-then-takes_keyword-clause-ok t c =
    let q = c.in_ok-test.test in
    let a = c.in_ok-then.then in
    let begun = test_tokens q (token.OpenBrace ∷ body_tokens a []) in
    let then = passed_append c.args.self.now (test_tokens q []) (token.OpenBrace ∷ body_tokens a []) c.test.new.self
    c.block.new.self c.in_ok-test.ensures.ok c.in_ok-then.ensures.ok in
    let b = c.in_ok-other.other in
    let rest = token.Else ∷ token.OpenBrace ∷ body_tokens b [] in
    record {
      added = record {
        statement = IfElse q a b;
        tokens = test_tokens q (token.OpenBrace ∷ body_tokens a rest);
        are = subst (λ x. ArePassed c.args.self.now (test_tokens q (token.OpenBrace ∷ x))
            c.block-then-takes_keyword.new.self) (block_behind a (token.CloseBrace ∷ []) rest)
            (passed_append c.args.self.now begun rest c.block.new.self c.block-then-takes_keyword.new.self then (
              c.takes_keyword.new.self,
              c.takes_keyword.ensures.taken c.if-takes_keyword.true,
              c.in_ok-other.ensures.ok,
            ));
        spelled = refl;
        added = c.in_ok-push.ensures.ok;
        behind = refl;
      };
      spans = λ from are same. two_blocks c.args.spans.now from c.test.new.self c.block.new.self
          c.takes_keyword.new.self token.If
          (test_tokens q []) c.args.start c.self.inside.last a b
          (passed_append from (token.If ∷ []) (test_tokens q []) c.args.self.now c.test.new.self are
          c.in_ok-test.ensures.ok) same (grind arith) c.in_ok-add.ensures c.in_ok-then.ensures.spans
          c.in_ok-then.ensures.ok
          (c.takes_keyword.ensures.taken c.if-takes_keyword.true) c.in_ok-other.ensures.spans;
    }

pub branch-returns-then-takes_keyword-clause-alike : goal.branch-returns-then-takes_keyword-clause-alike
branch-returns-then-takes_keyword-clause-alike t c = λ t rest s. refl

pub branch-returns-clause-ok : goal.branch-returns-clause-ok
branch-returns-clause-ok t c =
    let q = c.in_ok-test.test in
    let a = c.in_ok-then.then in
    let begun = test_tokens q (token.OpenBrace ∷ body_tokens a []) in
    let then = passed_append c.args.self.now (test_tokens q []) (token.OpenBrace ∷ body_tokens a []) c.test.new.self
    c.block.new.self c.in_ok-test.ensures.ok c.in_ok-then.ensures.ok in
    record {
      added = record {
        statement = If q a;
        tokens = begun;
        are = subst (ArePassed c.args.self.now begun) (sym (c.takes_keyword.ensures.stays c.if-takes_keyword.false))
            then;
        spelled = refl;
        added = c.in_ok-push-2.ensures.ok;
        behind = refl;
      };
      spans = λ from are same. one_block c.args.spans.now from c.test.new.self token.If (test_tokens q [])
          c.args.start c.self.inside.last a
          (passed_append from (token.If ∷ []) (test_tokens q []) c.args.self.now c.test.new.self are
          c.in_ok-test.ensures.ok) same (grind arith) c.in_ok-add.ensures c.in_ok-then.ensures.spans;
    }

pub branch-returns-clause-alike : goal.branch-returns-clause-alike
branch-returns-clause-alike t c =
    subst (IsAlike expected.StartOrElse expected.Start) (sym (c.takes_keyword.ensures.stays c.if-takes_keyword.false))
    (alike_else c.block.new.self (c.takes_keyword.ensures.none c.if-takes_keyword.false))

pub repeated-returns-in_err-test-clause-err : goal.repeated-returns-in_err-test-clause-err
repeated-returns-in_err-test-clause-err t c =
    fails_part _ _ _ (test_places []) (expected.OpenBrace ∷ []) none
    c.in_err-test.ensures.err c.from_residual.ensures.1

pub repeated-block-requires : goal.repeated-block-requires
repeated-block-requires t c = (
  omega (arith, no_longer c.args.self.now (test_tokens c.in_ok-test.test []) c.test.new.self c.in_ok-test.ensures.ok),
  λ t rest s. refl,
)

pub repeated-returns-in_err-body-clause-err : goal.repeated-returns-in_err-body-clause-err
repeated-returns-in_err-body-clause-err t c =
    fails_in _ _ _ (rule (test_tokens c.in_ok-test.test []) c.in_ok-test.ensures.ok
    (test_after c.in_ok-test.test _ []) none)
    c.in_err-body.ensures.err c.from_residual-in_err-body.ensures.1

pub repeated-returns-clause-ok : goal.repeated-returns-clause-ok
repeated-returns-clause-ok t c =
    let q = c.in_ok-test.test in
    let b = c.in_ok-body.body in
    record {
      added = record {
        statement = While q b;
        tokens = test_tokens q (token.OpenBrace ∷ body_tokens b []);
        are = passed_append c.args.self.now (test_tokens q []) (token.OpenBrace ∷ body_tokens b []) c.test.new.self
            c.block.new.self c.in_ok-test.ensures.ok c.in_ok-body.ensures.ok;
        spelled = refl;
        added = c.in_ok-push.ensures.ok;
        behind = refl;
      };
      spans = λ from are same. one_block c.args.spans.now from c.test.new.self token.While (test_tokens q [])
          c.args.start c.self.inside.last b
          (passed_append from (token.While ∷ []) (test_tokens q []) c.args.self.now c.test.new.self are
          c.in_ok-test.ensures.ok) same (grind arith) c.in_ok-add.ensures c.in_ok-body.ensures.spans;
    }

pub atomic-block-requires : goal.atomic-block-requires
atomic-block-requires t c = (
  omega (
    arith,
    passed_shorter c.args.self.now c.takes_keyword.new.self token.All
        (c.takes_keyword.ensures.taken c.if-takes_keyword.true),
  ),
  λ t rest s. refl,
)

pub atomic-returns-in_err-body-clause-err : goal.atomic-returns-in_err-body-clause-err
atomic-returns-in_err-body-clause-err t c =
    fails_in _ _ _ (one (c.takes_keyword.ensures.taken c.if-takes_keyword.true) refl none)
    c.in_err-body.ensures.err c.from_residual-in_err-body.ensures.1

pub atomic-returns-then-takes_keyword-clause-ok : goal.atomic-returns-then-takes_keyword-clause-ok
atomic-returns-then-takes_keyword-clause-ok t c = record {
  added = record {
    statement = Atomic locking.All c.in_ok-body.body;
    tokens = token.All ∷ token.OpenBrace ∷ body_tokens c.in_ok-body.body [];
    are = (c.takes_keyword.new.self, c.takes_keyword.ensures.taken c.if-takes_keyword.true, c.in_ok-body.ensures.ok);
    spelled = refl;
    added = c.in_ok-push.ensures.ok;
    behind = refl;
  };
  spans = λ from are same. one_block c.args.spans.now from c.takes_keyword.new.self token.Atomic (token.All ∷ [])
      c.args.start c.self.inside.last
      c.in_ok-body.body (passed_append from (token.Atomic ∷ []) (token.All ∷ []) c.args.self.now
      c.takes_keyword.new.self are
      (c.takes_keyword.new.self, c.takes_keyword.ensures.taken c.if-takes_keyword.true, refl)) same (grind arith)
      c.in_ok-add.ensures
      c.in_ok-body.ensures.spans;
}

pub atomic-block-requires-2 : goal.atomic-block-requires-2
atomic-block-requires-2 t c =
    let stays = c.takes_keyword.ensures.stays c.if-takes_keyword.false in (
      omega (arith, ap (λ x. length x.here) stays),
      subst (IsAlike expected.AllOrBrace expected.OpenBrace) (sym stays)
          (alike_all c.args.self.now (c.takes_keyword.ensures.none c.if-takes_keyword.false)),
    )

pub atomic-returns-in_err-body-2-clause-err : goal.atomic-returns-in_err-body-2-clause-err
atomic-returns-in_err-body-2-clause-err t c =
    given c.from_residual-in_err-body-2.result
    (λ s. StopsIn s (expected.AllOrBrace ∷ []) c.args.self.now c.block-2.new.self) c.in_err-body-2.field-0.0
    (subst (λ x. StopsIn c.in_err-body-2.field-0.0 (expected.AllOrBrace ∷ []) x c.block-2.new.self)
    (c.takes_keyword.ensures.stays c.if-takes_keyword.false) c.in_err-body-2.ensures.err)
    c.from_residual-in_err-body-2.ensures.1

pub atomic-returns-clause-ok : goal.atomic-returns-clause-ok
atomic-returns-clause-ok t c =
    let b = c.in_ok-body-2.body in
    let tokens = token.OpenBrace ∷ body_tokens b [] in
    record {
      added = record {
        statement = Atomic locking.Inferred b;
        tokens = tokens;
        are = subst (λ x. ArePassed x tokens c.block-2.new.self)
            (c.takes_keyword.ensures.stays c.if-takes_keyword.false)
            c.in_ok-body-2.ensures.ok;
        spelled = refl;
        added = c.in_ok-push-2.ensures.ok;
        behind = refl;
      };
      spans = λ from are same. one_block c.args.spans.now from c.takes_keyword.new.self token.Atomic [] c.args.start
          c.self-2.inside.last b
          (subst (ArePassed from (token.Atomic ∷ [])) (sym (c.takes_keyword.ensures.stays c.if-takes_keyword.false))
          are)
          same (grind arith) c.in_ok-add-2.ensures c.in_ok-body-2.ensures.spans;
    }

pub statement-returns-in_default-clause-err : goal.statement-returns-in_default-clause-err
statement-returns-in_default-clause-err t c =
    stops none refl (refused_bare c.args.expected c.args.self.now (rw c.in_default.is at c.token.ensures.none))

pub statement-returns-in_default-token : goal.statement-returns-in_default-token
statement-returns-in_default-token t c =
    let stands = c.in-Some.ensures.some.stands in
    record {
      ok = tt;
      alike = tt;
      err = stops none refl (refused_by c.args.expected c.args.self.now _ c.token.new.token stands
          (alike_takes c.args.expected expected.Start c.token.new.token
          (c.requires.alike c.token.new.token _ stands)
          ∙ not_start c.token.new.token c.args.self.now _ stands c.requires.brace
          c.in_default-token.not-Name c.in_default-token.not-If c.in_default-token.not-While
          c.in_default-token.not-Print c.in_default-token.not-Atomic c.in_default-token.not-Call));
    }

pub statement-returns-in_err-named-in-Name-clause-err : goal.statement-returns-in_err-named-in-Name-clause-err
statement-returns-in_err-named-in-Name-clause-err t c =
    let p = passed c.args.self.now c.in-Some.ensures.some c.in-Name.is (λ k. refl) c.pass.ensures in
    fails_part _ _ _ (expected.AfterName ∷ []) (expected.Start ∷ []) (one p (c.requires.alike _ _ p.stands) none)
    c.in_err-named-in-Name.ensures.err c.from_residual.ensures.1

pub statement-returns-in_ok-add-in-Name-clause-ok : goal.statement-returns-in_ok-add-in-Name-clause-ok
statement-returns-in_ok-add-in-Name-clause-ok t c =
    let p = passed c.args.self.now c.in-Some.ensures.some c.in-Name.is (λ k. refl) c.pass.ensures in
    item_added (token.Name c.in-Name.x) c.args.self.now _ c.named.new.self c.args.block.now c.named.new.block
    (length c.self.inside.here.now) c.self-in-Name.inside.end refl p
    c.in_ok-named-in-Name.ensures.ok (grind arith) (grind arith) c.in_ok-add-in-Name.ensures

pub statement-returns-in_ok-add-in-Name-clause-alike : goal.statement-returns-in_ok-add-in-Name-clause-alike
statement-returns-in_ok-add-in-Name-clause-alike t c = λ t rest s. refl

pub statement-repeated-requires : goal.statement-repeated-requires
statement-repeated-requires t c =
    let p = passed c.args.self.now c.in-Some.ensures.some c.in-While.is (λ k. refl) c.pass-in-While.ensures in
    omega (arith, passed_shorter c.args.self.now _ token.While p)

pub statement-returns-in_err-repeated-in-While-clause-err : goal.statement-returns-in_err-repeated-in-While-clause-err
statement-returns-in_err-repeated-in-While-clause-err t c =
    let p = passed c.args.self.now c.in-Some.ensures.some c.in-While.is (λ k. refl) c.pass-in-While.ensures in
    fails_part _ _ _ (test_places (expected.OpenBrace ∷ [])) (expected.Start ∷ [])
    (one p (c.requires.alike _ _ p.stands) none)
    c.in_err-repeated-in-While.ensures.err c.from_residual-in_err-repeated-in-While.ensures.1

pub statement-returns-in_ok-repeated-in-While-clause-ok : goal.statement-returns-in_ok-repeated-in-While-clause-ok
statement-returns-in_ok-repeated-in-While-clause-ok t c =
    let p = passed c.args.self.now c.in-Some.ensures.some c.in-While.is (λ k. refl) c.pass-in-While.ensures in
    items_behind expected.Start token.While c.args.self.now _ c.repeated.new.self c.args.block.now c.repeated.new.block
    (length c.self.inside.here.now) p (grind arith)
    c.in_ok-repeated-in-While.ensures.ok

pub statement-returns-in_ok-repeated-in-While-clause-alike : goal.statement-returns-in_ok-repeated-in-While-clause-alike
statement-returns-in_ok-repeated-in-While-clause-alike t c = λ t rest s. refl

pub statement-returns-in_err-printed-in-Print-clause-err : goal.statement-returns-in_err-printed-in-Print-clause-err
statement-returns-in_err-printed-in-Print-clause-err t c =
    let p = passed c.args.self.now c.in-Some.ensures.some c.in-Print.is (λ k. refl) c.pass-in-Print.ensures in
    fails_part _ _ _ (expected.Operand ∷ expected.Semicolon ∷ []) (expected.Start ∷ [])
    (one p (c.requires.alike _ _ p.stands) none)
    c.in_err-printed-in-Print.ensures.err c.from_residual-in_err-printed-in-Print.ensures.1

pub statement-returns-in_ok-add-in-Print-clause-ok : goal.statement-returns-in_ok-add-in-Print-clause-ok
statement-returns-in_ok-add-in-Print-clause-ok t c =
    let p = passed c.args.self.now c.in-Some.ensures.some c.in-Print.is (λ k. refl) c.pass-in-Print.ensures in
    item_added token.Print c.args.self.now _ c.printed.new.self c.args.block.now c.printed.new.block
    (length c.self.inside.here.now) c.self-in-Print.inside.end refl p
    c.in_ok-printed-in-Print.ensures.ok (grind arith) (grind arith) c.in_ok-add-in-Print.ensures

pub statement-returns-in_ok-add-in-Print-clause-alike : goal.statement-returns-in_ok-add-in-Print-clause-alike
statement-returns-in_ok-add-in-Print-clause-alike t c = λ t rest s. refl

pub statement-atomic-requires : goal.statement-atomic-requires
statement-atomic-requires t c =
    let p = passed c.args.self.now c.in-Some.ensures.some c.in-Atomic.is (λ k. refl) c.pass-in-Atomic.ensures in
    omega (arith, passed_shorter c.args.self.now _ token.Atomic p)

pub statement-returns-in_err-atomic-in-Atomic-clause-err : goal.statement-returns-in_err-atomic-in-Atomic-clause-err
statement-returns-in_err-atomic-in-Atomic-clause-err t c =
    let p = passed c.args.self.now c.in-Some.ensures.some c.in-Atomic.is (λ k. refl) c.pass-in-Atomic.ensures in
    fails_part _ _ _ (expected.AllOrBrace ∷ []) (expected.Start ∷ []) (one p (c.requires.alike _ _ p.stands) none)
    c.in_err-atomic-in-Atomic.ensures.err c.from_residual-in_err-atomic-in-Atomic.ensures.1

pub statement-returns-in_ok-atomic-in-Atomic-clause-ok : goal.statement-returns-in_ok-atomic-in-Atomic-clause-ok
statement-returns-in_ok-atomic-in-Atomic-clause-ok t c =
    let p = passed c.args.self.now c.in-Some.ensures.some c.in-Atomic.is (λ k. refl) c.pass-in-Atomic.ensures in
    items_behind expected.Start token.Atomic c.args.self.now _ c.atomic.new.self c.args.block.now c.atomic.new.block
    (length c.self.inside.here.now) p (grind arith)
    c.in_ok-atomic-in-Atomic.ensures.ok

pub statement-returns-in_ok-atomic-in-Atomic-clause-alike : goal.statement-returns-in_ok-atomic-in-Atomic-clause-alike
statement-returns-in_ok-atomic-in-Atomic-clause-alike t c = λ t rest s. refl

pub statement-returns-in_err-called-in-Call-clause-err : goal.statement-returns-in_err-called-in-Call-clause-err
statement-returns-in_err-called-in-Call-clause-err t c =
    let p = passed c.args.self.now c.in-Some.ensures.some c.in-Call.is (λ k. refl) c.pass-in-Call.ensures in
    fails_part _ _ _ (expected.Name ∷ expected.OpenParen ∷ expected.Argument ∷ expected.Semicolon ∷ [])
    (expected.Start ∷ []) (one p (c.requires.alike _ _ p.stands) none)
    c.in_err-called-in-Call.ensures.err c.from_residual-in_err-called-in-Call.ensures.1

pub statement-returns-in_ok-add-in-Call-clause-ok : goal.statement-returns-in_ok-add-in-Call-clause-ok
statement-returns-in_ok-add-in-Call-clause-ok t c =
    let p = passed c.args.self.now c.in-Some.ensures.some c.in-Call.is (λ k. refl) c.pass-in-Call.ensures in
    item_added token.Call c.args.self.now _ c.called.new.self c.args.block.now c.called.new.block
    (length c.self.inside.here.now) c.self-in-Call.inside.end refl p
    c.in_ok-called-in-Call.ensures.ok (grind arith) (grind arith) c.in_ok-add-in-Call.ensures

pub statement-returns-in_ok-add-in-Call-clause-alike : goal.statement-returns-in_ok-add-in-Call-clause-alike
statement-returns-in_ok-add-in-Call-clause-alike t c = λ t rest s. refl

pub statement-branch-self-requires : goal.statement-branch-self-requires
statement-branch-self-requires t c =
    let p = passed c.args.self.now c.in-Some.ensures.some c.in-If.is (λ k. refl) c.pass-in-If.ensures in
    omega (arith, passed_shorter c.args.self.now _ token.If p)

pub statement-returns-in-If-clause-ok : goal.statement-returns-in-If-clause-ok
statement-returns-in-If-clause-ok t c =
    let p = passed c.args.self.now c.in-Some.ensures.some c.in-If.is (λ k. refl) c.pass-in-If.ensures in
    IfOk-weaker c.branch-self.result _ _ (λ e h. items_behind e token.If c.args.self.now _ c.branch-self.new.self
    c.args.block.now c.branch-self.new.block (length c.self.inside.here.now) p (grind arith) h) c.branch-self.ensures.ok

pub statement-returns-in-If-clause-alike : goal.statement-returns-in-If-clause-alike
statement-returns-in-If-clause-alike t c = c.branch-self.ensures.alike

pub statement-returns-in-If-clause-err : goal.statement-returns-in-If-clause-err
statement-returns-in-If-clause-err t c =
    let p = passed c.args.self.now c.in-Some.ensures.some c.in-If.is (λ k. refl) c.pass-in-If.ensures in
    stops_so _ _ (one p (c.requires.alike _ _ p.stands) none) c.branch-self.ensures.err

pub statements-read-init : goal.statements-read-init
statements-read-init t c = record {
  are = subst (λ b. ArePassed c.args.self.now (block_tokens b []) c.args.self.now) (sym c.new-block.ensures) refl;
  next = subst (λ b. after (expected.Start ∷ []) (block_tokens b []) ≡ Some (expected.Start ∷ []))
      (sym c.new-block.ensures) refl;
  alike = λ t rest s. refl;
  spans = rw c.new-block.ensures (ap (λ x. record { total = c.args.spans.now.total; items = x })
      (sym (append-nil c.args.spans.now.items)));
}

pub statements-statement-requires : goal.statements-statement-requires
statements-statement-requires t c =
    let going : c.takes_close.result ≡ false = grind arith in
    let stays = c.takes_close.ensures.stays going in (
      omega (
        arith,
        ap (λ x. length x.here) stays,
        no_longer c.args.self.now (block_tokens c.read.block []) c.read.self c.read.invariant.are,
      ),
      (
        subst (IsAlike c.read.expected expected.Start) (sym stays) c.read.invariant.alike,
        subst (IsAbsent token.CloseBrace) (sym stays) (c.takes_close.ensures.none going),
      ),
    )

pub statements-returns-in_err-expected-clause-err : goal.statements-returns-in_err-expected-clause-err
statements-returns-in_err-expected-clause-err t c =
    let going : c.takes_close.result ≡ false = grind arith in
    let are = subst (ArePassed c.args.self.now (block_tokens c.read.block []))
    (sym (c.takes_close.ensures.stays going)) c.read.invariant.are in
    fails_in _ _ _ (rule (block_tokens c.read.block []) are c.read.invariant.next none)
    c.in_err-expected.ensures.err c.from_residual.ensures.1

pub statements-read-smaller : goal.statements-read-smaller
statements-read-smaller t c =
    let going : c.takes_close.result ≡ false = grind arith in
    omega (
      arith,
      ap (λ x. length x.here) (c.takes_close.ensures.stays going),
      added_shorter c.in_ok-expected.expected c.takes_close.new.self c.statement.new.self c.read.block
          c.statement.new.block c.in_ok-expected.ensures.ok.added,
    )

pub statements-read-preserved : goal.statements-read-preserved
statements-read-preserved t c =
    let going : c.takes_close.result ≡ false = grind arith in
    let stays = c.takes_close.ensures.stays going in
    let e = c.in_ok-expected.expected in
    let h = c.in_ok-expected.ensures.ok in
    record {
      are = added_are [] c.args.self.now c.takes_close.new.self c.statement.new.self c.read.block c.statement.new.block
          e
          (subst (ArePassed c.args.self.now (block_tokens c.read.block [])) (sym stays) c.read.invariant.are)
          c.in_ok-expected.ensures.ok.added;
      next = added_leads (expected.Start ∷ []) [] c.takes_close.new.self c.statement.new.self c.read.block
          c.statement.new.block c.read.expected e c.read.invariant.next
          (subst (IsAlike c.read.expected expected.Start) (sym stays) c.read.invariant.alike)
          c.in_ok-expected.ensures.ok.added;
      alike = c.in_ok-expected.ensures.alike;
      spans = subst (λ b. c.statement.new.spans ≡ with_spans c.args.spans.now
          (block_spans c.args.spans.now.total c.args.self.now.here b)) (sym h.added.added)
          (one_statement c.args.spans.now c.args.self.now c.takes_close.new.self c.read.block h.added.statement
          (subst (ArePassed c.args.self.now (block_tokens c.read.block [])) (sym stays) c.read.invariant.are)
          c.read.invariant.spans (h.spans c.takes_close.new.self refl refl));
    }

pub statements-returns-clause-ok : goal.statements-returns-clause-ok
statements-returns-clause-ok t c =
    let done : c.takes_close.result ≡ true = grind arith in
    subst (λ b. ArePassed c.args.self.now (body_tokens b []) c.takes_close.new.self) (sym c.fit.ensures)
    (subst (λ ts. ArePassed c.args.self.now ts c.takes_close.new.self)
    (block_behind c.read.block [] (token.CloseBrace ∷ []))
    (passed_append c.args.self.now (block_tokens c.read.block []) (token.CloseBrace ∷ []) c.read.self
    c.takes_close.new.self c.read.invariant.are
    (c.takes_close.new.self, c.takes_close.ensures.taken done, refl)))

pub statements-returns-clause-spans : goal.statements-returns-clause-spans
statements-returns-clause-spans t c =
    subst (λ b. c.read.spans ≡ with_spans c.args.spans.now
    (block_spans c.args.spans.now.total c.args.self.now.here b)) (sym c.fit.ensures) c.read.invariant.spans
