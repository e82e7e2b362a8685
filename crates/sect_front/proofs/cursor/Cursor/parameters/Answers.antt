use Rattle.std.proofs.Common.{◌≡◌, [], ◌∷◌, ◌++◌, true, false, length, refl, sym, ◌∙◌, ap, subst, arith}
use Rattle.std.proofs.Common.{append-nil}
use Rattle.sect_front.specs.Grammar.{kind_token}
use Rattle.sect_front.specs.Tokens.{parameters_tokens}
use Rattle.sect_front.specs.steps.Passing.{Passes, ArePassed, IsAbsent, IsRefused}
use Rattle.sect_front.specs.{ItemSpans.{parameters_spans}, steps.Spanning.{with_spans}}
use Rattle.sect_front.proofs.{Growing.{some_grown, list_after}, Spans.{head_span, one_parameter}}
use Rattle.sect_front.proofs.Growing.{parameters_behind, parameters_grow}
use Rattle.sect_front.proofs.Stopping.{passed_append, passed_shorter}
use Rattle.sect_front.proofs.Stopping.{refused_parameter}
use Rattle.sect_front.proofs.Stopping.{refused_after_parameter, parameter_follows, kind_follows}
use Rattle.sect_front.specs.declared.token.Token.TheVariants as token
use Rattle.sect_front.specs.declared.expected.Expected.TheVariants as expected
use Rattle.sect_front.proofs.Chains.{none, rule, one, stops, fails}
use Rattle.sect_front.proofs.cursor.Cursor.parameters.Goals as goal

pub returns-then-takes-clause-ok : goal.returns-then-takes-clause-ok
returns-then-takes-clause-ok c =
    subst (λ ds. ArePassed c.args.self.now (parameters_tokens ds (token.CloseParen ∷ [])) c.takes.new.self)
    (sym c.new-parameters.ensures)
    (c.takes.new.self, c.takes.ensures.taken token.CloseParen refl (λ k. refl) c.if-takes.true, refl)

pub returns-in_default-clause-err : goal.returns-in_default-clause-err
returns-in_default-clause-err c =
    let stays = c.takes.ensures.stays c.if-takes.false in
    stops none ((rw c.in_default.is at c.takes_kind.ensures.stays) ∙ stays)
    (refused_parameter c.args.self.now (c.takes.ensures.none token.CloseParen refl c.if-takes.false)
    (subst (IsRefused expected.Kind) stays (rw c.in_default.is at c.takes_kind.ensures.none)))

pub returns-in_err-first_name-clause-err : goal.returns-in_err-first_name-clause-err
returns-in_err-first_name-clause-err c =
    let k = c.in-Some.first in
    let p = subst (λ x. Passes x (kind_token k) c.takes_kind.new.self) (c.takes.ensures.stays c.if-takes.false)
    c.in-Some.ensures.some in
    fails _ (one p (parameter_follows k) none)
    c.in_err-first_name.ensures.err c.from_residual.ensures.1

pub more-init : goal.more-init
more-init c =
    let k = c.in-Some.first in
    let n = c.in_ok-first_name.first_name in
    let p = subst (λ x. Passes x (kind_token k) c.takes_kind.new.self) (c.takes.ensures.stays c.if-takes.false)
    c.in-Some.ensures.some in
    let is : c.push.new.self ≡ record { kind = k; name = n } ∷ [] =
    c.in_ok-push.ensures.ok ∙ ap (λ ds. ds ++ record { kind = k; name = n } ∷ []) c.new-parameters.ensures in
    let was = c.args.spans.now in
    let begins : c.self.inside.here.now ≡ c.takes.new.self.here = grind arith in
    record {
      are = subst (λ ds. ArePassed c.args.self.now (parameters_tokens ds []) c.name.new.self) (sym is)
          (c.takes_kind.new.self, p, (c.name.new.self, c.in_ok-first_name.ensures.ok, refl));
      some = λ e. some_grown [] (record { kind = k; name = n }) (sym is ∙ e);
      spans = subst (λ ds. c.add.new.self ≡ with_spans was (parameters_spans was.total c.args.self.now.here ds))
          (sym is)
          (head_span was c.args.self.now c.name.new.self (kind_token k) (token.Name n ∷ [])
          (length c.self.inside.here.now) c.self-2.inside.last
          (c.takes_kind.new.self, p, (c.name.new.self, c.in_ok-first_name.ensures.ok, refl))
          (ap length begins ∙ ap (λ x. length x.here) (c.takes.ensures.stays c.if-takes.false)) (grind arith)
          c.in_ok-add.ensures);
    }

pub returns-then-not-takes-clause-err : goal.returns-then-not-takes-clause-err
returns-then-not-takes-clause-err c =
    let going : c.takes-in-more.result ≡ false = grind arith in
    let stays = c.takes-in-more.ensures.stays going in
    stops (rule (parameters_tokens c.more.parameters []) c.more.invariant.are
    (list_after c.more.parameters c.more.invariant.some [] []) none)
    (c.takes-in-more-2.ensures.stays c.if-not-takes.true ∙ stays)
    (refused_after_parameter c.more.self (c.takes-in-more.ensures.none token.CloseParen refl going)
    (subst (IsAbsent token.Comma) stays (c.takes-in-more-2.ensures.none token.Comma refl c.if-not-takes.true)))

pub returns-in_default-takes_kind-clause-err : goal.returns-in_default-takes_kind-clause-err
returns-in_default-takes_kind-clause-err c =
    let going : c.takes-in-more.result ≡ false = grind arith in
    let comma = subst (λ x. Passes x token.Comma c.takes-in-more-2.new.self) (c.takes-in-more.ensures.stays going)
    (c.takes-in-more-2.ensures.taken token.Comma refl (λ k. refl) c.if-not-takes.false) in
    stops (rule (parameters_tokens c.more.parameters []) c.more.invariant.are
    (list_after c.more.parameters c.more.invariant.some [] []) (one comma refl none))
    (rw c.in_default-takes_kind.is at c.takes_kind-in-more.ensures.stays)
    (rw c.in_default-takes_kind.is at c.takes_kind-in-more.ensures.none)

pub returns-in_err-name-clause-err : goal.returns-in_err-name-clause-err
returns-in_err-name-clause-err c =
    let going : c.takes-in-more.result ≡ false = grind arith in
    let comma = subst (λ x. Passes x token.Comma c.takes-in-more-2.new.self) (c.takes-in-more.ensures.stays going)
    (c.takes-in-more-2.ensures.taken token.Comma refl (λ k. refl) c.if-not-takes.false) in
    fails _ (rule (parameters_tokens c.more.parameters []) c.more.invariant.are
    (list_after c.more.parameters c.more.invariant.some [] []) (one comma refl
    (one c.in-Some-takes_kind.ensures.some (kind_follows c.in-Some-takes_kind.kind) none)))
    c.in_err-name.ensures.err c.from_residual-in_err-name.ensures.1

pub more-smaller : goal.more-smaller
more-smaller c =
    let going : c.takes-in-more.result ≡ false = grind arith in
    let comma = subst (λ x. Passes x token.Comma c.takes-in-more-2.new.self) (c.takes-in-more.ensures.stays going)
    (c.takes-in-more-2.ensures.taken token.Comma refl (λ k. refl) c.if-not-takes.false) in
    omega (
      arith,
      passed_shorter c.more.self c.takes-in-more-2.new.self token.Comma comma,
      passed_shorter c.takes-in-more-2.new.self c.takes_kind-in-more.new.self
          (kind_token c.in-Some-takes_kind.kind) c.in-Some-takes_kind.ensures.some,
      passed_shorter c.takes_kind-in-more.new.self c.name-in-more.new.self (token.Name c.in_ok-name.name)
          c.in_ok-name.ensures.ok,
    )

pub more-preserved : goal.more-preserved
more-preserved c =
    let going : c.takes-in-more.result ≡ false = grind arith in
    let comma = subst (λ x. Passes x token.Comma c.takes-in-more-2.new.self) (c.takes-in-more.ensures.stays going)
    (c.takes-in-more-2.ensures.taken token.Comma refl (λ k. refl) c.if-not-takes.false) in
    let ds = c.more.parameters in
    let k = c.in-Some-takes_kind.kind in
    let n = c.in_ok-name.name in
    let more = token.Comma ∷ kind_token k ∷ token.Name n ∷ [] in
    let was = c.args.spans.now in
    record {
      are = subst (λ x. ArePassed c.args.self.now (parameters_tokens x []) c.name-in-more.new.self)
          (sym c.in_ok-push-2.ensures.ok) (subst (λ ts. ArePassed c.args.self.now ts c.name-in-more.new.self)
          (parameters_behind ds [] more ∙ sym (parameters_grow ds c.more.invariant.some k n []))
          (passed_append c.args.self.now (parameters_tokens ds []) more c.more.self c.name-in-more.new.self
          c.more.invariant.are (
            c.takes-in-more-2.new.self,
            comma,
            (
              c.takes_kind-in-more.new.self,
              c.in-Some-takes_kind.ensures.some,
              (c.name-in-more.new.self, c.in_ok-name.ensures.ok, refl),
            ),
          )));
      some = λ e. some_grown ds (record { kind = k; name = n }) (sym c.in_ok-push-2.ensures.ok ∙ e);
      spans = subst (λ x. c.add-in-more.new.self ≡ with_spans was
          (parameters_spans was.total c.args.self.now.here x)) (sym c.in_ok-push-2.ensures.ok)
          (one_parameter was c.args.self.now c.more.self c.takes-in-more-2.new.self c.name-in-more.new.self ds k n
          (length c.self-in-more.inside.here.now) c.self-in-more-2.inside.last c.more.invariant.some
          c.more.invariant.are comma (
            c.takes_kind-in-more.new.self,
            c.in-Some-takes_kind.ensures.some,
            (c.name-in-more.new.self, c.in_ok-name.ensures.ok, refl),
          ) (grind arith) (grind arith) c.more.invariant.spans c.in_ok-add-2.ensures);
    }

pub returns-clause-ok : goal.returns-clause-ok
returns-clause-ok c =
    let done : c.takes-in-more.result ≡ true = grind arith in
    subst (λ ts. ArePassed c.args.self.now ts c.takes-in-more.new.self)
    (parameters_behind c.more.parameters [] (token.CloseParen ∷ []))
    (passed_append c.args.self.now (parameters_tokens c.more.parameters []) (token.CloseParen ∷ []) c.more.self
    c.takes-in-more.new.self c.more.invariant.are
    (c.takes-in-more.new.self, c.takes-in-more.ensures.taken token.CloseParen refl (λ k. refl) done, refl))

pub returns-then-takes-clause-spans : goal.returns-then-takes-clause-spans
returns-then-takes-clause-spans c = rw c.new-parameters.ensures
    (ap (λ x. record { total = c.args.spans.now.total; items = x }) (sym (append-nil c.args.spans.now.items)))

pub returns-clause-spans : goal.returns-clause-spans
returns-clause-spans c = c.more.invariant.spans
