use Rattle.std.proofs.Common.{◌≡◌, [], ◌∷◌, true, false, length, refl, sym, ap, subst, arith, append-nil}
use Rattle.sect_front.specs.{Tokens.{block_tokens, declarations_tokens}}
use Rattle.sect_front.specs.steps.Places.{after}
use Rattle.sect_front.specs.steps.Passing.{ArePassed, IsAbsent, IsAlike}
use Rattle.sect_front.specs.{ItemSpans.{body_spans}, steps.Spanning.{with_spans}}
use Rattle.sect_front.proofs.Spans.{begun_spans}
use Rattle.sect_front.proofs.Begun.{begun_are, begun_leads, begun_shorter, body_ends}
use Rattle.sect_front.specs.declared.token.Token.TheVariants as token
use Rattle.sect_front.specs.declared.expected.Expected.TheVariants as expected
use Rattle.sect_front.proofs.Chains.{none, rule, fails_in}
use Rattle.sect_front.proofs.cursor.Cursor.body.Goals as goal

pub read-init : goal.read-init
read-init c =
    let none : declarations_tokens c.new-locals.result (block_tokens c.new-block.result []) ≡ [] =
    rw (c.new-locals.ensures, c.new-block.ensures) refl in
    record {
      are = subst (λ ts. ArePassed c.args.self.now ts c.args.self.now) (sym none) refl;
      next = ap (after (expected.StartOrLocal ∷ [])) none;
      none = λ e. c.new-block.ensures;
      alike = λ ne. absurd (ne refl);
      spans = rw (c.new-locals.ensures, c.new-block.ensures) (ap
          (λ x. record { total = c.args.spans.now.total; items = x }) (sym (append-nil c.args.spans.now.items)));
    }

pub next-requires : goal.next-requires
next-requires c =
    let going : c.takes_close.result ≡ false = grind arith in
    let stays = c.takes_close.ensures.stays going in
    record {
      empty = c.read.invariant.none;
      alike = λ ne. subst (IsAlike c.read.expected expected.Start) (sym stays) (c.read.invariant.alike ne);
      brace = subst (IsAbsent token.CloseBrace) (sym stays) (c.takes_close.ensures.none going);
    }

pub returns-in_err-expected-clause-err : goal.returns-in_err-expected-clause-err
returns-in_err-expected-clause-err c =
    let going : c.takes_close.result ≡ false = grind arith in
    let tokens = declarations_tokens c.read.locals (block_tokens c.read.block []) in
    let are = subst (ArePassed c.args.self.now tokens) (sym (c.takes_close.ensures.stays going)) c.read.invariant.are in
    fails_in _ _ _ (rule tokens are c.read.invariant.next none)
    c.in_err-expected.ensures.err c.from_residual.ensures.1

pub read-smaller : goal.read-smaller
read-smaller c =
    let going : c.takes_close.result ≡ false = grind arith in
    omega (
      arith,
      ap (λ x. length x.here) (c.takes_close.ensures.stays going),
      begun_shorter c.takes_close.new.self c.next.new.self c.read.expected c.in_ok-expected.expected c.read.locals
          c.next.new.locals c.read.block c.next.new.block c.in_ok-expected.ensures.ok.begun,
    )

pub read-preserved : goal.read-preserved
read-preserved c =
    let going : c.takes_close.result ≡ false = grind arith in
    let h = c.in_ok-expected.ensures.ok.begun in
    let tokens = declarations_tokens c.read.locals (block_tokens c.read.block []) in
    record {
      are = begun_are c.args.self.now c.takes_close.new.self c.next.new.self c.read.expected c.in_ok-expected.expected
          c.read.locals c.next.new.locals c.read.block c.next.new.block
          (subst (ArePassed c.args.self.now tokens) (sym (c.takes_close.ensures.stays going)) c.read.invariant.are) h;
      next = begun_leads (expected.StartOrLocal ∷ []) c.takes_close.new.self c.next.new.self c.read.expected
          c.in_ok-expected.expected c.read.locals c.next.new.locals c.read.block c.next.new.block
          c.read.invariant.next h;
      none = h.none;
      alike = c.in_ok-expected.ensures.alike;
      spans = begun_spans c.args.spans.now c.read.expected c.in_ok-expected.expected c.args.self.now
          c.takes_close.new.self c.next.new.self c.read.locals c.next.new.locals c.read.block c.next.new.block
          (subst (ArePassed c.args.self.now tokens) (sym (c.takes_close.ensures.stays going)) c.read.invariant.are)
          c.read.invariant.spans c.in_ok-expected.ensures.ok;
    }

pub returns-clause-ok : goal.returns-clause-ok
returns-clause-ok c =
    let done : c.takes_close.result ≡ true = grind arith in
    subst (λ b. ArePassed c.args.self.now (declarations_tokens c.read.locals (block_tokens b (token.CloseBrace ∷ [])))
    c.takes_close.new.self) (sym c.fit.ensures)
    (body_ends c.args.self.now c.read.self c.takes_close.new.self c.read.locals c.read.block c.read.invariant.are
    (c.takes_close.ensures.taken done))

pub returns-clause-spans : goal.returns-clause-spans
returns-clause-spans c =
    subst (λ b. c.read.spans ≡ with_spans c.args.spans.now
    (body_spans c.args.spans.now.total c.args.self.now.here c.read.locals b)) (sym c.fit.ensures) c.read.invariant.spans
