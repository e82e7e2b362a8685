use Rattle.std.proofs.Common.{◌≡◌, [], ◌∷◌, true, false, length, refl, sym, ◌∙◌, ap, subst, arith, append-nil}
use Rattle.sect_front.specs.Grammar.{kind_token}
use Rattle.sect_front.specs.Tokens.{declarations_tokens}
use Rattle.sect_front.specs.steps.Passing.{Passes, ArePassed, IsRefused}
use Rattle.sect_front.specs.{ItemSpans.{declarations_spans}, steps.Spanning.{with_spans}}
use Rattle.sect_front.proofs.{Leading.{fields_after}, Spans.{one_declaration}}
use Rattle.sect_front.proofs.Growing.{declarations_behind, declarations_grow}
use Rattle.sect_front.proofs.Stopping.{passed_append, passed_shorter}
use Rattle.sect_front.proofs.Stopping.{no_longer}
use Rattle.sect_front.proofs.Stopping.{refused_field}
use Rattle.sect_front.proofs.Stopping.{field_follows}
use Rattle.sect_front.specs.declared.token.Token.TheVariants as token
use Rattle.sect_front.specs.declared.expected.Expected.TheVariants as expected
use Rattle.sect_front.proofs.Chains.{none, rule, one, stops, fails_part}
use Rattle.sect_front.proofs.cursor.Cursor.fields.Goals as goal

pub more-init : goal.more-init
more-init c = record {
  are = subst (λ x. ArePassed c.args.self.now (declarations_tokens x []) c.args.self.now) (sym c.new-fields.ensures)
      refl;
  spans = rw c.new-fields.ensures (ap (λ x. record { total = c.args.spans.now.total; items = x })
      (sym (append-nil c.args.spans.now.items)));
}

pub returns-in_default-clause-err : goal.returns-in_default-clause-err
returns-in_default-clause-err c =
    let going : c.takes_close.result ≡ false = grind arith in
    let stays = c.takes_close.ensures.stays going in
    stops (rule (declarations_tokens c.more.fields []) c.more.invariant.are (fields_after c.more.fields [] []) none)
    ((rw c.in_default.is at c.takes_kind.ensures.stays) ∙ stays)
    (refused_field c.more.self (c.takes_close.ensures.none going)
    (subst (IsRefused expected.Kind) stays (rw c.in_default.is at c.takes_kind.ensures.none)))

pub returns-in_err-declared-clause-err : goal.returns-in_err-declared-clause-err
returns-in_err-declared-clause-err c =
    let going : c.takes_close.result ≡ false = grind arith in
    let k = c.in-Some.kind in
    let p = subst (λ x. Passes x (kind_token k) c.takes_kind.new.self) (c.takes_close.ensures.stays going)
    c.in-Some.ensures.some in
    fails_part _ _ _ (expected.Name ∷ expected.Semicolon ∷ []) (expected.Field ∷ [])
    (rule (declarations_tokens c.more.fields []) c.more.invariant.are (fields_after c.more.fields [] [])
    (one p (field_follows k) none))
    c.in_err-declared.ensures.err c.from_residual.ensures.1

pub more-smaller : goal.more-smaller
more-smaller c =
    let going : c.takes_close.result ≡ false = grind arith in
    let k = c.in-Some.kind in
    let p = subst (λ x. Passes x (kind_token k) c.takes_kind.new.self) (c.takes_close.ensures.stays going)
    c.in-Some.ensures.some in
    let h = c.in_ok-declared.ensures.ok in
    omega (
      arith,
      passed_shorter c.more.self c.takes_kind.new.self (kind_token k) p,
      no_longer c.takes_kind.new.self (token.Name h.name ∷ token.Semicolon ∷ []) c.declared.new.self h.are,
    )

pub more-preserved : goal.more-preserved
more-preserved c =
    let going : c.takes_close.result ≡ false = grind arith in
    let k = c.in-Some.kind in
    let p = subst (λ x. Passes x (kind_token k) c.takes_kind.new.self) (c.takes_close.ensures.stays going)
    c.in-Some.ensures.some in
    let h = c.in_ok-declared.ensures.ok in
    let ds = c.more.fields in
    let more = kind_token k ∷ token.Name h.name ∷ token.Semicolon ∷ [] in
    let was = c.args.spans.now in
    let begins : c.self.inside.here.now ≡ c.takes_close.new.self.here = grind arith in
    record {
      are = subst (λ x. ArePassed c.args.self.now (declarations_tokens x []) c.declared.new.self) (sym h.added)
          (subst (λ ts. ArePassed c.args.self.now ts c.declared.new.self)
          (declarations_behind ds [] more ∙ sym (declarations_grow ds k h.name []))
          (passed_append c.args.self.now (declarations_tokens ds []) more c.more.self c.declared.new.self
          c.more.invariant.are
          (c.takes_kind.new.self, p, h.are)));
      spans = subst (λ x. c.add.new.self ≡ with_spans was (declarations_spans was.total c.args.self.now.here x))
          (sym h.added) (one_declaration was c.args.self.now c.more.self c.declared.new.self ds k h.name
          (length c.self.inside.here.now) c.self-in-more.inside.end c.more.invariant.are
          (c.takes_kind.new.self, p, h.are)
          (ap length begins ∙ ap (λ x. length x.here) (c.takes_close.ensures.stays going)) (grind arith)
          c.more.invariant.spans c.in_ok-add.ensures);
    }

pub returns-clause-ok : goal.returns-clause-ok
returns-clause-ok c =
    let done : c.takes_close.result ≡ true = grind arith in
    subst (λ ts. ArePassed c.args.self.now ts c.takes_close.new.self)
    (declarations_behind c.more.fields [] (token.CloseBrace ∷ []))
    (passed_append c.args.self.now (declarations_tokens c.more.fields []) (token.CloseBrace ∷ []) c.more.self
    c.takes_close.new.self c.more.invariant.are (c.takes_close.new.self, c.takes_close.ensures.taken done, refl))

pub returns-clause-spans : goal.returns-clause-spans
returns-clause-spans c = c.more.invariant.spans
