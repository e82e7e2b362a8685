use Rattle.std.proofs.Common.{◌≡◌, ◌<◌, [], ◌∷◌, Some, length, refl, sym, ◌∙◌, ap, subst, arith}
use Rattle.std.proofs.Common.{append-nil}
use Rattle.std.proofs.{lemmas.Bool.Decides.{nat_tests}, lemmas.List.{nil_from_length}}
use Rattle.sect_lemmas.proofs.Results.{given}
use Rattle.sect_front.specs.{Tokens.{source_tokens}, steps.Places.{after}, steps.Passing.{ArePassed}}
use Rattle.sect_front.specs.steps.Declaring.{StopsText, FitsPart}
use Rattle.sect_front.proofs.{Leading.{after_then}, Sources.{source_behind}, SourceSpans.{part_spans}}
use Rattle.sect_front.proofs.Stopping.{passed_append, are_shorter}
use Rattle.sect_front.specs.declared.expected.Expected.TheVariants as expected
use Rattle.sect_front.proofs.cursor.Cursor.program.Goals as goal

pub read-init : goal.read-init
read-init c = record {
  are = subst (λ s. ArePassed c.args.self.now (source_tokens s []) c.args.self.now) (sym c.new-source.ensures) refl;
  next = subst (λ s. after (expected.Records ∷ []) (source_tokens s []) ≡ Some (expected.Records ∷ []))
      (sym c.new-source.ensures) refl;
  fits = subst (FitsPart expected.Records) (sym c.new-source.ensures) (refl, refl, refl);
  spans = rw c.new-source.ensures (ap (λ x. record { total = c.args.spans.now.total; items = x })
      (sym (append-nil c.args.spans.now.items)));
}

pub declaration-requires : goal.declaration-requires
declaration-requires c = c.read.invariant.fits

pub returns-in_err-part-clause-err : goal.returns-in_err-part-clause-err
returns-in_err-part-clause-err c =
    let some : 0 < length c.read.self.here = grind (arith, nat_tests) in
    given c.from_residual.result (λ s. StopsText s c.args.self.now c.declaration.new.self) c.in_err-part.field-0.0
    (record {
      tokens = source_tokens c.read.source [];
      mid = c.read.self;
      are = c.read.invariant.are;
      part = c.read.part;
      next = c.read.invariant.next;
      more = λ e. absurd (omega (arith, some, ap length e));
      halts = c.in_err-part.ensures.err;
    }) c.from_residual.ensures.1

pub read-smaller : goal.read-smaller
read-smaller c =
    let h = c.in_ok-part.ensures.ok.read in are_shorter c.read.self h.first h.tokens c.declaration.new.self h.are

pub read-preserved : goal.read-preserved
read-preserved c =
    let h = c.in_ok-part.ensures.ok.read in
    let s = c.read.source in
    record {
      are = subst (λ ts. ArePassed c.args.self.now ts c.declaration.new.self)
          (source_behind s (h.first ∷ h.tokens) ∙ sym h.spelled)
          (passed_append c.args.self.now (source_tokens s []) (h.first ∷ h.tokens) c.read.self c.declaration.new.self
          c.read.invariant.are h.are);
      next = ap (after (expected.Records ∷ [])) (h.spelled ∙ sym (source_behind s (h.first ∷ h.tokens)))
          ∙ (after_then (expected.Records ∷ []) (c.read.part ∷ []) (source_tokens s []) (h.first ∷ h.tokens)
          c.read.invariant.next ∙ h.next);
      fits = h.fits;
      spans = part_spans c.args.spans.now c.read.part c.in_ok-part.part c.args.self.now c.read.self
          c.declaration.new.self s c.declaration.new.source c.read.invariant.are c.read.invariant.spans
          c.in_ok-part.ensures.ok;
    }

pub returns-clause-ok : goal.returns-clause-ok
returns-clause-ok c = c.read.invariant.are

pub returns-clause-end : goal.returns-clause-end
returns-clause-end c =
    let left : length c.read.self.here ≡ 0 = grind (arith, nat_tests) in nil_from_length _ left

pub returns-clause-spans : goal.returns-clause-spans
returns-clause-spans c = c.read.invariant.spans
