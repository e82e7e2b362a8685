use Rattle.std.proofs.{Common.{◌≡◌, ◌<◌, ◌-◌, length, arith, sym, ◌∙◌, ap, subst}, lemmas.Bool.Decides.{nat_tests}}
use Rattle.std.specs.Prelude.{slice_get, IfSome}
use Rattle.sect_front.proofs.{Lexemes.{lexeme_first}, Reach.{reached_rest, bad_at}, Texts.{shorter}}
use Rattle.sect_front.proofs.OpenBraces.{open_first, open_next, open_last, last_below}
use Rattle.sect_front.proofs.shared.{Rests.{rest_more}, Lexings.{bad_or_lexed}}
use Rattle.sect_front.proofs.innermost.innermost_brace.Goals as goal

pub loop-here-init : goal.loop-here-init
loop-here-init c = rw (c.after_gap-here.ensures, c.new-braces.ensures.items) (open_first c.args.text.bytes.now)

pub overflow_sub-at : goal.overflow_sub-at
overflow_sub-at c = c.loop-here.invariant.reached.fits

pub returns-in_default-clause-brace : goal.returns-in_default-clause-brace
returns-in_default-clause-brace c = λ places spells.
    let some : 0 < length c.loop-here.here.now = grind (arith, nat_tests) in
    let read = c.loop-here.invariant in
    absurd (bad_or_lexed c.args.text.bytes.now (length c.args.text.bytes.now - length c.loop-here.here.now) places
    (bad_at c.args.text.bytes.now read.places c.loop-here.here.now
    (length c.args.text.bytes.now - length c.loop-here.here.now) read.reached
    (λ e. absurd (omega (arith, ap length e, some))) (sym c.lexeme.ensures ∙ c.in_default.is)
    (omega (arith, read.reached.fits))) spells)

pub after_gap-here-requires-in-loop-here-clause-rest : goal.after_gap-here-requires-in-loop-here-clause-rest
after_gap-here-requires-in-loop-here-clause-rest c =
    let bytes = c.args.text.bytes.now in
    let here = c.loop-here.here.now in
    let read = c.loop-here.invariant in
    rw c.split_at.ensures.back
    (rest_more bytes here c.in-Some.length (reached_rest bytes read.places here read.reached))

pub split_at-requires : goal.split_at-requires
split_at-requires c =
    (lexeme_first c.loop-here.here.now _ c.in-Some.length (sym c.lexeme.ensures ∙ c.in-Some.is)).within

pub loop-here-smaller : goal.loop-here-smaller
loop-here-smaller c = rw (c.after_gap-here-in-loop-here.ensures, c.split_at.ensures.back)
    (shorter c.loop-here.here.now _ c.in-Some.length (sym c.lexeme.ensures ∙ c.in-Some.is))

pub loop-here-preserved : goal.loop-here-preserved
loop-here-preserved c =
    let some : 0 < length c.loop-here.here.now = grind (arith, nat_tests) in
    rw (c.after_gap-here-in-loop-here.ensures, c.split_at.ensures.back)
    (open_next c.args.text.bytes.now c.loop-here.here.now c.loop-here.braces.items _ c.in-Some.token c.in-Some.length
    c.loop-here.invariant (sym c.lexeme.ensures ∙ c.in-Some.is) c.in_ok-pass_token.ensures.open
    (c.in_ok-pass_token.ensures.below (length c.args.text.bytes.now)
    (omega (arith, some, c.loop-here.invariant.reached.fits)) c.loop-here.invariant.below))

pub returns-clause-brace : goal.returns-clause-brace
returns-clause-brace c = λ places spells.
    let left : length c.loop-here.here.now ≡ 0 = grind (arith, nat_tests) in
    let are = open_last c.args.text.bytes.now c.loop-here.here.now c.loop-here.braces.items c.loop-here.invariant left
    places spells in
    c.copied.ensures ∙ (c.last.ensures.value
    ∙ ap (λ braces. slice_get braces (length braces - 1)) (c.deref.ensures.value ∙ are))

pub returns-clause-within : goal.returns-clause-within
returns-clause-within c =
    subst (λ o. IfSome o (λ at. at < length c.args.text.bytes.now))
    (sym (c.copied.ensures ∙ (c.last.ensures.value
    ∙ ap (λ braces. slice_get braces (length braces - 1)) c.deref.ensures.value)))
    (last_below (length c.args.text.bytes.now) c.loop-here.braces.items c.loop-here.invariant.below)
