use Rattle.std.proofs.{Common.{◌-◌, ◌++◌, length, arith, sym, ◌∙◌, ap, ◌<◌, ◌≡◌}, lemmas.Bool.Decides.{nat_tests}}
use Rattle.std.proofs.lemmas.List.{nil_from_length}
use Rattle.sect_front.proofs.{Lexemes.{lexeme_first}, Reach.{bad_at, lexed}}
use Rattle.sect_front.proofs.Texts.{leads_nowhere, leads_more, shorter}
use Rattle.sect_front.proofs.reading.bad_from.Goals as goal

pub loop-here-init : goal.loop-here-init
loop-here-init c = leads_nowhere c.args.bytes.now c.args.here.now c.requires

pub overflow_sub-at : goal.overflow_sub-at
overflow_sub-at c = c.loop-here.invariant.fits

pub returns-in_default : goal.returns-in_default
returns-in_default c = λ before h.
    let some : 0 < length c.loop-here.here.now = grind (arith, nat_tests) in
    let led = c.loop-here.invariant.leads before h in
    bad_at c.args.bytes.now (before ++ led.0) c.loop-here.here.now
    (length c.args.bytes.now - length c.loop-here.here.now) led.1
    (λ e. absurd (omega (arith, ap length e, some))) (sym c.lexeme.ensures ∙ c.in_default.is)
    (omega (arith, c.loop-here.invariant.fits))

pub behind-here-requires : goal.behind-here-requires
behind-here-requires c =
    (lexeme_first c.loop-here.here.now _ c.in-Some.length (sym c.lexeme.ensures ∙ c.in-Some.is)).within

pub loop-here-smaller : goal.loop-here-smaller
loop-here-smaller c = rw c.behind-here.ensures
    (shorter c.loop-here.here.now _ c.in-Some.length (sym c.lexeme.ensures ∙ c.in-Some.is))

pub loop-here-preserved : goal.loop-here-preserved
loop-here-preserved c = rw c.behind-here.ensures
    (leads_more c.args.bytes.now c.args.here.now c.loop-here.here.now _ c.in-Some.length c.loop-here.invariant
    (sym c.lexeme.ensures ∙ c.in-Some.is))

pub returns : goal.returns
returns c = λ before h.
    let led = c.loop-here.invariant.leads before h in
    let left : length c.loop-here.here.now ≡ 0 = grind (arith, nat_tests) in
    (led.0, lexed c.args.bytes.now (before ++ led.0) c.loop-here.here.now led.1 (nil_from_length _ left))
