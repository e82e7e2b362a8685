-- A chain of `?`: each rule passes its tokens, and the first that can't stops the whole.
use Rattle.std.proofs.Common.{◌≡◌, ℕ, List, [], ◌∷◌, ◌++◌, Some, Result, IfOk, IfErr, IsErrAnd, true}
use Rattle.std.proofs.Common.{refl, ◌∙◌, ap, subst}
use Rattle.std.proofs.lemmas.Result.{IfOk-weaker, IfErr-weaker}
use Rattle.sect_lemmas.proofs.Results.{given}
use Rattle.sect_front.specs.{declared.token.Token.{Token}, declared.expected.Expected.{Expected}}
use Rattle.sect_front.specs.{Grammar.{operand_token}, declared.tree.Operand.{Operand}, Braces.{brace}}
use Rattle.sect_front.specs.{declared.cursor.Stop.{Stop}, Syntax.{BlockView}}
use Rattle.sect_front.specs.steps.Places.{follows, takes, after}
use Rattle.sect_front.specs.steps.Passing.{CursorView, Stands, StandsBefore, Passes, ArePassed, IsAbsent, IsRefused}
use Rattle.sect_front.specs.steps.Passing.{Stops}
use Rattle.sect_front.specs.steps.Passing.{IsReached, StopsAtBrace, StopsIn, HasAdded}
use Rattle.sect_front.specs.steps.Declaring.{Halts}
use Rattle.sect_front.proofs.Stopping.{stops_after, stops_here, stops_more, stops_at_brace}
use Rattle.sect_front.proofs.Stopping.{passed_append, passed_calm, added_behind}
use Rattle.sect_front.proofs.Leading.{after_then, operand_after}
use Rattle.sect_front.specs.declared.token.Token.TheVariants as token
use Rattle.sect_front.specs.declared.expected.Expected.TheVariants as expected
use Rattle.sect_front.specs.declared.cursor.Stop.TheVariants as stop

-- 1. What is passed before.

-- tokens are passed that lead from these places to those
pub record Led (ps : List Expected) (here : CursorView) (qs : List Expected) (there : CursorView) : Type 0 where
  pub tokens : List Token
  pub are : ArePassed here tokens there
  pub next : after ps tokens ≡ Some qs

-- no token
pub none : {ps : List Expected} {here : CursorView} → Led ps here ps here
none = record { tokens = []; are = refl; next = refl }

-- the tokens of a rule, and then more
pub rule : {ps qs rs : List Expected} {here mid there : CursorView} (ts : List Token) → ArePassed here ts mid
    → after ps ts ≡ Some qs → Led qs mid rs there → Led ps here rs there
rule {ps = ps} {qs = qs} {here = here} {mid = mid} {there = there} ts are next led = record {
  tokens = ts ++ led.tokens;
  are = passed_append here ts led.tokens mid there are led.are;
  next = after_then ps qs ts led.tokens next ∙ led.next;
}

-- a token, and then more
pub one : {e : Expected} {t : Token} {bs ps qs : List Expected} {here mid there : CursorView} → Passes here t mid
    → follows e t ≡ Some bs → Led (bs ++ ps) mid qs there → Led (e ∷ ps) here qs there
one {t = t} {mid = mid} passes k led = rule (t ∷ []) (mid, passes, refl) (rw k refl) led

-- an operand, and then more
pub operand : {ps qs : List Expected} {here mid there : CursorView} (v : Operand) → Passes here (operand_token v) mid
    → Led ps mid qs there → Led (expected.Operand ∷ ps) here qs there
operand {ps = ps} {mid = mid} v passes led =
    rule (operand_token v ∷ []) (mid, passes, refl) (operand_after v ps []) led

-- a token other than a brace that stands here is passed
pub passed : (here : CursorView) {there : CursorView} {rest : List ℕ} {left : ℕ} {t u : Token}
    → StandsBefore here.here u rest left → u ≡ t → ((k : ℕ) → brace k t ≡ k)
    → there ≡ record { here = rest; braces = here.braces; last = left; end = here.last } → Passes here t there
passed here {there = there} {rest = rest} {left = left} {t = t} stands is calm same =
    passed_calm t here there calm (rw same (subst (λ x. StandsBefore here.here x rest left) is stands))
    (ap (λ x. x.braces) same) (ap (λ x. x.end) same)

-- 2. Where it stops.

-- no token stands behind them that may
pub stops : {ps qs : List Expected} {e : Expected} {here mid there : CursorView} → Led ps here (e ∷ qs) mid
    → there ≡ mid → IsRefused e mid → IsReached ps e here there × IsRefused e there
stops {ps = ps} {qs = qs} {e = e} {here = here} {mid = mid} {there = there} led same refused =
    stops_after (stop.At e) ps (e ∷ qs) led.tokens here mid there led.are led.next
    (stops_here (stop.At e) e qs mid there (refl, same, refused))

-- a rule behind them stops
pub fails_in : {T : Type 0} {ps qs : List Expected} {here mid : CursorView} (r : Result T Stop) (s : Stop)
    (there : CursorView) → Led ps here qs mid → StopsIn s qs mid there → IsErrAnd r (λ x. x ≡ s) → IfErr r
    (λ x. StopsIn x ps here there)
fails_in {ps = ps} {qs = qs} {here = here} {mid = mid} r s there led h is =
    given r (λ x. StopsIn x ps here there) s (stops_after s ps qs led.tokens here mid there led.are led.next h) is

-- at once
pub fails : {T : Type 0} {ps qs : List Expected} {e : Expected} {here mid there : CursorView} {s : Stop}
    (r : Result T Stop) → Led ps here (e ∷ qs) mid → Stops s e mid there → IsErrAnd r (λ x. x ≡ s)
    → IfErr r (λ x. StopsIn x ps here there)
fails {qs = qs} {e = e} {mid = mid} {there = there} {s = s} r led h is =
    fails_in r s there led (stops_here s e qs mid there h) is

-- before the last of the places
pub fails_part : {T : Type 0} {ps : List Expected} {here mid : CursorView} (r : Result T Stop) (s : Stop)
    (there : CursorView) (qs rest : List Expected) → Led ps here (qs ++ rest) mid → StopsIn s qs mid there → IsErrAnd r
    (λ x. x ≡ s)
    → IfErr r (λ x. StopsIn x ps here there)
fails_part {mid = mid} r s there qs rest led h is =
    fails_in r s there led (stops_more s qs rest mid there h) is

-- where a brace has to stand
pub fails_at_brace : {T : Type 0} {ps qs : List Expected} {e : Expected} {here mid : CursorView} (r : Result T Stop)
    (s : Stop) (there : CursorView) → Led ps here (e ∷ qs) mid → StopsAtBrace s e mid there
    → (IsAbsent token.OpenBrace mid → IsRefused e mid)
    → ((rest : List ℕ) → Stands mid.here token.OpenBrace rest → takes e token.OpenBrace ≡ true)
    → IsErrAnd r (λ x. x ≡ s) → IfErr r (λ x. StopsIn x ps here there)
fails_at_brace {qs = qs} {e = e} {mid = mid} r s there led h refused may is =
    fails_in r s there led (stops_at_brace s e qs mid there h refused may) is

-- 3. A rule that reads what is left.

pub stops_so : {T : Type 0} {ps qs : List Expected} {here mid : CursorView} (r : Result T Stop) (there : CursorView)
    → Led ps here qs mid → IfErr r (λ s. StopsIn s qs mid there) → IfErr r (λ s. StopsIn s ps here there)
stops_so {ps = ps} {qs = qs} {here = here} {mid = mid} r there led h =
    IfErr-weaker r (λ s. StopsIn s qs mid there) (λ s. StopsIn s ps here there)
    (λ s h. stops_after s ps qs led.tokens here mid there led.are led.next h) h

pub adds_so : {T : Type 0} {here mid : CursorView} {t : Token} (r : Result T Stop) (e : T → Expected)
    (front : List Token) (there : CursorView) (old new : BlockView) → Passes here t mid
    → IfOk r (λ x. HasAdded (e x) (front ++ t ∷ []) mid there old new)
    → IfOk r (λ x. HasAdded (e x) front here there old new)
adds_so {here = here} {mid = mid} {t = t} r e front there old new p h =
    IfOk-weaker r (λ x. HasAdded (e x) (front ++ t ∷ []) mid there old new)
    (λ x. HasAdded (e x) front here there old new)
    (λ x h. added_behind (e x) front t here mid there old new p h) h

-- 4. A declaration.

pub halts : {T : Type 0} {part : Expected} {here there : CursorView} {s : Stop} (r : Result T Stop)
    → Halts s part here there → IsErrAnd r (λ x. x ≡ s) → IfErr r (λ x. Halts x part here there)
halts {part = part} {here = here} {there = there} {s = s} r h is = given r (λ x. Halts x part here there) s h is
