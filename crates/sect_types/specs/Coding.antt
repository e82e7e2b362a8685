-- Texts as trees of numbers, by which a proof tells them apart: the checker wants it of a type that contracts see as
-- such data.
use Rattle.std.specs.{Prelude.{◌≡◌, refl}, Coded.{Coded}}
use Rattle.std.proofs.Common.{ap, arith}
use base.Stored.{Gv, gnil, gnum, gcons}
use Rattle.sect_front.specs.Coding.{head, tail, number}
use Rattle.sect_types.specs.Statements.{TextView, Stop, Do, Choose, Loop, Section}
use Rattle.sect_types.specs.contracts.expansion.action.Action.{the_row as action_row}
use Rattle.sect_types.specs.contracts.expansion.action.Condition.{the_row as condition_row}

-- a tree of numbers for each, by which a proof tells them apart
abbrev stored : TextView → Gv
stored Stop = gcons (gnum 0) gnil
stored (Do a r) = gcons (gnum 1) (gcons (action_row.coded.code a) (stored r))
stored (Choose t p q r) = gcons (gnum 2)
    (gcons (condition_row.coded.code t) (gcons (stored p) (gcons (stored q) (stored r))))
stored (Loop t p r) = gcons (gnum 3) (gcons (condition_row.coded.code t) (gcons (stored p) (stored r)))
stored (Section i p r) = gcons (gnum 4) (gcons (gnum i) (gcons (stored p) (stored r)))

same_statements : (a b : TextView) → stored a ≡ stored b → a ≡ b
same_statements Stop Stop e = refl
same_statements (Do a r) (Do b s) e =
    λ i. Do (action_row.coded.inj a b (ap (λ g. head (tail g)) e) i) (same_statements r s (ap (λ g. tail (tail g)) e) i)
same_statements (Choose t p q r) (Choose u v w s) e =
    λ i. Choose (condition_row.coded.inj t u (ap (λ g. head (tail g)) e) i)
    (same_statements p v (ap (λ g. head (tail (tail g))) e) i)
    (same_statements q w (ap (λ g. head (tail (tail (tail g)))) e) i)
    (same_statements r s (ap (λ g. tail (tail (tail (tail g)))) e) i)
same_statements (Loop t p r) (Loop u q s) e =
    λ i. Loop (condition_row.coded.inj t u (ap (λ g. head (tail g)) e) i)
    (same_statements p q (ap (λ g. head (tail (tail g))) e) i)
    (same_statements r s (ap (λ g. tail (tail (tail g))) e) i)
same_statements (Section m p r) (Section n q s) e =
    λ i. Section (ap (λ g. number (head (tail g))) e i) (same_statements p q (ap (λ g. head (tail (tail g))) e) i)
    (same_statements r s (ap (λ g. tail (tail (tail g))) e) i)
same_statements _ _ e = absurd (omega (arith, ap (λ g. number (head g)) e))

pub statements_code : Coded TextView
statements_code = record { code = stored; inj = same_statements }
