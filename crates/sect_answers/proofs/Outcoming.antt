-- Outcomes that are printed one after another.
use Rattle.std.proofs.Common.{◌≡◌, ◌≤◌, ◌++◌, ◌∷◌, ◌+◌, ◌∙◌, refl, ap, subst, ℕ, List, Some, drop, suc, arith}
use Rattle.std.proofs.{Math.Seq.{drop-cons}, lemmas.Option.{slice_get_within, get_or_from_slice_get}}
use Rattle.std.specs.Prelude.{slice_get}
use Rattle.sect_types.specs.{Programs.{ProgramView}, Whole.{SerialEndView}}
use Rattle.sect_store.specs.Printing.{by_place}
use Rattle.sect_serial.specs.Exploring.{Found, AreOutcomes, HasStates, IsUnlisted}
use Rattle.sect_serial.specs.declared.exploring.OutcomesFault.{OutcomesFault}
use Rattle.sect_serial.proofs.shared.Counting.{no_more}
use Rattle.sect_emit.specs.Compiled.{CompiledView, program_of}
use Rattle.sect_world.specs.{Laws.{EveryRunIsSerial, EveryOrderIsRun}, Runs.{order_of}}
use Rattle.sect_answers.specs.Outcomes.{one_text, of_outcomes, AreEndsOfRuns}
use Rattle.sect_serial.specs.declared.exploring.OutcomesFault.TheVariants as fault
use Rattle.sect_answers.specs.declared.refusal.Refusal.TheVariants as refusal

-- the outcome at a place is printed, and then those behind it
pub outcome_next : (p : ProgramView) (found : Found) (n : ℕ) (x : SerialEndView × List ℕ) → slice_get found n ≡ Some x
    → by_place (one_text p) n (drop n found) ≡ one_text p n x ++ by_place (one_text p) (n + 1) (drop (n + 1) found)
outcome_next p found n x at =
    ap (by_place (one_text p) n) (drop-cons found n x (slice_get_within found n x at)
    ∙ (ap (λ y. y ∷ drop (suc n) found) (get_or_from_slice_get found n x x at)
    ∙ ap (λ k. x ∷ drop k found) (let e : suc n ≡ n + 1 = omega arith in e)))

-- what whole sections come to is what complete runs come to
pub ends_of_runs : (c : CompiledView) (p : ProgramView) (fuel : ℕ) (found : Found) → EveryRunIsSerial c
    → EveryOrderIsRun c → p ≡ program_of c → AreOutcomes p fuel found → AreEndsOfRuns c fuel found
ends_of_runs c p fuel found serial ordered same outcomes =
    let all = subst (λ q. AreOutcomes q fuel found) same outcomes in
    record {
      right = λ x h. ordered fuel x.1 x.0 (all.right x h);
      complete = λ trace s e run whole. all.complete (order_of trace) e (serial fuel trace s e run whole);
    }

-- where there aren't more states than that, none are listed for want of memory alone
pub listed_gives : (p : ProgramView) (fuel n most : ℕ) (why : OutcomesFault) → HasStates p fuel n → n ≤ most
    → IsUnlisted p fuel most why → of_outcomes why ≡ refusal.Memory
listed_gives p fuel n most fault.Memory all few unlisted = refl
listed_gives p fuel n most fault.TooManyStates all few unlisted = absurd (no_more p fuel n most all few unlisted)
