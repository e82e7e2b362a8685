-- What the command `check` answers to a certificate and the source text behind it. `verdict` cites it.
use Rattle.std.specs.Prelude.{◌≢◌, ◌≤◌, ℕ, ⊤, List, Err}
use Rattle.sect_check.specs.{Valid.{IsValid}, Verdicts.{IsRead, Judges}, declared.fault.CheckFault.{CheckFault}}
use Rattle.sect_answers.specs.{declared.refusal.Refusal.{Refusal}, Splitting.{IsSplit}}
use Rattle.sect_check.specs.declared.fault.CheckFault.TheVariants as fault
use Rattle.sect_answers.specs.declared.refusal.Refusal.TheVariants as refusal

-- the input is a certificate and the source behind it, of which so holds
pub record OfParts (input : List ℕ) (P : List ℕ → List ℕ → Type 0) : Type 0 where
  pub cert : List ℕ
  pub source : List ℕ
  pub split : IsSplit input cert source
  pub holds : P cert source

-- the certificate of the input is valid for its source
abbrev pub IsValidInput : List ℕ → ℕ → Type 0
IsValidInput input k = OfParts input (λ cert source. IsRead source k cert IsValid)

-- a fault of a certificate is the program's refusal; want of memory is never inside another
abbrev pub of_check : CheckFault → Refusal
of_check fault.Memory = refusal.Memory
of_check why = refusal.Check why

-- the refusal is due: it is the first fault of the input's certificate, where its source is judged first
abbrev pub IsCheckDue : List ℕ → ℕ → Refusal → Type 0
IsCheckDue input k refusal.Memory = k ≤ 3
IsCheckDue input k (refusal.Check why) =
    (why ≢ fault.Memory) × OfParts input (λ cert source. Judges {A = ⊤} source k cert (Err why))
IsCheckDue input k (refusal.Source why) = ⊥
IsCheckDue input k (refusal.Report text) = ⊥
IsCheckDue input k (refusal.Section i) = ⊥
IsCheckDue input k (refusal.Workers why) = ⊥
IsCheckDue input k (refusal.Serial why) = ⊥
IsCheckDue input k (refusal.Schedule why) = ⊥
IsCheckDue input k (refusal.Outcomes why) = ⊥
