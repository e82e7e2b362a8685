-- What is known of a source text that is refused.
use Rattle.std.specs.Prelude.{◌≢◌, ◌≤◌, ◌<◌, ℕ, List, Err, length}
use Rattle.sect_front.specs.{Front.{IsSpelled, IsFault}, FaultPlaces.{IsFaultSpan, IsWithin, AreKindsFor}}
use Rattle.sect_front.specs.declared.parsing.PlacedFault.{PlacedFault}
use Rattle.sect_names.specs.Sources.{IsTypedText, of_front, of_types, of_scheme}
use Rattle.sect_names.specs.declared.refusal.SourceRefusal.{SourceRefusal}
use Rattle.sect_names.specs.declared.source.Refused.{Refused}
use Rattle.sect_front.specs.declared.parsing.FrontFault.TheVariants as front
use Rattle.sect_types.specs.First as types
use Rattle.sect_names.specs.declared.fault.SchemeFault.TheVariants as scheme_fault
use Rattle.sect_names.specs.Verdicts as schemes
use Rattle.sect_names.specs.declared.refusal.SourceRefusal.TheVariants as refusal
use Rattle.sect_names.specs.declared.source.Refused.TheVariants as refused

-- the refusal alone
abbrev pub reason_of : Refused → SourceRefusal
reason_of refused.BadK = refusal.Scheme scheme_fault.BadK
reason_of (refused.Front placed) = of_front placed.fault
reason_of (refused.Types mistyped) = of_types mistyped.fault
reason_of (refused.Hints unguarded) = of_scheme unguarded.fault

-- the text's first fault, with the bytes at which it stands and the kinds of tokens that may stand there
pub record IsPlaced (bytes : List ℕ) (placed : PlacedFault) : Type 0 where
  pub fault : IsFault bytes placed.fault
  pub span : IsFaultSpan bytes placed.fault placed.span
  pub within : placed.fault ≢ front.Memory → IsWithin (length bytes) placed.span
  pub expected : AreKindsFor bytes placed.fault placed.span placed.expected.items

-- the refusal is the first that is due, and the tree or the program is the text's
abbrev pub IsKnown : List ℕ → ℕ → Refused → Type 0
IsKnown bytes k refused.BadK = 3 < k
IsKnown bytes k (refused.Front placed) = (k ≤ 3) × IsPlaced bytes placed
IsKnown bytes k (refused.Types m) = (k ≤ 3) × IsSpelled bytes m.tree × types.Judges {A = ℕ} m.tree (Err m.fault)
IsKnown bytes k (refused.Hints u) =
    (k ≤ 3) × IsTypedText bytes u.program × schemes.Judges u.program k (Err u.fault)
