-- Which source texts are accepted, and which refusal is due for the others. `accept` says so of a text.
use Rattle.std.specs.Prelude.{◌≡◌, ◌≢◌, ◌≤◌, ◌<◌, ◌⊎◌, ℕ, ⊤, List, Result, Ok, Err}
use Rattle.sect_front.specs.{TreeView.{TreeView}, Front.{IsSpelled, IsFault}, declared.parsing.FrontFault.{FrontFault}}
use Rattle.sect_types.specs.{First.{IsTyped}, Programs.{ProgramView, IsOfTree}}
use Rattle.sect_types.specs.declared.rules.rule.TypeFault.{TypeFault}
use Rattle.sect_hints.specs.Hints.{ObeysHints}
use Rattle.sect_names.specs.{declared.fault.SchemeFault.{SchemeFault}, Schemes.{SchemeView, IsScheme}}
use Rattle.sect_names.specs.declared.refusal.SourceRefusal.{SourceRefusal}
use Rattle.sect_front.specs.declared.parsing.FrontFault.TheVariants as front
use Rattle.sect_types.specs.First as types
use Rattle.sect_types.specs.declared.rules.rule.TypeFault.TheVariants as type_fault
use Rattle.sect_names.specs.declared.fault.SchemeFault.TheVariants as scheme_fault
use Rattle.sect_names.specs.Verdicts as schemes
use Rattle.sect_names.specs.declared.refusal.SourceRefusal.TheVariants as refusal

-- the text spells a typed tree, and this is its program
pub record IsTypedText (bytes : List ℕ) (p : ProgramView) : Type 0 where
  pub spelled : IsSpelled bytes p.source
  pub typed : IsTyped p.source
  pub numbers : IsOfTree p

-- the text is accepted, with this scheme for paths of at most k fields
pub record IsAccepted (bytes : List ℕ) (k : ℕ) (s : SchemeView) : Type 0 where
  pub text : IsTypedText bytes s.program
  pub hints : ObeysHints s.program
  pub most : s.most ≡ k
  pub scheme : IsScheme s

-- a fault of a layer is the program's refusal; want of memory is never inside another
abbrev pub of_front : FrontFault → SourceRefusal
of_front front.Memory = refusal.Memory
of_front fault = refusal.Front fault

abbrev pub of_types : TypeFault → SourceRefusal
of_types type_fault.Memory = refusal.Memory
of_types fault = refusal.Types fault

abbrev pub of_scheme : SchemeFault → SourceRefusal
of_scheme scheme_fault.Memory = refusal.Memory
of_scheme fault = refusal.Scheme fault

-- the text is refused so: it spells no tree, or a rule on types is broken
abbrev pub IsRefused : List ℕ → SourceRefusal → Type 0
IsRefused bytes refusal.Memory = ⊤
IsRefused bytes (refusal.Front fault) = (fault ≢ front.Memory) × IsFault bytes fault
IsRefused bytes (refusal.Types fault) = (fault ≢ type_fault.Memory)
    × ((t : TreeView) × IsSpelled bytes t × types.Judges {A = ℕ} t (Err fault))
IsRefused bytes (refusal.Scheme fault) = ⊥

-- this program is given, unless memory ran out
abbrev pub GivesProgram : ProgramView → Result ProgramView SourceRefusal → Type 0
GivesProgram p (Ok given) = given ≡ p
GivesProgram p (Err r) = r ≡ refusal.Memory

-- the refusal is due: k is judged first, then the text, and then its hints
abbrev pub IsDue : List ℕ → ℕ → SourceRefusal → Type 0
IsDue bytes k (refusal.Scheme fault) =
    (fault ≢ scheme_fault.Memory) × (((fault ≡ scheme_fault.BadK) × (3 < k))
    ⊎ ((p : ProgramView) × IsTypedText bytes p × schemes.Judges p k (Err fault)))
IsDue bytes k r = (k ≤ 3) × IsRefused bytes r
