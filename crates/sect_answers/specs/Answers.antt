-- What the command `locks` answers to a source text. `locks` cites it.
use Rattle.std.specs.Prelude.{◌≢◌, ◌≤◌, ℕ, List}
use Rattle.sect_names.specs.{Schemes.{SchemeView}, Sources.{IsAccepted}}
use Rattle.sect_answers.specs.{declared.format.Format.{Format}, declared.refusal.Refusal.{Refusal}}
use Rattle.sect_answers.specs.Listing.{AreSetsPrinted}
use Rattle.sect_names.specs.Sources as sources
use Rattle.sect_names.specs.declared.refusal.SourceRefusal as source
use Rattle.sect_names.specs.declared.refusal.SourceRefusal.TheVariants as source_refusal
use Rattle.sect_answers.specs.declared.refusal.Refusal.TheVariants as refusal

-- the text is accepted, and these are the lines of all its sections, or their document, with the least set of each
pub record IsAnswer (bytes : List ℕ) (k : ℕ) (format : Format) (text : List ℕ) : Type 0 where
  pub s : SchemeView
  pub accepted : IsAccepted bytes k s
  pub printed : AreSetsPrinted s format text

-- a refusal of the source is the program's; want of memory is never inside another
abbrev pub of_source : source.SourceRefusal → Refusal
of_source source_refusal.Memory = refusal.Memory
of_source why = refusal.Source why

-- the refusal is due: k is judged first, then the text, and then its hints
abbrev pub IsDue : List ℕ → ℕ → Refusal → Type 0
IsDue bytes k refusal.Memory = k ≤ 3
IsDue bytes k (refusal.Source why) = (why ≢ source_refusal.Memory) × sources.IsDue bytes k why
IsDue bytes k (refusal.Report text) = ⊥
IsDue bytes k (refusal.Section i) = ⊥
IsDue bytes k (refusal.Workers why) = ⊥
IsDue bytes k (refusal.Serial why) = ⊥
IsDue bytes k (refusal.Check why) = ⊥
IsDue bytes k (refusal.Schedule why) = ⊥
IsDue bytes k (refusal.Outcomes why) = ⊥
