-- What was found.
use Rattle.std.specs.Prelude.{ℕ, ◌<◌, Option, Some, None}
use Rattle.sect_types.specs.{declared.counting.section.Section.{Section}, Sections.{SectionView, section_shown}}
use Rattle.sect_types.specs.declared.expansion.text.Step.{Step}
use Rattle.sect_types.specs.declared.expansion.text.Step.TheVariants as step

abbrev pub section_in : Option Section → Option SectionView
section_in None = None
section_in (Some s) = Some (section_shown s)

-- a section whose number is smaller
abbrev pub IsSectionBelow : ℕ → Step → Type 0
IsSectionBelow n (step.Section own body) = own < n
IsSectionBelow n _ = ⊥
