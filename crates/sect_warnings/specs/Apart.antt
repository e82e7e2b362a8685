-- Sections that exclude each other, though they have no field in common.
use Rattle.std.specs.Prelude.{◌≡◌, ℕ, Bool, true, false, if◌then◌else◌, nat_eq, List, [], ◌∷◌, ◌++◌, Option, Some}
use Rattle.std.specs.Prelude.{None, slice_index_or}
use Rattle.sect_front.specs.TreeView.{TreeView}
use Rattle.sect_places.specs.SectionItems.{section_items_of}
use Rattle.sect_modes.specs.declared.key.Key.{Key}
use Rattle.sect_emit.specs.Compiled.{CompiledView}
use Rattle.sect_conflicts.specs.{declared.conflict.SectionPair.{SectionPair}, Comparing.{AreCompared}}
use Rattle.sect_conflicts.specs.Conflicts.{AlwaysClash}
use Rattle.sect_warnings.specs.Fields.{share_field, share_record}
use Rattle.sect_warnings.specs.declared.warning.Finding.TheVariants.{NoCommonField}
use Rattle.sect_warnings.specs.declared.warning.Warning.{Warning}
use Rattle.sect_modes.specs.declared.key.Key.TheVariants as key

-- sections i and j exclude each other in every state, by an object or a class, and not for one that takes all
abbrev pub ExcludeByPart : CompiledView → ℕ → ℕ → Type 0
ExcludeByPart c i j = ((k : Key) × AlwaysClash c i j k) × (AlwaysClash c i j key.All → ⊥)

-- they do so, and use fields of one record, though neither stores to a field that the other uses
abbrev pub AreApart : CompiledView → ℕ → ℕ → Type 0
AreApart c i j =
    AreCompared c i j × ExcludeByPart c i j × (share_record c i j ≡ true) × (share_field c i j ≡ false)

-- what may be told of two sections, at the item that the first of them is
abbrev pub pair_warning : TreeView → SectionPair → Warning
pair_warning t pair = record {
  section = pair.first;
  finding = NoCommonField pair.second;
  item = slice_index_or (section_items_of t) pair.first 0;
}

-- the warning before is of that section
abbrev pub is_of : Option ℕ → ℕ → Bool
is_of None i = false
is_of (Some j) i = nat_eq j i

-- of warnings behind one of that section, if there is one, the first of each section
abbrev pub firsts_behind : Option ℕ → List Warning → List Warning
firsts_behind last [] = []
firsts_behind last (w ∷ ws) =
    (if is_of last w.section then [] else w ∷ []) ++ firsts_behind (Some w.section) ws

abbrev pub firsts : List Warning → List Warning
firsts ws = firsts_behind None ws
