-- How the names of a tree are those of its parts, and those of its tokens.
use Rattle.std.proofs.Common.{ℕ, List}
use Rattle.sect_front.specs.{Trees.{block_of}, declared.tree.Statement.{Statement}}
use Rattle.sect_places.specs.{declared.name_use.NameUse.{NameUse}, NameUses.{block_uses}}

abbrev pub all_uses : ℕ → ℕ → List Statement → List NameUse → List NameUse
all_uses m n ss w = block_uses m n (block_of ss) w
