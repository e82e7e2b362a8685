-- Which statements pass a limit where these counts stand before them.
use Rattle.std.specs.Prelude.{Bool, ◌||◌, nat_le}
use Rattle.sect_types.specs.{Limits.{most_statements, most_sites, most_sections}, Rules.{Counts}}
use Rattle.sect_front.specs.declared.tree.Primitive as leaf
use Rattle.sect_front.specs.declared.tree.Primitive.TheVariants as primitive

abbrev pub full_for : Counts → leaf.Primitive → Bool
full_for c (primitive.New x r) = nat_le most_statements c.statements || nat_le most_sites c.sites
full_for c _ = nat_le most_statements c.statements

abbrev pub full_for_section : Counts → Bool
full_for_section c = nat_le most_statements c.statements || nat_le most_sections c.sections
