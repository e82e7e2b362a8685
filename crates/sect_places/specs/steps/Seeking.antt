-- Which range has a number among ranges, each list given before that of what follows.
use Rattle.std.specs.Prelude.{◌≡◌, ℕ, ◌+◌, ◌*◌, List, Some, length, slice_get}
use Rattle.sect_front.specs.{declared.tree.Record.{Record}, declared.tree.GlobalObject.{GlobalObject}}
use Rattle.sect_front.specs.{declared.tree.Procedure.{Procedure}, declared.tree.Thread.{Thread}}
use Rattle.sect_places.specs.declared.range.TokenRange.{TokenRange}
use Rattle.sect_places.specs.Counts.{records_count, procedures_count, threads_count}
use Rattle.sect_places.specs.Ranges.{records_ranges, globals_ranges, procedures_ranges, threads_ranges}

-- this one has the number
abbrev pub IsFound : ℕ → (List TokenRange → List TokenRange) → TokenRange → Type 0
IsFound number more r = (w : List TokenRange) → slice_get (more w) number ≡ Some r

-- none of them has it: what has it is that of this number in what follows
abbrev pub IsBehind : ℕ → (List TokenRange → List TokenRange) → ℕ → Type 0
IsBehind number more left = (w : List TokenRange) → slice_get (more w) number ≡ slice_get w left

-- those of all parts of a tree, and how many tokens they have
abbrev pub parts_ranges : List Record → List GlobalObject → List Procedure → List Thread → List TokenRange
    → List TokenRange
parts_ranges rs gs ps ts w =
    records_ranges 0 rs
    (globals_ranges (0 + records_count rs) gs
    (procedures_ranges (0 + records_count rs + 4 * length gs) ps
    (threads_ranges (0 + records_count rs + 4 * length gs + procedures_count ps) ts w)))

abbrev pub parts_count : List Record → List GlobalObject → List Procedure → List Thread → ℕ
parts_count rs gs ps ts = 0 + records_count rs + 4 * length gs + procedures_count ps + threads_count ts
