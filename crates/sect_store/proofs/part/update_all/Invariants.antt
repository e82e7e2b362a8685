use Rattle.std.proofs.Common.{◌≡◌, ◌++◌, map, take, drop}
use Rattle.sect_store.specs.Parts.{updated}
use Rattle.sect_store.proofs.part.update_all.Given as goal

abbrev pub invariant-loop-cell : goal.invariant-loop-cell
invariant-loop-cell l = l.cell-items ≡ map (updated l.name l.field l.datum) (take l.cell-index l.fn.cells.items)
    ++ drop l.cell-index l.fn.cells.items
