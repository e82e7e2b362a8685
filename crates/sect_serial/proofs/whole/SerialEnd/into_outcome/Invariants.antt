use Rattle.std.proofs.Common.{◌≡◌, ◌++◌, drop, map, Some}
use Rattle.sect_types.specs.declared.meaning.store.End.{End}
use Rattle.sect_serial.proofs.whole.SerialEnd.into_outcome.Given as goal

abbrev pub invariant-loop-end : goal.invariant-loop-end
invariant-loop-end l = record {
  made : l.all.items
      ++ map (λ (e : End). Some e) (drop l.end-index l.end-items) ≡ map (λ (e : End). Some e) l.end-items;
}
