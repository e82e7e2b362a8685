use Rattle.std.proofs.Common.{◌≡◌, take}
use Rattle.std.specs.Prelude.{IfSome}
use Rattle.sect_conflicts.specs.Selecting.{Adds}
use Rattle.sect_warnings.specs.{Lost.{IsLost, with_stores}, steps.Losing.{IsReached}}
use Rattle.sect_warnings.proofs.lost.add_stores.Given as goal

abbrev pub invariant-loop-store : goal.invariant-loop-store
invariant-loop-store l = record {
  added : Adds (IsLost l.of.compiled.now) (with_stores (take l.store-index l.of.stores.now) l.load) l.fn.found.items
      l.found.items;
  load : l.loaded.load ≡ l.load;
  reached : IfSome l.loaded.reached (λ set. IsReached l.of.compiled.now l.load set.keys);
}
