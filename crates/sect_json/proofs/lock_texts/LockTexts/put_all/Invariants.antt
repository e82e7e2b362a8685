use Rattle.std.proofs.Common.{◌≡◌, ◌++◌, map, drop}
use Rattle.sect_json.specs.Locks.{lock_json}
use Rattle.sect_json.specs.steps.Writes.{AreLockTexts, elements_from}
use Rattle.sect_json.proofs.lock_texts.LockTexts.put_all.Given as goal

abbrev pub invariant-loop-index : goal.invariant-loop-index
invariant-loop-index l =
    (let of = lock_json l.program.source in
    record {
      told : AreLockTexts l.program.source l.self;
      added : l.out.items ++ elements_from l.index (map of (drop l.index l.locks))
          ≡ l.initial.out.items ++ elements_from 0 (map of l.locks);
    })
