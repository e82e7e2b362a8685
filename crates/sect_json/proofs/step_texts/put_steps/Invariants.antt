use Rattle.std.proofs.Common.{◌≡◌, ◌++◌, map, drop}
use Rattle.sect_emit.specs.Compiled.{program_of}
use Rattle.sect_json.specs.Explaining.{step_json}
use Rattle.sect_json.specs.steps.Writes.{AreLockTexts, elements_from}
use Rattle.sect_json.proofs.step_texts.put_steps.Given as goal

abbrev pub invariant-loop-index : goal.invariant-loop-index
invariant-loop-index l =
    (let of = step_json l.of.compiled.now l.of.section in
    record {
      told : AreLockTexts (program_of l.of.compiled.now).source l.texts;
      added : l.out.items ++ elements_from l.index (map of (drop l.index l.links))
          ≡ l.initial.out.items ++ elements_from 0 (map of l.links);
    })
