use Rattle.std.proofs.Common.{◌≡◌, ◌++◌, drop}
use Rattle.sect_emit.specs.Compiled.{program_of}
use Rattle.sect_json.specs.{Values.{by_place}, Inspecting.{section_node_json}}
use Rattle.sect_json.specs.steps.Writes.{AreLockTexts, elements_from}
use Rattle.sect_json.proofs.inspected_sections.put_nodes.Given as goal

abbrev pub invariant-loop-node : goal.invariant-loop-node
invariant-loop-node l =
    (let of = section_node_json l.of.compiled.now l.of.source.now l.of.spans.now l.section in
    record {
      told : AreLockTexts (program_of l.of.compiled.now).source l.texts;
      added : l.out.items ++ elements_from l.node (by_place of l.node (drop l.node l.locks.at))
          ≡ l.initial.out.items ++ elements_from 0 (by_place of 0 l.locks.at);
    })
