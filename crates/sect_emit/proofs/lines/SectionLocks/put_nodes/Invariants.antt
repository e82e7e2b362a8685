use Rattle.std.proofs.Common.{◌≡◌, ◌++◌, ◌-◌, [], map, take}
use Rattle.std.specs.{List.{AllByRecursion}, Map.Iter.{deref}}
use Rattle.sect_cert.specs.Texts.{IsLock, nodes_lines, lines_text}
use Rattle.sect_emit.specs.{Words.{list_words}, steps.Spelled.{IsListAt}}
use Rattle.sect_emit.proofs.lines.SectionLocks.put_nodes.Given as goal

abbrev pub invariant-loop-node : goal.invariant-loop-node
invariant-loop-node l = record {
  last : IsListAt l.self.program.now.source l.self.locks.now.at (l.node - 1) l.list.named (map deref l.list.locks.items)
      l.list.text.items;
  lines : l.out.items ≡ l.fn.out.items
      ++ lines_text (nodes_lines 0 (map (list_words l.self.program.now.source) (take l.node l.self.locks.now.at)) []);
  good : AllByRecursion (λ locks. AllByRecursion IsLock locks)
      (map (list_words l.self.program.now.source) (take l.node l.self.locks.now.at));
}
