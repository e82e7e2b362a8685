use Rattle.std.proofs.Common.{◌≡◌, ◌≤◌, ◌++◌, drop}
use Rattle.sect_editor.specs.Completing.{declared_from, declared_in}
use Rattle.sect_editor.proofs.declaring.declared_in.Given as goal

-- what the words so far declare, and then what the others do
abbrev pub invariant-loop-number : goal.invariant-loop-number
invariant-loop-number l = record {
  declared : l.found.items ++ declared_from l.head l.scope (drop l.number l.words) ≡ declared_in l.words;
  few : l.scope ≤ l.number;
}
