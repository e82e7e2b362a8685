use Rattle.std.proofs.Common.{◌≡◌, ◌++◌, map, take}
use Rattle.serde_json.specs.View.{view}
use Rattle.sect_editor.specs.Symbols.{symbols_of}
use Rattle.sect_editor.proofs.symbols.put_declared.Given as goal

abbrev pub invariant-loop-named : goal.invariant-loop-named
invariant-loop-named l =
    map view l.values.items ≡ map view l.initial.values.items ++ symbols_of l.source (take l.named-index l.names)
