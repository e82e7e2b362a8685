use Rattle.std.proofs.Common.{◌≡◌, ◌++◌, map, take, filter}
use Rattle.serde_json.specs.View.{view}
use Rattle.sect_editor.specs.Completing.{declared_item, is_offered}
use Rattle.sect_editor.proofs.completion.put_known.Given as goal

-- of those so far
abbrev pub invariant-loop-declared : goal.invariant-loop-declared
invariant-loop-declared l =
    map view l.values.items
    ≡ map view l.fn.values.items ++ map declared_item (filter (is_offered l.scope) (take l.declared-index l.all))
