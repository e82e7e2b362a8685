use Rattle.std.proofs.Common.{◌≡◌, take}
use Rattle.sect_editor.specs.Referring.{refers}
use Rattle.std.specs.Prelude.{map, filter}
use Rattle.sect_editor.proofs.referring.uses_of.Given as goal

-- those among the names so far
abbrev pub invariant-loop-named : goal.invariant-loop-named
invariant-loop-named l =
    l.spans.items ≡ map (λ n. n.span) (filter (refers l.names l.declared) (take l.named-index l.names))
