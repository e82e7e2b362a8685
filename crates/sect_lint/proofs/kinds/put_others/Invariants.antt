use Rattle.std.proofs.Common.{◌≡◌, ◌++◌, take}
use Rattle.std.specs.{List.{flat_map}, String.{string_bytes}}
use Rattle.sect_lint.specs.Kinds.{next_kind}
use Rattle.sect_lint.proofs.kinds.put_others.Given as goal

abbrev pub invariant-loop-kind : goal.invariant-loop-kind
invariant-loop-kind l =
    string_bytes l.text ≡ string_bytes l.fn.text ++ flat_map (next_kind l.between) (take l.kind-index l.kinds)
