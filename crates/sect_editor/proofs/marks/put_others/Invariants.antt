use Rattle.std.proofs.Common.{◌≡◌, ◌++◌, take}
use Rattle.std.specs.{Prelude.{codes}, Fmt.{decimal}, List.{flat_map}, String.{string_bytes}}
use Rattle.sect_editor.proofs.marks.put_others.Given as goal

-- the numbers so far
abbrev pub invariant-loop-other : goal.invariant-loop-other
invariant-loop-other l =
    string_bytes l.text ≡ string_bytes l.fn.text
    ++ flat_map (λ n. codes ", " ++ decimal n) (take l.other-index l.others)
