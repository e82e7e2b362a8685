use Rattle.std.proofs.Common.{◌≡◌, ◌++◌}
use Rattle.std.specs.{List.{flat_map, range_with_len}, String.{string_bytes}}
use Rattle.sect_editor.specs.Hovering.{sites_in, class_line}
use Rattle.sect_editor.proofs.objects.put_sites.Given as goal

-- the lines of the classes so far
abbrev pub invariant-loop-class : goal.invariant-loop-class
invariant-loop-class l =
    string_bytes l.text ≡ string_bytes l.fn.text
    ++ flat_map (λ n. class_line n (sites_in l.classes.numbers n l.sites)) (range_with_len 0 l.class)
