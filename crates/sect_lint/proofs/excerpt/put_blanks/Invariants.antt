use Rattle.std.proofs.Common.{◌≡◌, ◌++◌, ◌-◌}
use Rattle.std.specs.{Prelude.{replicate}, String.{string_bytes}}
use Rattle.sect_lint.proofs.excerpt.put_blanks.Given as goal

abbrev pub invariant-loop-blank : goal.invariant-loop-blank
invariant-loop-blank l =
    string_bytes l.text ++ replicate (l.count - l._blank) 32 ≡ string_bytes l.fn.text ++ replicate l.count 32
