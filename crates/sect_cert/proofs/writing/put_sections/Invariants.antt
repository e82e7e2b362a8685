use Rattle.std.proofs.Common.{◌≡◌, ℕ, [], take}
use Rattle.sect_cert.specs.Texts.{begun_text}
use Rattle.sect_cert.proofs.writing.put_sections.Given as goal

abbrev pub invariant-loop-number : goal.invariant-loop-number
invariant-loop-number l =
    (k count : ℕ) → l.fn.out.items ≡ begun_text k count []
    → l.out.items ≡ begun_text k count (take l.number l.sections)
