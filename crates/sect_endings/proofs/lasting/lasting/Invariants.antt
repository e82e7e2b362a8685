use Rattle.std.proofs.Common.{◌≡◌, ◌+◌, false}
use Rattle.std.specs.Prelude.{if◌then◌else◌}
use Rattle.sect_endings.specs.steps.{Sets.{count_in}, Lasting.{IsCandidate, IsSettled}}
use Rattle.sect_endings.proofs.lasting.lasting.Given as goal

abbrev pub invariant-narrow : goal.invariant-narrow
invariant-narrow l = record {
  all : IsCandidate l.graph l.threads l.marks.items;
  settled : l.more ≡ false → IsSettled l.graph l.threads l.marks.items;
}

abbrev pub decreases-narrow : goal.decreases-narrow
decreases-narrow l = count_in l.marks.items + (if l.more then 1 else 0)
