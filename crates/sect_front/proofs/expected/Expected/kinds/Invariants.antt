use Rattle.std.proofs.Common.{◌≡◌, take}
use Rattle.std.specs.Prelude.{filter}
use Rattle.sect_front.specs.steps.Kinds.{takes_kind}
use Rattle.sect_front.proofs.expected.Expected.kinds.Given as goal

abbrev pub invariant-loop-kind : goal.invariant-loop-kind
invariant-loop-kind l = l.kinds.items ≡ filter (takes_kind l.self) (take l.kind-index l.kind-items)
