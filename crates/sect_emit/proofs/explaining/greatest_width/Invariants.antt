use Rattle.std.proofs.Common.{◌≡◌, drop}
use Rattle.std.specs.Prelude.{max}
use Rattle.sect_emit.specs.Explaining.{widest}
use Rattle.sect_emit.proofs.explaining.greatest_width.Given as goal

abbrev pub invariant-loop-link : goal.invariant-loop-link
invariant-loop-link l = (let s = l.section in
    let of = widest s.program.now.source s.thread s.flow.now in
    max l.width (of (drop l.link-index l.chain)) ≡ of l.chain)
