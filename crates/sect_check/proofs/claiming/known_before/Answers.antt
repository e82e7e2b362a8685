use Rattle.std.proofs.Common.{◌∙◌, Some, sym, ap, arith}
use Rattle.std.specs.List.{AllZip}
use Rattle.sect_check.specs.Names.{Denotes}
use Rattle.sect_check.proofs.Knowing.{known_last}
use Rattle.sect_check.proofs.claiming.known_before.Goals as goal

pub returns : goal.returns
returns c = λ s thread all.
    known_last (AllZip (Denotes s thread)) c.args.nodes.now c.args.node c.args.lists.now c.as_slice.result.now
    c.as_slice-2.result.now (omega (arith, c.if-node-eq0.false)) all
    (c.at.ensures ∙ ap Some (sym c.as_slice.ensures)) (c.at-2.ensures ∙ ap Some (sym c.as_slice-2.ensures))
