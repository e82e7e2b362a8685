use Rattle.std.proofs.{Common.{◌++◌, ◌∷◌, [], take, ap, ◌∙◌, sym, arith}, lemmas.List.{take_more}}
use Rattle.sect_types.specs.Sight.{has_name}
use Rattle.sect_types.proofs.Known.{knows_more}
use Rattle.sect_types.proofs.declarations.declare.known_records.Goals as goal

pub loop-of-preserved : goal.loop-of-preserved
loop-of-preserved c = λ x. ap (has_name x) c.in_ok-collect.ensures.names
    ∙ knows_more c.loop-of.known c.records-of-items.result.now c.loop-of.of-index c.of-item.result
    (take_more c.records-of-items.result.now c.loop-of.of-index c.of-item.result (omega arith)
    ∙ ap (λ r. take c.loop-of.of-index c.records-of-items.result.now ++ r ∷ []) (sym c.of-item.is)) c.loop-of.invariant
    x
