use Rattle.std.proofs.Common.{◌∙◌, ◌++◌, [], ◌∷◌, sym, ap, arith, append_assoc, add-one}
use Rattle.std.specs.Prelude.{replicate}
use Rattle.sect_world.proofs.Leading.{repeated_more}
use Rattle.sect_world.proofs.trace.Trace.push_many.Goals as goal

pub loop-made-preserved : goal.loop-made-preserved
loop-made-preserved c =
    let n = c.loop-made._made in
    let e = c.args.event in
    let inv = c.loop-made.invariant in (
      c.push_reserved.ensures.items
          ∙ (ap (λ es. es ++ e ∷ []) inv.0
          ∙ (append_assoc c.args.self.now.items (replicate n e) (e ∷ [])
          ∙ ap (λ es. c.args.self.now.items ++ es)
          (repeated_more n e ∙ ap (λ m. replicate m e) (sym (add-one n))))),
      omega (arith, inv.1, c.push_reserved.ensures.room, c.loop-made-test.true),
    )
