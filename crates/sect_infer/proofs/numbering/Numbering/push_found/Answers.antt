use Rattle.std.proofs.Common.{[], ◌∷◌, ◌++◌, sym, subst}
use Rattle.sect_infer.specs.steps.Putting.{AreThere}
use Rattle.sect_infer.proofs.Extending.{there_found, there_absent}
use Rattle.sect_infer.proofs.numbering.Numbering.push_found.Goals as goal

pub returns-in_ok-push : goal.returns-in_ok-push
returns-in_ok-push c = λ locks are.
    let keys = c.args.self.now.keys in
    let l = c.args.lock.now in
    subst (AreThere keys (locks ++ l ∷ [])) (sym c.in_ok-push.ensures.ok)
    (there_found keys locks c.args.above.now.items l c.in-Some.number are c.in-Some.ensures)

pub returns-in_default : goal.returns-in_default
returns-in_default c = λ locks are. there_absent c.args.self.now.keys locks c.args.above.now.items c.args.lock.now are
    c.in_default.ensures
