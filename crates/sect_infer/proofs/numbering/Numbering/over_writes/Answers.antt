use Rattle.std.proofs.Common.{[], ◌∷◌, sym, subst}
use Rattle.sect_infer.specs.steps.Putting.{AreThere, over_writes}
use Rattle.sect_infer.proofs.Extending.{there_none}
use Rattle.sect_names.specs.declared.lock.Lock.TheVariants as lock
use Rattle.sect_infer.proofs.numbering.Numbering.over_writes.Goals as goal

pub returns-in-None : goal.returns-in-None
returns-in-None c =
    let keys = c.args.self.now.keys in
    subst (λ o. AreThere keys (over_writes o) c.push_found.new.above.items) (sym c.in-None.is)
    (c.in_ok-push_found.ensures [] (subst (AreThere keys []) (sym c.new-above.ensures.items)
    (there_none keys [] (λ l h. absurd h))))

pub returns-in_ok-push_found-in-Some : goal.returns-in_ok-push_found-in-Some
returns-in_ok-push_found-in-Some c =
    let keys = c.args.self.now.keys in
    subst (λ o. AreThere keys (over_writes o) c.push_found-in-Some.new.above.items) (sym c.in-Some.is)
    (c.in_ok-push_found-in-Some.ensures (lock.All ∷ []) (c.in_ok-push_found.ensures []
    (subst (AreThere keys []) (sym c.new-above.ensures.items) (there_none keys [] (λ l h. absurd h)))))
