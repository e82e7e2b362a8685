use Rattle.sect_lemmas.proofs.Inserting.{inserted}
use Rattle.sect_lint.specs.contracts.unused.ReferentPartialEq.TheImpl.{ghosts as the_referent_eq}
use Rattle.sect_lint.proofs.Referring.{referent_tells}
use Rattle.sect_lint.proofs.unused.add.Goals as goal

pub returns : goal.returns
returns c = λ r.
    rw (c.in_ok-insert.ensures.keys)
    (inserted the_referent_eq.eq referent_tells c.args.referents.now.keys c.args.referent r)
