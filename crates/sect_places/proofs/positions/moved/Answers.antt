use Rattle.std.proofs.Common.{◌-◌, ◌∙◌, take, drop, fold, refl, ap}
use Rattle.sect_places.specs.steps.Passing.{next_position}
use Rattle.sect_places.proofs.Passing.{position_on, stands_at}
use Rattle.sect_places.proofs.positions.moved.Goals as goal

pub returns-clause-is : goal.returns-clause-is
returns-clause-is c =
    let source = c.args.source.now in
    let from = c.args.from in
    stands_at source c.args.at _ c.requires.within refl
    (c.position_behind.ensures
    ∙ ap (λ p. fold next_position p (take (c.args.at - from.at) (drop from.at source))) c.requires.from.is
    ∙ position_on source from.at c.args.at c.requires.before)
