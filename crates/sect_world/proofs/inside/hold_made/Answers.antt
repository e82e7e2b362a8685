use Rattle.sect_world.proofs.inside.hold_made.Goals as goal

pub returns-clause-work : goal.returns-clause-work
returns-clause-work c = c.finish_new.ensures
