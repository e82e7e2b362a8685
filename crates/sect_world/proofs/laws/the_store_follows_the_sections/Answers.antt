use Rattle.sect_world.proofs.Closing.{store_follows, sections_follow}
use Rattle.sect_world.proofs.laws.the_store_follows_the_sections.Goals as goal

pub returns-clause-differ : goal.returns-clause-differ
returns-clause-differ c = store_follows

pub returns-clause-replayed : goal.returns-clause-replayed
returns-clause-replayed c = sections_follow
