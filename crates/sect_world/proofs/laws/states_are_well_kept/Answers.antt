use Rattle.sect_world.proofs.{KeptStates.{runs_are_well_kept}, GoodStates.{event_keeps}, GoodRuns.{runs_are_good}}
use Rattle.sect_world.proofs.laws.states_are_well_kept.Goals as goal

pub returns-clause-kept : goal.returns-clause-kept
returns-clause-kept c = runs_are_well_kept

pub returns-clause-good : goal.returns-clause-good
returns-clause-good c = runs_are_good

pub returns-clause-events : goal.returns-clause-events
returns-clause-events c = event_keeps
