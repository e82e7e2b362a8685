use Rattle.sect_world.proofs.{GoodStates.{event_leaves}, GoodRuns.{runs_are_good, needed_beginnings_are_held}}
use Rattle.sect_world.proofs.laws.needed_paths_are_held.Goals as goal

pub returns-clause-classes : goal.returns-clause-classes
returns-clause-classes c m ok fuel trace s run = (runs_are_good m ok fuel trace s run).classes

pub returns-clause-beginnings : goal.returns-clause-beginnings
returns-clause-beginnings c = needed_beginnings_are_held

pub returns-clause-stay : goal.returns-clause-stay
returns-clause-stay c m ok fuel trace s after happened run happens t th i k at apart running p e needed =
    event_leaves m ok s (runs_are_good m ok fuel trace s run) t th at i k running p e needed after happened happens
    apart
