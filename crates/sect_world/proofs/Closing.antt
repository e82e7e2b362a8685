-- All that the serial meaning stands on holds of compiled programs.
use Rattle.sect_emit.specs.Compiled.{CompiledView, IsCompiled}
use Rattle.sect_world.specs.{Laws.{EveryRunIsSerial}, Excluding.{ReadersAndWritersExclude}}
use Rattle.sect_world.specs.SerialFacts.{OnlySectionsDiffer, SectionsAreReplayed}
use Rattle.sect_world.proofs.{Tidy.{StatesAreTidy, well_kept_is_tidy}, KeptStates.{runs_are_well_kept}}
use Rattle.sect_world.proofs.{Excluding.{readers_and_writers_exclude}, GoodRuns.{runs_are_good, accesses_are_held}}
use Rattle.sect_world.proofs.Serializing.{only_sections_differ, sections_are_replayed, every_run_is_serial}

-- each state of a run is tidy
pub runs_are_tidy : (c : CompiledView) → IsCompiled c → StatesAreTidy c
runs_are_tidy c ok fuel trace s run = well_kept_is_tidy c s (runs_are_well_kept c ok fuel trace s run)

-- in none of them may a thread read what another may write
pub runs_exclude : (c : CompiledView) → IsCompiled c → ReadersAndWritersExclude c
runs_exclude c ok fuel trace s run t u reader writer other is_reader is_writer o =
    let good = runs_are_good c ok fuel trace s run in
    readers_and_writers_exclude c s good.kept t u reader writer other is_reader is_writer
    (good.classes t reader is_reader) (good.classes u writer is_writer) o

-- complete runs come to what whole sections come to
pub runs_are_serial : (c : CompiledView) → IsCompiled c → EveryRunIsSerial c
runs_are_serial c ok = every_run_is_serial c (accesses_are_held c ok) (runs_are_tidy c ok) (runs_exclude c ok)

-- the store, but for sections in progress
pub store_follows : (c : CompiledView) → IsCompiled c → OnlySectionsDiffer c
store_follows c ok = only_sections_differ c (accesses_are_held c ok) (runs_are_tidy c ok) (runs_exclude c ok)

-- the sections in progress
pub sections_follow : (c : CompiledView) → IsCompiled c → SectionsAreReplayed c
sections_follow c ok = sections_are_replayed c (accesses_are_held c ok) (runs_are_tidy c ok) (runs_exclude c ok)
