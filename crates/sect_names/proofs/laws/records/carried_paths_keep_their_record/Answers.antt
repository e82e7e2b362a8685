use Rattle.sect_names.proofs.shared.{Needing.{keeps_record, generated_needable, carried_needable}, Placing.{step_sound}}
use Rattle.sect_names.proofs.laws.records.carried_paths_keep_their_record.Goals as goal

pub returns-clause-sound : goal.returns-clause-sound
returns-clause-sound c = step_sound

pub returns-clause-paths : goal.returns-clause-paths
returns-clause-paths c = keeps_record

pub returns-clause-generated : goal.returns-clause-generated
returns-clause-generated c s scheme t step sound l h = generated_needable s t scheme step sound l h

pub returns-clause-carried : goal.returns-clause-carried
returns-clause-carried c = carried_needable
