use Rattle.sect_names.proofs.shared.SectionSteps.{section_step}
use Rattle.sect_names.proofs.SectionSteps.{section_step_sound, section_thread}
use Rattle.sect_names.proofs.laws.steps_of_sections.Goals as goal

pub returns-clause-program : goal.returns-clause-program
returns-clause-program c = section_step

pub returns-clause-sound : goal.returns-clause-sound
returns-clause-sound c s scheme sound section x stands =
    (section_step_sound s scheme sound section x stands, section_thread s sound stands.0 section stands.3)
