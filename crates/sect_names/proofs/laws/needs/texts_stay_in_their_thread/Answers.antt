use Rattle.sect_names.proofs.shared.Walking.{section_stands, leads_stands}
use Rattle.sect_names.proofs.laws.needs.texts_stay_in_their_thread.Goals as goal

pub returns-clause-section : goal.returns-clause-section
returns-clause-section c = section_stands

pub returns-clause-step : goal.returns-clause-step
returns-clause-step c = leads_stands
