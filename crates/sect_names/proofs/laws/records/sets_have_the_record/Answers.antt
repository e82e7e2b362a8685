use Rattle.sect_names.proofs.shared.Recording.{locals_fit, fields_fit, paths_fit}
use Rattle.sect_names.proofs.laws.records.sets_have_the_record.Goals as goal

pub returns-clause-locals : goal.returns-clause-locals
returns-clause-locals c = locals_fit

pub returns-clause-fields : goal.returns-clause-fields
returns-clause-fields c = fields_fit

pub returns-clause-paths : goal.returns-clause-paths
returns-clause-paths c = paths_fit
