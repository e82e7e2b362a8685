use Rattle.sect_names.proofs.shared.Recording.{classes_fit}
use Rattle.sect_names.proofs.laws.records.a_class_has_one_record.Goals as goal

pub returns : goal.returns
returns c = classes_fit
