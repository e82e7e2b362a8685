use Rattle.std.proofs.Common.{◌∙◌}
use Rattle.sect_types.specs.declared.meaning.store.Datum.TheVariants.{Refers}
use Rattle.sect_types.proofs.shared.SameData.{same_tells}
use Rattle.sect_questions.proofs.known.is_same_name.Goals as goal

pub returns : goal.returns
returns c = c.eq.ensures ∙ same_tells (Refers c.args.name) (Refers c.args.other)
