use Rattle.sect_names.proofs.shared.Refusing.{one_text}
use Rattle.sect_names.proofs.laws.texts_have_one_program.Goals as goal

pub returns : goal.returns
returns c = one_text
