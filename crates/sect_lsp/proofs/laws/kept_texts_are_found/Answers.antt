use Rattle.sect_lsp.proofs.Keeping.{found, others_stay_opened}
use Rattle.sect_lsp.proofs.laws.kept_texts_are_found.Goals as goal

pub returns-clause-found : goal.returns-clause-found
returns-clause-found c = found

pub returns-clause-others : goal.returns-clause-others
returns-clause-others c = λ uri other text ds apart. others_stay_opened uri other apart text ds
