use Rattle.sect_lsp.proofs.Keeping.{forgotten, others_stay}
use Rattle.sect_lsp.proofs.laws.closed_documents_are_forgotten.Goals as goal

pub returns-clause-forgotten : goal.returns-clause-forgotten
returns-clause-forgotten c = forgotten

pub returns-clause-others : goal.returns-clause-others
returns-clause-others c = λ uri other ds apart. others_stay uri other apart ds
