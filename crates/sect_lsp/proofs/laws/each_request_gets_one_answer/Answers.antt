use Rattle.sect_lsp.proofs.Answering.{takes_one, runs_each}
use Rattle.sect_lsp.proofs.laws.each_request_gets_one_answer.Goals as goal

pub returns-clause-step : goal.returns-clause-step
returns-clause-step c = λ s d out t h. takes_one s out t d h

pub returns-clause-run : goal.returns-clause-run
returns-clause-run c = runs_each
