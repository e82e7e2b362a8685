use Rattle.sect_world.proofs.{OwnObjects.{clash_on_no_held_key}, Together.{clash_on_no_taken_key}}
use Rattle.sect_world.proofs.laws.sections_that_go_together_clash_on_no_key.Goals as goal

pub returns-clause-taken : goal.returns-clause-taken
returns-clause-taken c = λ m ok. clash_on_no_taken_key m ok (c.sections_that_go_together_never_clash.ensures m ok)

pub returns-clause-held : goal.returns-clause-held
returns-clause-held c = λ m ok least. clash_on_no_held_key m ok least (c.sections_that_go_together_never_clash.ensures m ok)
