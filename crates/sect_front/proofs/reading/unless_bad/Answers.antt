use Rattle.sect_front.proofs.reading.unless_bad.Goals as goal

pub returns-in-Some : goal.returns-in-Some
returns-in-Some c = λ before h k. (rw c.in-Some.is at c.bad_from.ensures) before h

pub returns-in-None : goal.returns-in-None
returns-in-None c = λ before h k. let spelled = (rw c.in-None.is at c.bad_from.ensures) before h in
    k spelled.0 spelled.1
