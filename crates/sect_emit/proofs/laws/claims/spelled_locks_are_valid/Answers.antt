use Rattle.sect_emit.proofs.{Chained.{section_lawful}, Certifying.{certified}}
use Rattle.sect_emit.proofs.laws.claims.spelled_locks_are_valid.Goals as goal

pub returns : goal.returns
returns c = λ s scheme typed tree sound all inferred a spelled.
    let lawful = section_lawful s (c.locks_stay_the_programs.ensures.generated s scheme)
    (c.locks_stay_the_programs.ensures.carried s scheme)
    (λ section x stands. (c.steps_of_sections.ensures.sound s scheme sound section x stands).0) in
    certified s scheme typed tree (λ i of g at. lawful i of g at.0 at.1)
    (c.inferred_locks_are_valid_claims.ensures s scheme) all inferred a spelled
