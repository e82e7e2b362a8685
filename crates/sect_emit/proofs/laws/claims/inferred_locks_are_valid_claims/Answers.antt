use Rattle.sect_names.specs.Needed.{end_of}
use Rattle.sect_emit.proofs.Validity.{valid_section}
use Rattle.sect_emit.proofs.laws.claims.inferred_locks_are_valid_claims.Goals as goal

pub returns : goal.returns
returns c = λ s scheme i of g at locks inferred chains chained.
    let graph = scheme.graphed.sections i of g at.0 at.1 in
    valid_section s of (end_of s i) g graph locks inferred chains chained
    (c.needed_step_by_step.ensures.text s of.thread (end_of s i))
    (c.needed_step_by_step.ensures.node s of.thread (end_of s i) of.body g graph)
