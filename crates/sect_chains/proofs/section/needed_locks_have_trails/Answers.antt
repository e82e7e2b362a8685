use Rattle.sect_names.specs.Needed.{end_of}
use Rattle.sect_chains.proofs.Meaning.{are_tops}
use Rattle.sect_chains.proofs.section.needed_locks_have_trails.Goals as goal

pub returns : goal.returns
returns c = λ of g section_at graph_at.
    let s = c.args.scheme.now in
    let graph = c.facts.ensures.graphed.sections c.args.section of g section_at graph_at in
    are_tops s (end_of s c.args.section) of g graph c.args.locks.now (c.requires of g section_at graph_at)
