use Rattle.sect_names.proofs.{Splitting.{split_along}, AtNodes.{needed_node}}
use Rattle.sect_names.proofs.shared.Walking.{needed_step, needed_walk}
use Rattle.sect_names.proofs.laws.needs.needed_step_by_step.Goals as goal

pub returns-clause-steps : goal.returns-clause-steps
returns-clause-steps c = split_along

pub returns-clause-section : goal.returns-clause-section
returns-clause-section c = needed_walk

pub returns-clause-text : goal.returns-clause-text
returns-clause-text c = needed_step

pub returns-clause-node : goal.returns-clause-node
returns-clause-node c s t last body g graph j l within = needed_node body g graph s t last j l within
