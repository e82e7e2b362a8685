use Rattle.sect_names.specs.Along.{NeededAlong}
use Rattle.sect_names.proofs.shared.Beginning.{reads_before, reads_along}
use Rattle.sect_names.proofs.shared.Walking.{reads_in, section_stands, needed_walk}
use Rattle.sect_names.proofs.AtNodes.{reads_at_node}
use Rattle.sect_names.proofs.laws.needs.beginnings_are_needed.Goals as goal

pub returns-clause-step : goal.returns-clause-step
returns-clause-step c s scheme t step there last steps after =
    reads_before s scheme t step there (NeededAlong s t last steps) after

pub returns-clause-along : goal.returns-clause-along
returns-clause-along c = reads_along

pub returns-clause-text : goal.returns-clause-text
returns-clause-text c = reads_in

pub returns-clause-section : goal.returns-clause-section
returns-clause-section c s scheme last ends i section at p q f e needed goes =
    let t = section.thread in
    let m = reads_in s scheme t last ends section.body (section_stands s i section at) p q f e
    ((needed_walk s t last section.body _).0 needed) goes in
    (m.0, (needed_walk s t last section.body m.0).1 m.1, m.2)

pub returns-clause-node : goal.returns-clause-node
returns-clause-node c = reads_at_node
