use Rattle.std.proofs.{Common.{arith, subst}, lemmas.List.{length-map}, lemmas.Slice.Zip.{AllZip-long}}
use Rattle.sect_types.specs.{Sections.{sections_of}, Programs.{ProgramView, IsWithinLimits}, Sound.{AreSound}}
use Rattle.sect_lemmas.proofs.{Places.{at_of}, Results.{if_ok}}
use Rattle.sect_names.specs.Needed.{end_of}
use Rattle.sect_chains.specs.{Chains.{IsFirstChain}, Numbered.{chains_in, links_by}}
use Rattle.sect_emit.proofs.{Chained.{chains_named, section_lawful}, Counting.{few_locks}}
use Rattle.sect_emit.proofs.chains.numbered.Goals as goal

pub numbered_chains-requires-clause-locks : goal.numbered_chains-requires-clause-locks
numbered_chains-requires-clause-locks c = λ of g at graph. (c.requires.inferred of g at graph).0

pub returns-clause-few : goal.returns-clause-few
returns-clause-few c =
    let s = c.args.scheme.now in
    let i = c.args.section in
    let of = at_of (sections_of s.program.texts) i c.requires.section in
    let within = c.requires.section in
    let g = at_of s.graphs.sections i (omega (arith, within, c.facts.ensures.graphed.section_count)) in
    let told = c.requires.inferred of.0 g.0 of.1 g.1 in
    let limits = subst IsWithinLimits c.program.ensures c.facts-2.ensures.limits in
    let entry = c.args.locks.now.entry in
    let few = few_locks s c.facts.ensures limits of.0.thread entry told.0.in_order (told.1 0 entry told.0.first) in
    if_ok c.numbered_chains.result (λ chains are.
    (let e = AllZip-long (IsFirstChain s of.0.thread (end_of s i) g.0) entry (chains_in chains) are in
    omega (arith, few, e, length-map chains.chains (links_by chains.keys))))
    (c.numbered_chains.ensures of.0 g.0 of.1 g.1)

pub returns-clause-named : goal.returns-clause-named
returns-clause-named c =
    let s = c.args.scheme.now in
    let i = c.args.section in
    let within = c.requires.section in
    let of = at_of (sections_of s.program.texts) i within in
    let g = at_of s.graphs.sections i (omega (arith, within, c.facts.ensures.graphed.section_count)) in
    let sound = subst (λ (p : ProgramView). AreSound p.records p.globals p.locals p.texts) c.program.ensures
    c.facts-2.ensures.sound in
    let lawful = section_lawful s (c.locks_stay_the_programs.ensures.generated s c.facts.ensures)
    (c.locks_stay_the_programs.ensures.carried s c.facts.ensures)
    (λ section x stands. (c.steps_of_sections.ensures.sound s c.facts.ensures sound section x stands).0) i of.0 g.0 of.1
    g.1 in
    let entry = c.args.locks.now.entry in
    if_ok c.numbered_chains.result (λ chains are. chains_named s of.0.thread (end_of s i) g.0 lawful entry
    (chains_in chains) are) (c.numbered_chains.ensures of.0 g.0 of.1 g.1)
