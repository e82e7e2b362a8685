use Rattle.std.proofs.Common.{◌≡◌, take, map}
use Rattle.std.specs.List.{AllByRecursion}
use Rattle.sect_cert.specs.Texts.{IsStep}
use Rattle.sect_chains.specs.Numbered.{links_by}
use Rattle.sect_emit.specs.{Words.{step_words}, steps.Known.{AreKnown}}
use Rattle.sect_emit.proofs.words.chain_of.Given as goal

abbrev pub invariant-loop-index : goal.invariant-loop-index
invariant-loop-index l =
    (l.steps ≡ map (step_words l.program.source) (take l.index (links_by l.chain.chains.now.keys l.chain.steps.now)))
    × AllByRecursion IsStep l.steps × AreKnown l.program.source l.chain.chains.now.keys l.known
