use Rattle.std.proofs.Common.{take}
use Rattle.std.specs.List.{AllZip}
use Rattle.sect_check.specs.Meaning.{DenotesChain}
use Rattle.sect_check.proofs.claiming.chain_claims.Given as goal

abbrev pub invariant-loop-chain : goal.invariant-loop-chain
invariant-loop-chain l =
    AllZip (DenotesChain l.naming.scheme l.naming.thread) (take l.chain-index l.chains) l.claims.items
