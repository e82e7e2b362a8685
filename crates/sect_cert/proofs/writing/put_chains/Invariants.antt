use Rattle.std.proofs.Common.{◌≡◌, ◌++◌, drop}
use Rattle.std.specs.List.{flat_map}
use Rattle.sect_cert.specs.steps.Writes.{chain_text}
use Rattle.sect_cert.proofs.writing.put_chains.Given as goal

abbrev pub invariant-loop-chain : goal.invariant-loop-chain
invariant-loop-chain l = l.out.items ++ flat_map chain_text (drop l.chain-index l.chains) ≡ l.fn.out.items
    ++ flat_map chain_text l.chains
