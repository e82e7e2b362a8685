use Rattle.std.proofs.Common.{◌≡◌, ◌++◌, drop}
use Rattle.std.specs.{String.{string_bytes}, List.{flat_map}}
use Rattle.sect_emit.specs.Explaining.{chain_lines}
use Rattle.sect_emit.proofs.explaining.put_chains.Given as goal

abbrev pub invariant-loop-chain : goal.invariant-loop-chain
invariant-loop-chain l = (let s = l.section in
    let lines = chain_lines s.program.now.source s.thread s.flow.now s.lines.now in
    string_bytes l.text ++ flat_map lines (drop l.chain-index l.chains) ≡ string_bytes l.fn.text
    ++ flat_map lines l.chains)
