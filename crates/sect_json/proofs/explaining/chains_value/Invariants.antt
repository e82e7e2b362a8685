use Rattle.std.proofs.Common.{◌≡◌, map, take}
use Rattle.serde_json.specs.View.{view}
use Rattle.sect_json.specs.Explaining.{chain_json}
use Rattle.sect_json.proofs.explaining.chains_value.Given as goal

abbrev pub invariant-loop-chain : goal.invariant-loop-chain
invariant-loop-chain l = map view l.values.items ≡ map (chain_json l.compiled l.section) (take l.chain-index l.chains)
