use Rattle.std.proofs.Common.{◌↔◌, ◌⊎◌, ℕ, take}
use Rattle.sect_lemmas.specs.Lists.{Has}
use Rattle.sect_infer.proofs.waiting.Waiting.insert_all.Given as goal

abbrev pub invariant-loop-node : goal.invariant-loop-node
invariant-loop-node l = (i : ℕ) → Has l.self i ↔ (Has l.fn.self i ⊎ Has (take l.node-index l.nodes) i)
