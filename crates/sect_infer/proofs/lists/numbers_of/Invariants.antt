use Rattle.std.proofs.Common.{◌<◌, ℕ, [], map}
use Rattle.std.specs.Prelude.{slice_index_or}
use Rattle.sect_lemmas.specs.Lists.{Has}
use Rattle.sect_infer.proofs.lists.numbers_of.Given as goal

abbrev pub invariant-loop-row : goal.invariant-loop-row
invariant-loop-row l = (i n : ℕ) → i < l.row-index
    → Has (slice_index_or (map (λ v. v.items) l.rows) i []) n → Has l.all n
