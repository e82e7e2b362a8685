use Rattle.std.proofs.Common.{subst, inl, inr}
use Rattle.sect_points.specs.{Flow.{ValueHas}, Sets.{InSets}}
use Rattle.sect_points.proofs.RoundLaws.{value_waits}
use Rattle.sect_points.proofs.solving.is_of_sets.Goals as goal

pub returns-in-Local : goal.returns-in-Local
returns-in-Local c _ sets empty t s h = elim c.in-Local.is [
  | inl local ↦ value_waits c.args.value local.0 local.1 sets empty t s h
  | inr other ↦ elim other [
    | inl null ↦ subst (λ v. ValueHas (InSets sets) t v s) null h
    | inr number ↦ subst (λ v. ValueHas (InSets sets) t v s) number.1 h
  ]
]
