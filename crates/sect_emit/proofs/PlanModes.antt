-- The modes of a plan.
use Rattle.std.proofs.Common.{◌≡◌, ap, ◌∙◌, List, [], ◌++◌}
use Rattle.sect_names.specs.Schemes.{SchemeView}
use Rattle.sect_types.specs.{declared.meaning.store.Datum.{Datum}, Store.{StoreView}}
use Rattle.sect_emit.specs.{declared.plan.Grip.{Grip}, Plan.{gathered, IsFixedPart, plan_of}}

-- the plan of an empty set is empty
pub no_plan : (sch : SchemeView) (part : List Grip) (s : StoreView) (locals : List Datum) → IsFixedPart sch [] part
    → plan_of part [] s locals ≡ []
no_plan sch part s locals (wishes, none, is) = ap (λ xs. xs ++ []) (is ∙ ap gathered none)
