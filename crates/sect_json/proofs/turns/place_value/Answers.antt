use Rattle.std.proofs.{Common.{sym, ap, subst, ◌∙◌}, lemmas.Result.{IfOk-weaker}}
use Rattle.serde_json.specs.{Data.{null}, View.{view}, declared.value.Value.{Null}}
use Rattle.sect_world.specs.Standings.{IsStandingThere}
use Rattle.sect_json.specs.{Inspecting.{origin_with}, Turns.{place_at}}
use Rattle.sect_json.proofs.Rows.{view_null}
use Rattle.sect_json.proofs.turns.place_value.Goals as goal

pub origin_at-requires-clause-there : goal.origin_at-requires-clause-there
origin_at-requires-clause-there c =
    subst (IsStandingThere c.args.of.now.compiled.now) c.in-At.is c.requires.there

pub returns-in-At : goal.returns-in-At
returns-in-At c =
    let of = c.args.of.now in
    IfOk-weaker c.origin_at.result _ _ (λ v h. h ∙ ap (place_at of.source.now of.spans.now) (sym c.in-At.is))
    c.origin_at.ensures

pub returns-in-Broken : goal.returns-in-Broken
returns-in-Broken c =
    let of = c.args.of.now in
    IfOk-weaker c.told_origin.result _ _
    (λ v h. h ∙ (ap (λ d. origin_with d (view Null)) view_null ∙ (ap (origin_with null) view_null
    ∙ ap (place_at of.source.now of.spans.now) (sym c.in-Broken.is)))) c.told_origin.ensures
