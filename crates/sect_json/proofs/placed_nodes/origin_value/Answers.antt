use Rattle.std.proofs.{Common.{◌≡◌, Some, sym, ap, ◌∙◌}, lemmas.Option.{slice_get-get_or, slice_get_past}}
use Rattle.std.proofs.lemmas.Result.{IfOk-weaker}
use Rattle.std.specs.Prelude.{slice_get}
use Rattle.serde_json.specs.{Data.{null}, View.{view}, declared.value.Value.{Null}}
use Rattle.sect_json.specs.{Inspecting.{origin_with}, Sites.{bytes_json, call_of, place_of}}
use Rattle.sect_json.proofs.Rows.{view_null}
use Rattle.sect_json.proofs.placed_nodes.origin_value.Goals as goal

pub returns-in-None : goal.returns-in-None
returns-in-None c =
    let source = c.args.source.now in
    let none = slice_get_past c.args.spans.now c.args.node c.in-None.ensures.lookup.3 in
    IfOk-weaker c.told_origin.result _ _
    (λ v h. h ∙ (ap (λ d. origin_with d (view Null)) view_null ∙ (ap (origin_with null) view_null
    ∙ ap (λ o. origin_with (bytes_json source (call_of o)) (bytes_json source (place_of o))) (sym none))))
    c.told_origin.ensures

pub returns-in-Some : goal.returns-in-Some
returns-in-Some c =
    let source = c.args.source.now in
    let spans = c.args.spans.now in
    let n = c.args.node in
    let span = c.in-Some.span.now in
    let look = c.in-Some.ensures.lookup in
    let some : slice_get spans n ≡ Some span =
    slice_get-get_or spans n span look.3.0 ∙ ap Some (sym (look.3.1 span)) in
    IfOk-weaker c.span_origin.result _ _
    (λ v h. h ∙ ap (λ o. origin_with (bytes_json source (call_of o)) (bytes_json source (place_of o))) (sym some))
    c.span_origin.ensures
