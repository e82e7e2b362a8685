use Rattle.std.proofs.{Common.{◌≡◌, List, length, sym, subst, ap, ◌∙◌}, lemmas.Result.{IfOk-weaker}}
use Rattle.serde_json.specs.View.{view}
use Rattle.sect_places.specs.declared.name_use.NameSpan.{NameSpan}
use Rattle.sect_editor.specs.Queries.{answer_by, declared_at, new_name}
use Rattle.sect_editor.specs.steps.Naming.{AreNamesWithin, IsFoundWithin}
use Rattle.sect_editor.proofs.Within.{declared_within}
use Rattle.sect_editor.proofs.query.answer_query.Goals as goal

pub answer_of-requires-clause-declared : goal.answer_of-requires-clause-declared
answer_of-requires-clause-declared c =
    let text = c.args.text in
    let source = text.source.now in
    let names = c.as_slice.result.now in
    let all = subst (AreNamesWithin (length source)) (sym c.as_slice.ensures.value) c.in_ok-names.ensures.within in
    subst (IsFoundWithin (length source)) (sym c.declared_at-declared.ensures)
    (declared_within (length source) names all text.reading.encoding source c.place_at-place.result)

pub returns : goal.returns
returns c =
    let uri = c.args.text.uri.now in
    let source = c.args.text.source.now in
    let at = declared_at c.args.text.reading.encoding source in
    let names : List NameSpan = c.in_ok-names.names.items in
    let declared : c.declared_at-declared.result ≡ at names c.place_at-place.result =
    c.declared_at-declared.ensures ∙ ap (λ ns. at ns c.place_at-place.result) c.as_slice.ensures.value in
    let name = new_name (view c.args.message.now) in
    let by = answer_by c.args.query uri source in
    IfOk-weaker c.answer_of.result _ _
    (λ answer h. (
      names,
      c.in_ok-names.ensures.names,
      h ∙ (ap (by c.as_slice-2.result.now c.declared_at-declared.result) c.text_at-name.ensures
          ∙ (ap (λ ns. by ns c.declared_at-declared.result name) c.as_slice-2.ensures.value
          ∙ ap (λ d. by names d name) (declared ∙ ap (at names) c.place_at-place.ensures))),
    )) c.answer_of.ensures
