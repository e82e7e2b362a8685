use Rattle.std.proofs.Common.{◌≡◌, ◌≤◌, [], ◌∷◌, ◌++◌, codes, length, sym, ap, subst, ◌∙◌}
use Rattle.std.specs.String.{string_bytes}
use Rattle.serde_json.specs.{Data.{Data, string}, View.{view}, Written.{has_float, compact_text}}
use Rattle.sect_emit.specs.Explaining.{section_deed}
use Rattle.sect_json.specs.Values.{count}
use Rattle.sect_json.specs.steps.{Stepping.{rest_with}, Writes.{tail_text}}
use Rattle.sect_json.proofs.Texts.{some_text}
use Rattle.sect_json.proofs.step_texts.tail_of.Goals as goal

pub put_tail-requires-clause-plain : goal.put_tail-requires-clause-plain
put_tail-requires-clause-plain c = ap has_float c.in_ok-rest_value.ensures

pub put_tail-requires-clause-some : goal.put_tail-requires-clause-some
put_tail-requires-clause-some c =
    subst (λ (d : Data). 1 ≤ length (compact_text d)) (sym c.in_ok-rest_value.ensures)
    (some_text ((codes "node", count c.args.node)
    ∷ (codes "text", string (string_bytes c.put_section_node.new.text)) ∷ []))

pub returns : goal.returns
returns c =
    let deed = section_deed c.args.compiled.now c.args.section c.args.node in
    let text : string_bytes c.put_section_node.new.text ≡ deed =
    c.in_ok-put_section_node.ensures ∙ ap (λ bs. bs ++ deed) c.new-text.ensures.bytes in
    c.in_ok-put_tail.ensures
    ∙ (ap (λ bs. bs ++ tail_text (view c.in_ok-rest_value.field-0)) c.new-tail.ensures.items
    ∙ ap tail_text (c.in_ok-rest_value.ensures ∙ ap (rest_with c.args.node) text))
