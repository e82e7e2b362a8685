use Rattle.std.proofs.Common.{◌++◌, ap, ◌∙◌}
use Rattle.sect_types.specs.Programs.{ProgramView}
use Rattle.sect_names.specs.Schemes.{SchemeView}
use Rattle.sect_draw.specs.Graphs.{label_line, needs_words, node_closing}
use Rattle.sect_draw.proofs.Labels.{four_parts}
use Rattle.sect_draw.proofs.graphing.put_needed.Goals as goal

pub returns : goal.returns
returns c =
    let old = c.args.text.now.items in
    let program = c.program-program.ensures ∙ ap (λ (s : SchemeView). s.program) c.scheme.ensures in
    four_parts old c.put.new.text.items c.put_line.new.text.items c.put_line-2.new.text.items
    c.put_generated.new.text.items _ _ _ _
    (c.in_ok-put.ensures ∙ ap (λ t. old ++ t) (c.as_str.ensures.value ∙ c.in_ok-opening.ensures))
    (c.in_ok-put_line.ensures
    ∙ ap (λ t. c.put.new.text.items ++ label_line t) (c.as_str-2.ensures.value ∙ c.in_ok-deed.ensures))
    (c.in_ok-put_line-2.ensures
    ∙ ap (λ t. c.put_line.new.text.items ++ label_line t) (c.as_str-3.ensures.value ∙ (c.in_ok-needs.ensures
    ∙ ap (λ (p : ProgramView). needs_words p.source c.args.needed.now) program)))
    (c.in_ok-put_generated.ensures
    ∙ ap (λ (p : ProgramView). c.put_line-2.new.text.items ++ node_closing p.source c.args.own.now) program)
