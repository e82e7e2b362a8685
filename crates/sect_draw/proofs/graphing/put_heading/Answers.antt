use Rattle.std.proofs.Common.{◌++◌, ap, ◌∙◌}
use Rattle.sect_draw.specs.Graphs.{label_line}
use Rattle.sect_draw.proofs.Labels.{four_parts}
use Rattle.sect_draw.proofs.graphing.put_heading.Goals as goal

pub returns : goal.returns
returns c =
    let old = c.args.text.now.items in
    four_parts old c.put.new.text.items c.put_line.new.text.items c.put_line-2.new.text.items
    c.put-2.new.text.items _ _ _ _
    (c.in_ok-put.ensures ∙ ap (λ t. old ++ t) (c.as_str.ensures.value ∙ c.in_ok-opening.ensures.ok))
    (c.in_ok-put_line.ensures
    ∙ ap (λ t. c.put.new.text.items ++ label_line t) (c.as_str-2.ensures.value ∙ c.in_ok-named.ensures))
    (c.in_ok-put_line-2.ensures
    ∙ ap (λ t. c.put_line.new.text.items ++ label_line t) (c.as_str-3.ensures.value ∙ c.in_ok-takes.ensures))
    c.in_ok-put-2.ensures
