use Rattle.std.proofs.Common.{◌++◌, sym, ap, subst, ◌∙◌, add-one}
use Rattle.std.specs.String.{string_bytes}
use Rattle.sect_editor.specs.Hovering.{AreAllNodesTold}
use Rattle.sect_editor.proofs.hover.all_nodes_text.Goals as goal

pub loop-section-preserved : goal.loop-section-preserved
loop-section-preserved c =
    let p = c.args.pointed.now in
    let before = string_bytes c.loop-section.text in
    let here = string_bytes c.in_ok-here.here in
    let after = string_bytes c.push_str.new.self in
    subst (λ n. AreAllNodesTold p.compiled.now p.spans.now p.at n after) (sym (add-one c.loop-section.section)) (
      before,
      here,
      c.loop-section.invariant,
      c.in_ok-here.ensures,
      c.in_ok-push_str.ensures.bytes ∙ ap (λ l. before ++ l) c.as_str.ensures.value,
    )
