use Rattle.std.proofs.{Common.{◌++◌, [], sym, ap, subst, ◌∙◌}, lemmas.Option.{get_or_from_slice_get}}
use Rattle.std.specs.Prelude.{codes}
use Rattle.sect_names.specs.Printing.{AreNamed}
use Rattle.sect_emit.specs.Compiled.{program_of}
use Rattle.sect_editor.specs.Hovering.{node_lines}
use Rattle.sect_editor.proofs.hover.node_text.Goals as goal

pub put_node-requires-clause-named : goal.put_node-requires-clause-named
put_node-requires-clause-named c =
    subst (AreNamed (program_of c.args.compiled.now)) (sym c.as_slice.ensures.value)
    (c.section_locks.ensures.named c.args.node c.in_ok-needed.needed.items c.in_ok-needed.ensures)

pub returns : goal.returns
returns c =
    let v = c.args.compiled.now in
    let i = c.args.section in
    let n = c.args.node in
    let all = c.section_locks.result.now.at in
    let lines = node_lines v i n in
    let needed = c.as_slice.ensures.value
    ∙ sym (get_or_from_slice_get all n c.in_ok-needed.needed.items [] c.in_ok-needed.ensures) in (
      all,
      c.section_locks.ensures.needed,
      c.in_ok-push_str.ensures.bytes
          ∙ ap (λ l. l ++ codes "```\n") (c.in_ok-put_node.ensures
          ∙ (ap (λ l. l ++ lines c.as_slice.result.now) c.in_ok-text.ensures.ok
          ∙ ap (λ ls. codes "```\n" ++ lines ls) needed)),
    )
