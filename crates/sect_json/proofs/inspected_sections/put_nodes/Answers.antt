use Rattle.std.proofs.Common.{◌++◌, length, map, codes, sym, ap, subst, ◌∙◌, arith}
use Rattle.serde_json.specs.Written.{compact_text}
use Rattle.sect_types.specs.Programs.{ProgramView}
use Rattle.sect_names.specs.{Printing.{AreNamed}, Schemes.{SchemeView}}
use Rattle.sect_emit.specs.Compiled.{program_of}
use Rattle.sect_json.specs.{Inspecting.{section_node_json}, Locks.{lock_json}, Values.{list}}
use Rattle.sect_json.specs.steps.Writes.{AreLockTexts, name_text}
use Rattle.sect_json.proofs.{Sections.{place_next, node_written}, Texts.{places_closed}}
use Rattle.sect_json.proofs.inspected_sections.put_nodes.Goals as goal

pub put_needs-requires-clause-told : goal.put_needs-requires-clause-told
put_needs-requires-clause-told c =
    let program = c.program-program.ensures ∙ ap (λ (s : SchemeView). s.program) c.scheme.ensures in
    subst (λ (p : ProgramView). AreLockTexts p.source c.loop-node.texts) (sym program) c.loop-node.invariant.told

pub put_needs-requires-clause-named : goal.put_needs-requires-clause-named
put_needs-requires-clause-named c =
    let program = c.program-program.ensures ∙ ap (λ (s : SchemeView). s.program) c.scheme.ensures in
    subst (λ (p : ProgramView). AreNamed p c.as_slice.result.now) (sym program)
    (subst (AreNamed (program_of c.args.of.now.compiled.now)) (sym c.as_slice.ensures.value)
    (c.section_locks-locks.ensures.named c.loop-node.node c.in_ok-needed.needed.items c.in_ok-needed.ensures))

pub loop-node-preserved : goal.loop-node-preserved
loop-node-preserved c =
    let of = c.args.of.now in
    let v = of.compiled.now in
    let i = c.args.section in
    let n = c.loop-node.node in
    let needed = c.in_ok-needed.needed.items in
    let program = c.program-program.ensures ∙ ap (λ (s : SchemeView). s.program) c.scheme.ensures in
    let begun = c.put_comma.new.out.items in
    record {
      told = subst (λ (p : ProgramView). AreLockTexts p.source c.put_needs.new.texts) program
          c.in_ok-put_needs.ensures.told;
      added = place_next (section_node_json v of.source.now of.spans.now i) c.section_locks-locks.result.now.at n needed
          c.in_ok-needed.ensures c.loop-node.out.items begun c.put_node.new.out.items _ c.loop-node.invariant.added
          c.in_ok-put_comma.ensures
          (node_written v of.source.now of.spans.now i n needed begun c.put_needs.new.out.items c.put_node.new.out.items
          (c.in_ok-put_needs.ensures.text
          ∙ (ap (λ ls. begun ++ (name_text 123 (codes "needs")
          ++ compact_text (list (map (lock_json c.program-program.result.now.source) ls)))) c.as_slice.ensures.value
          ∙ ap (λ (p : ProgramView). begun ++ (name_text 123 (codes "needs")
          ++ compact_text (list (map (lock_json p.source) needed)))) program))
          c.in_ok-put_node.ensures);
    }

pub returns : goal.returns
returns c =
    let of = c.args.of.now in
    let at = c.section_locks-locks.result.now.at in
    let many = c.section_locks-locks.ensures.needed.count in
    let exit = c.exit-node-end.ensures.number ∙ ap length c.graphed_flow.ensures in
    record {
      needed = at;
      at = c.section_locks-locks.ensures.needed;
      written = places_closed (section_node_json of.compiled.now of.source.now of.spans.now c.args.section) at
          c.loop-node.node _ _ _ _
          (omega (arith, many, exit, c.loop-node-test.false, c.loop-node.auto.node-end)) c.in_ok-push.ensures.items
          c.loop-node.invariant.added c.in_ok-push-2.ensures.items;
    }
