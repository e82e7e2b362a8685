use Rattle.std.proofs.Common.{◌≡◌, ◌++◌, sym, ap, subst, ◌∙◌}
use Rattle.std.specs.{Prelude.{codes}, String.{string_bytes}}
use Rattle.sect_types.specs.Programs.{ProgramView}
use Rattle.sect_names.specs.{Schemes.{SchemeView}, Printing.{AreNamed, locks_text}}
use Rattle.sect_emit.specs.Explaining.{section_deed}
use Rattle.sect_editor.specs.Hovering.{node_head}
use Rattle.sect_editor.proofs.Listing.{piece_more}
use Rattle.sect_editor.proofs.hover.put_node.Goals as goal

pub put_locks-requires : goal.put_locks-requires
put_locks-requires c =
    subst (λ (p : ProgramView). AreNamed p c.args.needed.now)
    (sym (c.program.ensures ∙ ap (λ (s : SchemeView). s.program) c.scheme.ensures)) c.requires.named

pub returns : goal.returns
returns c =
    let v = c.args.compiled.now in
    let i = c.args.section in
    let n = c.args.node in
    let old = string_bytes c.args.text.now in
    let needed = c.args.needed.now in
    let head = node_head i n in
    let deed = section_deed v i n in
    let words = codes "\nneeded from here on: " in
    let locks = locks_text v.scheme.program.source needed in
    let put : string_bytes c.put_locks.new.text ≡ string_bytes c.push_str.new.self ++ locks =
    c.in_ok-put_locks.ensures ∙ ap (λ (p : ProgramView). string_bytes c.push_str.new.self ++ locks_text p.source needed)
    (c.program.ensures ∙ ap (λ (s : SchemeView). s.program) c.scheme.ensures) in
    let done : string_bytes c.put_section_node.new.text ≡ string_bytes c.put_node_head.new.text ++ deed =
    c.in_ok-put_section_node.ensures
    ∙ ap (λ k. string_bytes c.put_node_head.new.text ++ section_deed v i k) c.from.ensures in
    let first = piece_more old head _ _ deed c.in_ok-put_node_head.ensures done in
    let second = piece_more old (head ++ deed) _ _ words first c.in_ok-push_str.ensures.bytes in
    let third = piece_more old (head ++ deed ++ words) _ _ locks second put in
    piece_more old (head ++ deed ++ words ++ locks) _ _ (codes "\n") third c.in_ok-push_str-2.ensures.bytes
