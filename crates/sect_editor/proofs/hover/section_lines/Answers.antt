use Rattle.std.proofs.Common.{◌≡◌, ◌++◌, map, ap, subst, ◌∙◌}
use Rattle.std.specs.{Prelude.{codes}, String.{string_bytes}}
use Rattle.sect_types.specs.Programs.{ProgramView}
use Rattle.sect_names.specs.Schemes.{SchemeView}
use Rattle.sect_places.specs.NodeLines.{AreNodeLines}
use Rattle.sect_emit.specs.Explaining.{section_explained}
use Rattle.sect_editor.specs.Marks.{set_text}
use Rattle.sect_editor.proofs.Listing.{fence}
use Rattle.sect_editor.proofs.hover.section_lines.Goals as goal

pub returns : goal.returns
returns c =
    let v = c.args.compiled.now in
    let i = c.args.section in
    let lines = map (λ l. l.items) c.in_ok-lines.lines.items in
    let put = c.in_ok-put_explained_section.ensures in
    let set = set_text v i in
    let explained = section_explained v lines i put.0 in
    let begun : string_bytes c.put_set.new.text ≡ codes "Locks: " ++ set =
    c.in_ok-put_set.ensures ∙ ap (λ l. l ++ set) c.in_ok-text.ensures.ok in
    let told : string_bytes c.put_explained_section.new.text
    ≡ (codes "Locks: " ++ set) ++ codes "\n\n```\n" ++ explained =
    put.2 ∙ ap (λ ls. string_bytes c.push_str.new.self ++ section_explained v (map (λ l. l.items) ls) i put.0)
    c.as_slice.ensures.value
    ∙ ap (λ l. l ++ explained) (c.in_ok-push_str.ensures.bytes ∙ ap (λ l. l ++ codes "\n\n```\n") begun) in (
      lines,
      subst (λ (p : ProgramView). AreNodeLines c.args.source.now p lines)
          (c.program.ensures ∙ ap (λ (s : SchemeView). s.program) c.scheme.ensures) c.in_ok-lines.ensures.are,
      put.0,
      put.1,
      c.in_ok-push_str-2.ensures.bytes ∙ ap (λ l. l ++ codes "```\n") told
          ∙ fence (codes "Locks: " ++ set) (codes "\n\n") (codes "```\n") explained (codes "```\n"),
    )
