use Rattle.std.proofs.{Common.{◌≡◌, ◌++◌, List, ℕ, [], ap, ◌∙◌, codes}, lemmas.List.{append_assoc}}
use Rattle.std.proofs.lemmas.Option.{get_or_from_slice_get}
use Rattle.std.specs.{String.{string_bytes}, Fmt.{decimal}}
use Rattle.sect_types.specs.declared.declarations.types.ValueType.{ValueType}
use Rattle.sect_emit.specs.Listing.{by_number}
use Rattle.sect_c.specs.{Naming.{record_c}, Declarations.{shown_line}}
use Rattle.sect_c.proofs.Joined.{joined}
use Rattle.sect_c.proofs.declarations.put_case.Goals as goal

-- what is written at once
to_left : (x d y a b l e : List ℕ) → x ++ (d ++ y) ++ a ++ b ++ l ++ e ≡ x ++ d ++ y ++ a ++ b ++ l ++ e
to_left x d y a b l e = simp append_assoc

pub returns : goal.returns
returns c = λ fields at.
    let p = c.args.context.now.program.now in
    let line = shown_line p c.args.context.now.looked.now c.args.of in
    let old = string_bytes c.args.text.now in
    let case : List ℕ = codes "  case " in
    let number = decimal c.args.of in
    let begin : List ℕ = codes ": {\n    " in
    let first = case ++ (number ++ begin) in
    let name = record_c p.source c.args.of in
    let object : List ℕ = codes " *o = (void *)object; (void)o;\n" in
    let last : List ℕ = codes "    break;\n  }\n" in
    let wrote = string_bytes c.write.new.self in
    let named = string_bytes c.put_record.new.text in
    let begun = string_bytes c.push_str.new.self in
    let lined = string_bytes c.put_shown_lines.new.text in
    let lines = by_number line 0 fields in
    let added : lined ≡ begun ++ lines = c.in_ok-put_shown_lines.ensures
    ∙ ap (λ (ts : List ValueType). begun ++ by_number line 0 ts)
    (get_or_from_slice_get p.records c.args.of fields [] at) in
    let two = joined old first name wrote named c.in_ok-write.ensures.bytes c.in_ok-put_record.ensures in
    let three = joined old (first ++ name) object named begun two c.in_ok-push_str.ensures.bytes in
    let four = joined old (first ++ name ++ object) lines begun lined three added in
    joined old (first ++ name ++ object ++ lines) last lined (string_bytes c.push_str-2.new.self) four
    c.in_ok-push_str-2.ensures.bytes
    ∙ ap (λ w. old ++ w) (to_left case number begin name object lines last)
