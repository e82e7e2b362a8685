use Rattle.std.proofs.Common.{◌≡◌, ◌++◌, List, ℕ, [], ap, ◌∙◌, codes}
use Rattle.std.proofs.lemmas.Option.{get_or_from_slice_get}
use Rattle.std.specs.String.{string_bytes}
use Rattle.sect_types.specs.declared.declarations.types.ValueType.{ValueType}
use Rattle.sect_emit.specs.Listing.{by_number}
use Rattle.sect_c.specs.{Naming.{record_c}, Declarations.{field_line}}
use Rattle.sect_c.proofs.Joined.{joined}
use Rattle.sect_c.proofs.declarations.put_structure.Goals as goal

pub returns : goal.returns
returns c = λ fields at.
    let p = c.args.context.now.program.now in
    let line = field_line p c.args.context.now.looked.now c.args.of in
    let old = string_bytes c.args.text.now in
    let name = record_c p.source c.args.of in
    let head : List ℕ = codes " {\n  struct sect_object head;\n" in
    let last : List ℕ = codes "};\n" in
    let named = string_bytes c.put_record.new.text in
    let begun = string_bytes c.push_str.new.self in
    let lined = string_bytes c.put_field_lines.new.text in
    let lines = by_number line 0 fields in
    let added : lined ≡ begun ++ lines = c.in_ok-put_field_lines.ensures
    ∙ ap (λ (ts : List ValueType). begun ++ by_number line 0 ts)
    (get_or_from_slice_get p.records c.args.of fields [] at) in
    let two = joined old name head named begun c.in_ok-put_record.ensures c.in_ok-push_str.ensures.bytes in
    let three = joined old (name ++ head) lines begun lined two added in
    joined old (name ++ head ++ lines) last lined (string_bytes c.push_str-2.new.self) three
    c.in_ok-push_str-2.ensures.bytes
