use Rattle.std.proofs.Common.{◌++◌, List, ℕ, codes}
use Rattle.std.specs.{String.{string_bytes}, List.{flat_map}}
use Rattle.sect_modes.specs.Word.{unit_of, against}
use Rattle.sect_c.specs.Words.{modes, entry_c}
use Rattle.sect_c.proofs.Joined.{joined}
use Rattle.sect_c.proofs.words.put_words.Goals as goal

pub returns : goal.returns
returns c =
    let old = string_bytes c.args.text.now in
    let first : List ℕ = codes "static const uint64_t sect_unit[] = {\n" in
    let units = flat_map (λ m. entry_c (unit_of m)) modes in
    let second : List ℕ = codes "};\nstatic const uint64_t sect_against[] = {\n" in
    let masks = flat_map (λ m. entry_c (against m)) modes in
    let last : List ℕ = codes "};\n" in
    let begun = string_bytes c.push_str.new.self in
    let counted = string_bytes c.put_units.new.text in
    let between = string_bytes c.push_str-2.new.self in
    let masked = string_bytes c.put_masks.new.text in
    let two = joined old first units begun counted c.in_ok-push_str.ensures.bytes c.in_ok-put_units.ensures in
    let three = joined old (first ++ units) second counted between two c.in_ok-push_str-2.ensures.bytes in
    let four = joined old (first ++ units ++ second) masks between masked three c.in_ok-put_masks.ensures in
    joined old (first ++ units ++ second ++ masks) last masked (string_bytes c.push_str-3.new.self) four
    c.in_ok-push_str-3.ensures.bytes
