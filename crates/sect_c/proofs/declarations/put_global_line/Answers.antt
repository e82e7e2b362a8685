use Rattle.std.proofs.{Common.{◌≡◌, ◌++◌, List, ℕ, ap, ◌∙◌, codes}, lemmas.List.{append_assoc}}
use Rattle.std.specs.{String.{string_bytes}, Fmt.{decimal}}
use Rattle.sect_c.specs.Naming.{record_c, global_c}
use Rattle.sect_c.proofs.Joined.{joined}
use Rattle.sect_c.proofs.declarations.put_global_line.Goals as goal

-- what is written at once
to_left : (a b d e x n y r z : List ℕ) → a ++ b ++ d ++ e ++ (x ++ (n ++ (y ++ (r ++ z))))
    ≡ a ++ b ++ d ++ e ++ x ++ n ++ y ++ r ++ z
to_left a b d e x n y r z = simp append_assoc

pub returns : goal.returns
returns c =
    let t = c.args.program.now.source in
    let old = string_bytes c.args.text.now in
    let first : List ℕ = codes "static _Alignas(64) " in
    let structure = record_c t c.args.of in
    let blank : List ℕ = codes " " in
    let name = global_c t c.args.global in
    let head : List ℕ = codes " = { .head = { .number = " in
    let number = decimal c.args.global in
    let comma : List ℕ = codes ", .record = " in
    let of = decimal c.args.of in
    let end : List ℕ = codes " } };\n" in
    let begun = string_bytes c.push_str.new.self in
    let recorded = string_bytes c.put_record.new.text in
    let parted = string_bytes c.push_str-2.new.self in
    let named = string_bytes c.put_global.new.text in
    let two = joined old first structure begun recorded c.in_ok-push_str.ensures.bytes c.in_ok-put_record.ensures in
    let three = joined old (first ++ structure) blank recorded parted two c.in_ok-push_str-2.ensures.bytes in
    let four = joined old (first ++ structure ++ blank) name parted named three c.in_ok-put_global.ensures in
    joined old (first ++ structure ++ blank ++ name) (head ++ (number ++ (comma ++ (of ++ end)))) named
    (string_bytes c.write.new.self) four c.in_ok-write.ensures.bytes
    ∙ ap (λ w. old ++ w) (to_left first structure blank name head number comma of end)
