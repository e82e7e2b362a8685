use Rattle.std.proofs.Common.{◌≡◌, ◌++◌, List, ℕ, length, ap, ◌∙◌, codes}
use Rattle.std.specs.{String.{string_bytes}, Fmt.{decimal}}
use Rattle.sect_types.specs.declared.expansion.action.Field.{Field}
use Rattle.sect_points.specs.{declared.holders.Variable.{Variable}, Paths.{base_of, fields_of}}
use Rattle.sect_names.proofs.shared.Named.{base_there}
use Rattle.sect_emit.specs.Listing.{by_number}
use Rattle.sect_c.specs.Sections.{first_c, follow_c}
use Rattle.sect_c.proofs.Joined.{joined}
use Rattle.sect_c.proofs.sections.put_walk.Goals as goal

pub put_first-requires : goal.put_first-requires
put_first-requires c = rw c.base.ensures (base_there c.args.program.now c.args.path.now c.requires)

pub returns : goal.returns
returns c =
    let p = c.args.program.now in
    let q = c.args.path.now in
    let old = string_bytes c.args.text.now in
    let first = first_c p (base_of q) in
    let follows = by_number (follow_c p c.args.read.now) 0 (fields_of q) in
    let test : List ℕ = codes " if (p" in
    let last = decimal (length (fields_of q)) in
    let end : List ℕ = codes " != NULL" in
    let begun = string_bytes c.put_first.new.text in
    let followed = string_bytes c.put_follows.new.text in
    let tested = string_bytes c.push_str.new.self in
    let wrote = string_bytes c.write.new.self in
    let one : begun ≡ old ++ first = c.in_ok-put_first.ensures ∙ ap (λ (v : Variable). old ++ first_c p v) c.base.ensures in
    let two = joined old first follows begun followed one c.in_ok-put_follows.ensures in
    let three = joined old (first ++ follows) test followed tested two c.in_ok-push_str.ensures.bytes in
    let four = joined old (first ++ follows ++ test) last tested wrote three (c.in_ok-write.ensures.bytes
    ∙ ap (λ (fs : List Field). tested ++ decimal (length fs)) c.fields.ensures.fields) in
    joined old (first ++ follows ++ test ++ last) end wrote (string_bytes c.push_str-2.new.self) four
    c.in_ok-push_str-2.ensures.bytes
