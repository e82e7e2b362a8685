use Rattle.std.proofs.Common.{◌≡◌, ◌+◌, ◌-◌, ◌++◌, List, ℕ, sym, ap, ◌∙◌, arith, codes}
use Rattle.std.proofs.lemmas.List.{append_assoc}
use Rattle.std.specs.{String.{string_bytes}, Fmt.{decimal}}
use Rattle.sect_types.specs.declared.declarations.types.ValueType.{ValueType}
use Rattle.sect_c.specs.Naming.{type_c, field_c, field_type}
use Rattle.sect_c.proofs.Joined.{joined}
use Rattle.sect_c.proofs.sections.put_follow.Goals as goal

-- what is written at once
to_left : (a t p n q b r f g h k m : List ℕ)
    → a ++ t ++ (p ++ (n ++ (q ++ (b ++ (r ++ (f ++ (g ++ (b ++ h)))))))) ++ k ++ m
    ≡ a ++ t ++ p ++ n ++ q ++ b ++ r ++ f ++ g ++ b ++ h ++ k ++ m
to_left a t p n q b r f g h k m = simp append_assoc

pub returns : goal.returns
returns c =
    let p = c.args.program.now in
    let old = string_bytes c.args.text.now in
    let before = c.args.place - 1 in
    let blank : List ℕ = codes " " in
    let type = type_c p.source (field_type p c.args.field) in
    let letter : List ℕ = codes "p" in
    let is : List ℕ = codes " = p" in
    let test : List ℕ = codes " == NULL ? NULL : " in
    let object : List ℕ = codes "(&p" in
    let arrow : List ℕ = codes "->" in
    let read = c.args.read.now in
    let step = λ (n : ℕ). letter ++ (decimal n ++ (is ++ (decimal before ++ (test ++ (read
    ++ (object ++ (decimal before ++ arrow))))))) in
    let field = field_c p.source c.args.field in
    let end : List ℕ = codes ");" in
    let begun = string_bytes c.push_str.new.self in
    let typed = string_bytes c.put_type.new.text in
    let wrote = string_bytes c.write.new.self in
    let fielded = string_bytes c.put_field.new.text in
    let next : before + 1 ≡ c.args.place = omega (arith, c.requires.place) in
    let two = joined old blank type begun typed c.in_ok-push_str.ensures.bytes
    (c.in_ok-put_type.ensures ∙ ap (λ (t : ValueType). begun ++ type_c p.source t) c.field_type.ensures.holds) in
    let three = joined old (blank ++ type) (step (before + 1)) typed wrote two
    (c.in_ok-write.ensures.bytes ∙ ap (λ (n : ℕ). typed ++ step n) (sym next)) in
    let four = joined old (blank ++ type ++ step (before + 1)) field wrote fielded three c.in_ok-put_field.ensures in
    joined old (blank ++ type ++ step (before + 1) ++ field) end fielded (string_bytes c.push_str-2.new.self) four
    c.in_ok-push_str-2.ensures.bytes
    ∙ ap (λ w. old ++ w) (to_left blank type letter (decimal (before + 1)) is (decimal before) test read object arrow
    field end)
