use Rattle.std.proofs.{Common.{◌≡◌, ◌++◌, List, ℕ, ap, ◌∙◌, codes}, lemmas.List.{append_assoc}}
use Rattle.std.specs.String.{string_bytes}
use Rattle.sect_emit.proofs.shared.Numbered.{on_ok}
use Rattle.sect_c.specs.{Naming.{local_c, value_c}, Statements.{operation_c, fault_c}}
use Rattle.sect_c.proofs.Joined.{joined}
use Rattle.sect_c.proofs.statements.put_compute.Goals as goal

-- what is written at once
to_left : (a o b l d v w e f : List ℕ) → a ++ (o ++ b) ++ l ++ d ++ v ++ d ++ w ++ e ++ f
    ≡ a ++ o ++ b ++ l ++ d ++ v ++ d ++ w ++ e ++ f
to_left a o b l d v w e f = simp append_assoc

pub returns : goal.returns
returns c =
    let t = c.args.context.now.program.now.source in
    let s = c.args.standing.now in
    let old = string_bytes c.args.text.now in
    let first : List ℕ = codes "  if (" in
    let function = operation_c c.args.computed.operator in
    let opens : List ℕ = codes "(&" in
    let target = local_c t s.thread c.args.target in
    let comma : List ℕ = codes ", " in
    let left = value_c t s.thread c.args.computed.left in
    let right = value_c t s.thread c.args.computed.right in
    let closes : List ℕ = codes "))" in
    let fault = fault_c s (codes "SECT_OVERFLOW") in
    let head = first ++ (function ++ opens) in
    let wrote = string_bytes c.write.new.self in
    let named = string_bytes c.put_local.new.text in
    let parted = string_bytes c.push_str.new.self in
    let valued = string_bytes c.put_value.new.text in
    let again = string_bytes c.push_str-2.new.self in
    let both = string_bytes c.put_value-2.new.text in
    let closed = string_bytes c.push_str-3.new.self in
    let one : wrote ≡ old ++ head = c.in_ok-write.ensures.bytes
    ∙ ap (λ (w : List ℕ). old ++ (first ++ (w ++ opens))) c.operation.ensures in
    let two = joined old head target wrote named one c.in_ok-put_local.ensures in
    let three = joined old (head ++ target) comma named parted two c.in_ok-push_str.ensures.bytes in
    let four = joined old (head ++ target ++ comma) left parted valued three c.in_ok-put_value.ensures in
    let five = joined old (head ++ target ++ comma ++ left) comma valued again four c.in_ok-push_str-2.ensures.bytes in
    let six = joined old (head ++ target ++ comma ++ left ++ comma) right again both five
    c.in_ok-put_value-2.ensures in
    let seven = joined old (head ++ target ++ comma ++ left ++ comma ++ right) closes both closed six
    c.in_ok-push_str-3.ensures.bytes in
    on_ok c.put_fault.result c.put_fault.ensures (λ put.
    joined old (head ++ target ++ comma ++ left ++ comma ++ right ++ closes) fault closed
    (string_bytes c.put_fault.new.text) seven put
    ∙ ap (λ w. old ++ w) (to_left first function opens target comma left right closes fault))
