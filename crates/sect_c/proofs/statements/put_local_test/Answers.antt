use Rattle.std.proofs.Common.{◌++◌, List, ℕ, codes}
use Rattle.std.specs.String.{string_bytes}
use Rattle.sect_emit.proofs.shared.Numbered.{on_ok}
use Rattle.sect_c.specs.{Naming.{local_c}, Statements.{fault_c}}
use Rattle.sect_c.proofs.Joined.{joined}
use Rattle.sect_c.proofs.statements.put_local_test.Goals as goal

pub returns : goal.returns
returns c =
    let s = c.args.standing.now in
    let old = string_bytes c.args.text.now in
    let first : List ℕ = codes "  if (" in
    let name = local_c c.args.context.now.program.now.source s.thread c.args.local in
    let test : List ℕ = codes " == NULL)" in
    let fault = fault_c s (codes "SECT_NULL") in
    let begun = string_bytes c.push_str.new.self in
    let named = string_bytes c.put_local.new.text in
    let tested = string_bytes c.push_str-2.new.self in
    let two = joined old first name begun named c.in_ok-push_str.ensures.bytes c.in_ok-put_local.ensures in
    let three = joined old (first ++ name) test named tested two c.in_ok-push_str-2.ensures.bytes in
    on_ok c.put_fault.result c.put_fault.ensures (λ put.
    joined old (first ++ name ++ test) fault tested (string_bytes c.put_fault.new.text) three put)
