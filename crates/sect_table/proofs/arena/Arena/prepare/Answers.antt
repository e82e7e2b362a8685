use Rattle.std.proofs.Common.{arith, ◌≡◌, ◌<◌, length, sym, ◌∙◌, ap}
use Rattle.sect_table.specs.Contents.{number_of}
use Rattle.sect_table.proofs.Entries.{put-itself, put-unknown, number-push, number_of-le}
use Rattle.sect_table.proofs.arena.Arena.prepare.Goals as goal

pub add_key_and_node-requires : goal.add_key_and_node-requires
add_key_and_node-requires c =
    let new : number_of c.args.key c.args.self.now.entries ≡ length c.args.self.now.entries =
    sym c.requires ∙ (c.in-true-true.is-0 ∙ c.key_count.ensures) in
    new

pub returns-in_ok-add_key_and_node-in-true-true-clause-number :
    goal.returns-in_ok-add_key_and_node-in-true-true-clause-number
returns-in_ok-add_key_and_node-in-true-true-clause-number c =
    let new : number_of c.args.key c.args.self.now.entries ≡ length c.args.self.now.entries =
    sym c.requires ∙ (c.in-true-true.is-0 ∙ c.key_count.ensures) in
    c.requires ∙ (sym (number-push c.args.key c.args.self.now.entries new)
    ∙ sym (ap (number_of c.args.key) c.in_ok-add_key_and_node-in-true-true.ensures.entries))

pub returns-in_ok-add_key_and_node-in-true-true-clause-entries :
    goal.returns-in_ok-add_key_and_node-in-true-true-clause-entries
returns-in_ok-add_key_and_node-in-true-true-clause-entries c =
    let new : number_of c.args.key c.args.self.now.entries ≡ length c.args.self.now.entries =
    sym c.requires ∙ (c.in-true-true.is-0 ∙ c.key_count.ensures) in
    c.in_ok-add_key_and_node-in-true-true.ensures.entries ∙ sym (put-unknown c.args.key c.args.self.now.entries new)

pub add_key-requires : goal.add_key-requires
add_key-requires c =
    let new : number_of c.args.key c.args.self.now.entries ≡ length c.args.self.now.entries =
    sym c.requires ∙ (c.in-true-false.is-0 ∙ c.key_count.ensures) in
    new

pub returns-in_err-add_key-in-true-false-clause-enough : goal.returns-in_err-add_key-in-true-false-clause-enough
returns-in_err-add_key-in-true-false-clause-enough c =
    let new : number_of c.args.key c.args.self.now.entries ≡ length c.args.self.now.entries =
    sym c.requires ∙ (c.in-true-false.is-0 ∙ c.key_count.ensures) in
    λ below some. absurd (omega arith)

pub returns-in_ok-add_key-in-true-false-clause-number : goal.returns-in_ok-add_key-in-true-false-clause-number
returns-in_ok-add_key-in-true-false-clause-number c =
    let new : number_of c.args.key c.args.self.now.entries ≡ length c.args.self.now.entries =
    sym c.requires ∙ (c.in-true-false.is-0 ∙ c.key_count.ensures) in
    c.requires ∙ (sym (number-push c.args.key c.args.self.now.entries new)
    ∙ sym (ap (number_of c.args.key) c.in_ok-add_key-in-true-false.ensures.entries))

pub returns-in_ok-add_key-in-true-false-clause-entries : goal.returns-in_ok-add_key-in-true-false-clause-entries
returns-in_ok-add_key-in-true-false-clause-entries c =
    let new : number_of c.args.key c.args.self.now.entries ≡ length c.args.self.now.entries =
    sym c.requires ∙ (c.in-true-false.is-0 ∙ c.key_count.ensures) in
    c.in_ok-add_key-in-true-false.ensures.entries ∙ sym (put-unknown c.args.key c.args.self.now.entries new)

pub returns-in_ok-add_node-in-false-true-clause-known : goal.returns-in_ok-add_node-in-false-true-clause-known
returns-in_ok-add_node-in-false-true-clause-known c =
    let len = c.key_count.ensures in
    let le = number_of-le c.args.key c.args.self.now.entries in
    let number = c.requires in
    let apart = c.in-false-true.is-0 in
    let known : number_of c.args.key c.args.self.now.entries < length c.args.self.now.entries = omega arith in
    (let kept : length c.add_node.new.self.entries ≡ length c.args.self.now.entries =
    ap length c.add_node.ensures.entries in
    omega arith)

pub returns-in_ok-add_node-in-false-true-clause-entries : goal.returns-in_ok-add_node-in-false-true-clause-entries
returns-in_ok-add_node-in-false-true-clause-entries c =
    let len = c.key_count.ensures in
    let le = number_of-le c.args.key c.args.self.now.entries in
    let number = c.requires in
    let apart = c.in-false-true.is-0 in
    let known : number_of c.args.key c.args.self.now.entries < length c.args.self.now.entries = omega arith in
    c.add_node.ensures.entries ∙ sym (put-itself c.args.key c.args.self.now.entries known)

pub returns-in-false-false-clause-known : goal.returns-in-false-false-clause-known
returns-in-false-false-clause-known c =
    let len = c.key_count.ensures in
    let le = number_of-le c.args.key c.args.self.now.entries in
    let number = c.requires in
    let apart = c.in-false-false.is-0 in
    let known : number_of c.args.key c.args.self.now.entries < length c.args.self.now.entries = omega arith in
    omega arith

pub returns-in-false-false-clause-entries : goal.returns-in-false-false-clause-entries
returns-in-false-false-clause-entries c =
    let len = c.key_count.ensures in
    let le = number_of-le c.args.key c.args.self.now.entries in
    let number = c.requires in
    let apart = c.in-false-false.is-0 in
    let known : number_of c.args.key c.args.self.now.entries < length c.args.self.now.entries = omega arith in
    sym (put-itself c.args.key c.args.self.now.entries known)
