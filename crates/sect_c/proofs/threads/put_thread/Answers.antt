use Rattle.std.proofs.Common.{◌≡◌, ◌++◌, List, ℕ, ap, ◌∙◌, codes}
use Rattle.std.specs.String.{string_bytes}
use Rattle.sect_types.specs.{Programs.{ProgramView}, Sections.{sections_of}}
use Rattle.sect_names.specs.Schemes.{SchemeView}
use Rattle.sect_emit.specs.{Compiled.{program_of}, Listing.{by_number}}
use Rattle.sect_c.specs.Sections.{thread_opening_c, thread_statements_c, own_section_c}
use Rattle.sect_c.proofs.Joined.{joined}
use Rattle.sect_c.proofs.threads.put_thread.Goals as goal

pub returns : goal.returns
returns c = λ of at.
    let v = c.args.emitted.now.compiled.now in
    let taken = c.args.emitted.now.taken.now in
    let u = c.args.thread in
    let old = string_bytes c.args.text.now in
    let opening = thread_opening_c (program_of v) u in
    let statements = thread_statements_c v taken u of in
    let sections = by_number (own_section_c v taken u) 0 (sections_of (program_of v).texts) in
    let end : List ℕ = codes "}\n" in
    let opened = string_bytes c.put_opening.new.text in
    let stated = string_bytes c.put_statements.new.text in
    let sectioned = string_bytes c.put_sections.new.text in
    let one : opened ≡ old ++ opening = c.in_ok-put_opening.ensures
    ∙ ap (λ (p : ProgramView). old ++ thread_opening_c p u)
    (c.program-program.ensures ∙ ap (λ (s : SchemeView). s.program) c.scheme.ensures) in
    let two = joined old opening statements opened stated one (c.in_ok-put_statements.ensures of at) in
    let three = joined old (opening ++ statements) sections stated sectioned two c.in_ok-put_sections.ensures in
    joined old (opening ++ statements ++ sections) end sectioned (string_bytes c.push_str.new.self) three
    c.in_ok-push_str.ensures.bytes
