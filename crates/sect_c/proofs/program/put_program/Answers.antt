use Rattle.std.proofs.Common.{◌≡◌, ◌++◌, List, ℕ, ap, ◌∙◌, codes}
use Rattle.std.specs.String.{string_bytes}
use Rattle.sect_types.specs.{Programs.{ProgramView}, declared.expansion.action.Field.{Field}}
use Rattle.sect_names.specs.Schemes.{SchemeView}
use Rattle.sect_emit.specs.{Compiled.{CompiledView, program_of}, Listing.{by_number}}
use Rattle.sect_emit.proofs.shared.Numbered.{on_ok}
use Rattle.sect_conflicts.specs.Taken.{TakenView, looked_of}
use Rattle.sect_c.specs.{Sections.{thread_c}, Words.{words_c}}
use Rattle.sect_c.specs.Programs.{declarations_c, fields_c, main_c, head_c, runtime_c}
use Rattle.sect_c.proofs.Joined.{joined}
use Rattle.sect_c.proofs.program.put_program.Goals as goal

-- the end, by what its functions give
end_told : (c : CompiledView) (taken : TakenView) (before : List ℕ) (p : ProgramView) (looked : List Field) → p ≡ program_of c
    → looked ≡ looked_of taken → before ++ fields_c p looked ++ main_c p
    ≡ before ++ fields_c (program_of c) (looked_of taken) ++ main_c (program_of c)
end_told c taken before p looked program fields =
    ap (λ (q : ProgramView). before ++ fields_c q looked ++ main_c q) program
    ∙ ap (λ l. before ++ fields_c (program_of c) l ++ main_c (program_of c)) fields

pub returns : goal.returns
returns c =
    let v = c.args.emitted.now.compiled.now in
    let taken = c.args.emitted.now.taken.now in
    let p = c.program-program.result.now in
    let looked = c.args.emitted.now.looked.now in
    let old = string_bytes c.args.text.now in
    let mark : List ℕ = codes "\n/* ---- the program ---- */\n\n" in
    let head = string_bytes c.put_head.new.text in
    let words = string_bytes c.put_words.new.text in
    let runtime = string_bytes c.put_runtime.new.text in
    let marked = string_bytes c.push_str.new.self in
    let declared = string_bytes c.put_declarations.new.text in
    let threaded = string_bytes c.put_threads.new.text in
    let shown = string_bytes c.put_fields.new.text in
    let a = head_c ++ words_c in
    let b = a ++ runtime_c in
    let d = b ++ mark in
    let e = d ++ declarations_c v taken in
    let before = e ++ by_number (thread_c v taken) 0 (program_of v).texts in
    let two = joined old head_c words_c head words c.in_ok-put_head.ensures c.in_ok-put_words.ensures in
    let three = joined old a runtime_c words runtime two c.in_ok-put_runtime.ensures in
    let four = joined old b mark runtime marked three c.in_ok-push_str.ensures.bytes in
    let five = joined old d (declarations_c v taken) marked declared four c.in_ok-put_declarations.ensures in
    let six = joined old e (by_number (thread_c v taken) 0 (program_of v).texts) declared threaded five
    c.in_ok-put_threads.ensures in
    let seven = joined old before (fields_c p looked) threaded shown six c.in_ok-put_fields.ensures in
    on_ok c.put_main.result c.put_main.ensures (λ put.
    joined old (before ++ fields_c p looked) (main_c p) shown (string_bytes c.put_main.new.text) seven put
    ∙ ap (λ w. old ++ w) (end_told v taken before p looked
    (c.program-program.ensures ∙ ap (λ (s : SchemeView). s.program) c.scheme.ensures) c.requires.fields))
