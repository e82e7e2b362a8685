use Rattle.std.proofs.Common.{◌≡◌, ◌++◌, List, ℕ, ap, ◌∙◌}
use Rattle.std.specs.String.{string_bytes}
use Rattle.sect_types.specs.{Programs.{ProgramView}, declared.expansion.action.Field.{Field}}
use Rattle.sect_names.specs.Schemes.{SchemeView}
use Rattle.sect_emit.specs.{Compiled.{CompiledView, program_of}, Listing.{by_number}}
use Rattle.sect_emit.proofs.shared.Numbered.{on_ok}
use Rattle.sect_conflicts.specs.Taken.{TakenView, looked_of}
use Rattle.sect_c.specs.Declarations.{opening_c, structure_c, global_line, plan_c}
use Rattle.sect_c.specs.Programs.{wholes_c, declarations_c}
use Rattle.sect_c.proofs.Joined.{joined}
use Rattle.sect_c.proofs.program.put_declarations.Goals as goal

-- by what its functions give
declarations_told : (c : CompiledView) (taken : TakenView) (p : ProgramView) (looked : List Field) → p ≡ program_of c
    → looked ≡ looked_of taken
    → by_number (opening_c p) 0 p.records ++ by_number (structure_c p looked) 0 p.records
    ++ by_number (global_line p) 0 p.globals ++ wholes_c p ++ by_number plan_c 0 taken.parts ≡ declarations_c c taken
declarations_told c taken p looked program fields =
    ap (λ (q : ProgramView). by_number (opening_c q) 0 q.records ++ by_number (structure_c q looked) 0 q.records
    ++ by_number (global_line q) 0 q.globals ++ wholes_c q ++ by_number plan_c 0 taken.parts) program
    ∙ ap (λ l. by_number (opening_c (program_of c)) 0 (program_of c).records
    ++ by_number (structure_c (program_of c) l) 0 (program_of c).records
    ++ by_number (global_line (program_of c)) 0 (program_of c).globals ++ wholes_c (program_of c)
    ++ by_number plan_c 0 taken.parts) fields

pub returns : goal.returns
returns c =
    let v = c.args.emitted.now.compiled.now in
    let taken = c.args.emitted.now.taken.now in
    let p = c.program-program.result.now in
    let looked = c.args.emitted.now.looked.now in
    let old = string_bytes c.args.text.now in
    let opened = string_bytes c.put_openings.new.text in
    let built = string_bytes c.put_structures.new.text in
    let global = string_bytes c.put_globals.new.text in
    let whole = string_bytes c.put_wholes.new.text in
    let first = by_number (opening_c p) 0 p.records in
    let second = by_number (structure_c p looked) 0 p.records in
    let third = by_number (global_line p) 0 p.globals in
    let two = joined old first second opened built c.in_ok-put_openings.ensures c.in_ok-put_structures.ensures in
    let three = joined old (first ++ second) third built global two c.in_ok-put_globals.ensures in
    let four = joined old (first ++ second ++ third) (wholes_c p) global whole three c.in_ok-put_wholes.ensures in
    on_ok c.put_plans.result c.put_plans.ensures (λ put.
    joined old (first ++ second ++ third ++ wholes_c p) (by_number plan_c 0 taken.parts) whole
    (string_bytes c.put_plans.new.text) four put
    ∙ ap (λ w. old ++ w) (declarations_told v taken p looked
    (c.program-program.ensures ∙ ap (λ (s : SchemeView). s.program) c.scheme.ensures) c.requires.fields))
