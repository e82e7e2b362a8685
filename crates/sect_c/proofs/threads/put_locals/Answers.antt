use Rattle.std.proofs.{Common.{◌≡◌, ◌≤◌, ◌<◌, ◌++◌, List, [], length, ap, ◌∙◌, arith}, lemmas.Option.{get_or_from_slice_get}}
use Rattle.std.proofs.lemmas.List.Elements.{All-get_or}
use Rattle.std.specs.{Prelude.{slice_index_or}, String.{string_bytes}}
use Rattle.sect_lemmas.proofs.Places.{at_of}
use Rattle.sect_types.specs.{Limits.{most_all_locals}, declared.declarations.types.ValueType.{ValueType}}
use Rattle.sect_types.specs.declared.declarations.types.ValueType.TheVariants.{Int}
use Rattle.sect_emit.specs.Listing.{by_number}
use Rattle.sect_emit.proofs.shared.Numbered.{added_on, all_added}
use Rattle.sect_c.specs.Sections.{local_line}
use Rattle.sect_c.proofs.Rows.{row_at}
use Rattle.sect_c.proofs.threads.put_locals.Goals as goal

pub overflow_cast-local : goal.overflow_cast-local
overflow_cast-local c =
    let p = c.args.program.now in
    let u = c.args.thread in
    let within : u < length p.locals = omega (arith, c.requires, c.facts.ensures.limits.as_many) in
    let row = row_at c.locals-locals.result.now p.locals u c.index-locals-thread.result c.as_slice-own.result.now within
    c.as_slice-own.ensures c.index-locals-thread.is c.locals-locals.ensures in
    let few = All-get_or (λ (ts : List ValueType). length ts ≤ most_all_locals) p.locals u [] within
    c.facts.ensures.limits.few_locals in
    omega (arith, c.loop-local-test.true, ap length row, few)

pub put_local_line-requires : goal.put_local_line-requires
put_local_line-requires c =
    let p = c.args.program.now in
    let u = c.args.thread in
    let within : u < length p.locals = omega (arith, c.requires, c.facts.ensures.limits.as_many) in
    let row = row_at c.locals-locals.result.now p.locals u c.index-locals-thread.result c.as_slice-own.result.now within
    c.as_slice-own.ensures c.index-locals-thread.is c.locals-locals.ensures in
    omega (arith, c.loop-local-test.true, ap length row)

pub loop-local-preserved : goal.loop-local-preserved
loop-local-preserved c =
    let p = c.args.program.now in
    let u = c.args.thread in
    let n = c.loop-local.local in
    let line = local_line p u in
    let xs = slice_index_or p.locals u [] in
    let within : u < length p.locals = omega (arith, c.requires, c.facts.ensures.limits.as_many) in
    let row = row_at c.locals-locals.result.now p.locals u c.index-locals-thread.result c.as_slice-own.result.now within
    c.as_slice-own.ensures c.index-locals-thread.is c.locals-locals.ensures in
    let of = at_of xs n (omega (arith, c.loop-local-test.true, ap length row)) in
    added_on line xs n of.0 (string_bytes c.loop-local.text) (string_bytes c.put_local_line.new.text)
    (string_bytes c.args.text.now ++ by_number line 0 xs) of.1
    (c.in_ok-put_local_line.ensures ∙ ap (λ (t : ValueType). string_bytes c.loop-local.text ++ line n t)
    (get_or_from_slice_get xs n of.0 Int of.1)) c.loop-local.invariant

pub returns : goal.returns
returns c =
    let p = c.args.program.now in
    let u = c.args.thread in
    let line = local_line p u in
    let xs = slice_index_or p.locals u [] in
    let within : u < length p.locals = omega (arith, c.requires, c.facts.ensures.limits.as_many) in
    let row = row_at c.locals-locals.result.now p.locals u c.index-locals-thread.result c.as_slice-own.result.now within
    c.as_slice-own.ensures c.index-locals-thread.is c.locals-locals.ensures in
    all_added line xs c.loop-local.local (string_bytes c.loop-local.text)
    (string_bytes c.args.text.now ++ by_number line 0 xs)
    (omega (arith, c.loop-local-test.false, c.loop-local.auto.local-end, ap length row)) c.loop-local.invariant
