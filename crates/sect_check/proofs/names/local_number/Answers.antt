use Rattle.std.proofs.Common.{◌≡◌, [], false, length, get_or, sym, ap, ◌∙◌, arith}
use Rattle.std.proofs.lemmas.Option.{slice_get_within, get_or_from_slice_get}
use Rattle.std.specs.Prelude.{slice_index_or}
use Rattle.sect_types.specs.LocalNames.{all_local_names, is_same_local}
use Rattle.sect_lemmas.proofs.Positions.{first_position, no_position}
use Rattle.sect_check.proofs.{Scanning.{below_next}, LocalLaws.{unnamed, counted}}
use Rattle.sect_check.proofs.names.local_number.Goals as goal

pub returns-then-is_same_local : goal.returns-then-is_same_local
returns-then-is_same_local c =
    let called = is_same_local c.args.name.now in
    let names = slice_index_or (all_local_names c.args.program.now.source) c.args.thread [] in
    let i = c.loop-number.number in
    let l = c.local_name.result in
    sym (first_position called names unnamed i (slice_get_within names i l c.local_name.ensures) c.loop-number.invariant
    (ap called (get_or_from_slice_get names i l unnamed c.local_name.ensures)
    ∙ sym c.is_same_local.ensures ∙ c.if-is_same_local.true))

pub loop-number-preserved : goal.loop-number-preserved
loop-number-preserved c =
    let called = is_same_local c.args.name.now in
    let names = slice_index_or (all_local_names c.args.program.now.source) c.args.thread [] in
    let i = c.loop-number.number in
    below_next (λ k. called (get_or names k unnamed) ≡ false) i c.loop-number.invariant
    (ap called (get_or_from_slice_get names i c.local_name.result unnamed c.local_name.ensures)
    ∙ sym c.is_same_local.ensures ∙ c.if-is_same_local.false)

pub returns : goal.returns
returns c =
    let p = c.args.program.now in
    let t = c.args.thread in
    let row = c.index-locals-thread.result in
    let is : row ≡ get_or p.locals t row = c.index-locals-thread.is ∙ ap (λ l. get_or l t row) c.locals.ensures in
    let many = counted p c.tree-facts.ensures.numbers t row c.requires is in
    let past = c.loop-number-test.false in
    sym (no_position (is_same_local c.args.name.now) (slice_index_or (all_local_names p.source) t []) unnamed
    (λ k lt. c.loop-number.invariant k (omega (arith, lt, many, ap length c.as_slice.ensures, past))))
