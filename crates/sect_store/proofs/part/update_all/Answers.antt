use Rattle.std.proofs.Common.{◌≡◌, ◌<◌, ◌≤◌, ◌++◌, ◌∙◌, length, map, take, drop, get_or, slice_set, ap, arith}
use Rattle.std.proofs.{lemmas.List.{take_all, drop_all, get_or_default, append-nil}, Math.Seq.{take-append_seam}}
use Rattle.std.proofs.lemmas.List.Edits.{map_over_more}
use Rattle.sect_store.specs.Parts.{updated}
use Rattle.sect_store.proofs.Parting.{cell_0}
use Rattle.sect_store.proofs.part.update_all.Goals as goal

pub loop-cell-init : goal.loop-cell-init
loop-cell-init c = c.deref_mut-cell-items.ensures.value

pub loop-cell-preserved : goal.loop-cell-preserved
loop-cell-preserved c =
    let l = c.loop-cell in
    let items = l.cell-items in
    let i = l.cell-index in
    let x = get_or items i cell_0 in
    let old = c.args.cells.now.items in
    let f = updated c.args.name c.args.field c.args.datum in
    let within : i < length old = omega (arith, ap length c.deref_mut-cell-items.ensures.value) in
    let inside : i < length items = omega (arith, l.auto.cell-items) in
    ap (slice_set items i) c.updated.ensures
    ∙ map_over_more f old items i x within l.invariant (get_or_default items i cell_0 x inside)

pub returns : goal.returns
returns c =
    let l = c.loop-cell in
    let items = l.cell-items in
    let old = c.args.cells.now.items in
    let f = updated c.args.name c.args.field c.args.datum in
    let same = ap length c.deref_mut-cell-items.ensures.value in
    let long : c.args.cells.now.len ≡ length items =
    omega (arith, l.auto.cell-items, c.deref_mut-cell-items.ensures.len) in
    let over : length old ≤ l.cell-index = omega (arith, same) in
    ap (λ n. take n (items ++ drop (length items) old)) long ∙ take-append_seam items (drop (length items) old)
    ∙ l.invariant
    ∙ ap (λ xs. map f xs ++ drop l.cell-index old) (take_all l.cell-index old over)
    ∙ ap (λ xs. map f old ++ xs) (drop_all l.cell-index old over) ∙ append-nil (map f old)
