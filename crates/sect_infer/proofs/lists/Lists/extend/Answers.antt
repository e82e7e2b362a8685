use Rattle.std.proofs.Common.{◌≡◌, ◌<◌, ◌+◌, ◌++◌, [], List, ℕ, set, length, sym, ap, ◌∙◌, subst, arith, length-append}
use Rattle.std.proofs.lemmas.List.{append-nil, length-map}
use Rattle.std.specs.Prelude.{slice_index_or}
use Rattle.sect_infer.specs.declared.lists.Front.{Front}
use Rattle.sect_infer.specs.steps.Fronts.{rows_of, front_of, fronts_of, AreFronts}
use Rattle.sect_infer.proofs.Fronts.{IsLonger, front_at, front_has, row_at, row_put, are_fronts, longer_one, longer_put}
use Rattle.sect_infer.proofs.Fronts.{put_fronts, put_view}
use Rattle.sect_infer.proofs.lists.Lists.extend.Goals.{In_ok-row, In_ok-extend_from_slice}
use Rattle.sect_infer.proofs.lists.Lists.extend.Goals as goal

pub row_behind-requires : goal.row_behind-requires
row_behind-requires c =
    let fs = c.self.inside.fronts.items in
    c.self.invariant c.index-front.result.now (front_has fs c.args.node c.index-front.result.now
    (omega (arith, length-map fs (front_of (rows_of c.self.inside.rows)), ap length c.self.view_is, c.requires))
    c.index-front.ensures)

-- the rows before a number is put into one
longer : (c : In_ok-row) → IsLonger (rows_of c.self.inside.rows) (rows_of c.row_behind.new.rows)
longer c = longer_one (rows_of c.self.inside.rows) (rows_of c.row_behind.new.rows)
    (front_of (rows_of c.self.inside.rows) c.index-front.result.now) c.in_ok-row.ensures.rows

there : (c : In_ok-row) → c.in_ok-row.row < length (rows_of c.row_behind.new.rows)
there c = omega (arith, c.in_ok-row.ensures.there, length-map c.row_behind.new.rows.items (λ v. v.items))

pub invariant_of-self-in_err-extend_from_slice : goal.invariant_of-self-in_err-extend_from_slice
invariant_of-self-in_err-extend_from_slice c =
    let x = (goal.at.invariant_of-self-in_err-extend_from_slice c).In_ok-row in
    let rows = rows_of c.row_behind.new.rows in
    let r = c.in_ok-row.row in
    let v = c.index_mut-longer.result.now in
    subst (λ rs. AreFronts rs c.self.inside.fronts.items)
    (sym (row_put c.row_behind.new.rows.items r v c.extend_from_slice.new.self [] c.in_ok-row.ensures.there
    c.index_mut-longer.ensures.value
    (c.in_err-extend_from_slice.ensures.items ∙ sym (append-nil v.items))))
    (are_fronts rows (set rows r (slice_index_or rows r [] ++ [])) (longer_put rows r [] (there x))
    c.self.inside.fronts.items
    (are_fronts (rows_of c.self.inside.rows) rows (longer x) c.self.inside.fronts.items c.self.invariant))

-- the row has the numbers of the front, and then the new ones
full : (c : In_ok-extend_from_slice)
    → c.extend_from_slice.new.self.items ≡ c.index_mut-longer.result.now.items ++ c.args.numbers.now
full c = c.in_ok-extend_from_slice.ensures.items

counted : (c : In_ok-extend_from_slice)
    → length c.extend_from_slice.new.self.items
    ≡ length (front_of (rows_of c.self.inside.rows) c.index-front.result.now) + length c.args.numbers.now
counted c =
    let v = c.index_mut-longer.result.now in
    let at = row_at c.row_behind.new.rows.items c.in_ok-row.row v c.in_ok-row.ensures.there
    c.index_mut-longer.ensures.value in
    omega (
      arith,
      ap length (full c),
      length-append v.items c.args.numbers.now,
      ap length at,
      ap length c.in_ok-row.ensures.whole,
    )

pub invariant_of-self-2 : goal.invariant_of-self-2
invariant_of-self-2 c =
    let x = (goal.at.invariant_of-self-2 c).In_ok-row in
    let z = (goal.at.invariant_of-self-2 c).In_ok-extend_from_slice in
    let v = c.index_mut-longer.result.now in
    let to : Front = record { row = c.in_ok-row.row; count = c.len-count.result } in
    subst (λ rs. AreFronts rs (set c.self.inside.fronts.items c.args.node to))
    (sym (row_put c.row_behind.new.rows.items c.in_ok-row.row v c.extend_from_slice.new.self c.args.numbers.now
    c.in_ok-row.ensures.there c.index_mut-longer.ensures.value (full z)))
    (put_fronts (rows_of c.self.inside.rows) (rows_of c.row_behind.new.rows) c.self.inside.fronts.items c.args.node
    c.index-front.result.now to c.args.numbers.now c.self.invariant (longer x) (there x) c.in_ok-row.ensures.whole
    (let n = counted z in omega (arith, n, c.len-count.ensures, c.extend_from_slice.new.self.ok.0)))

pub returns : goal.returns
returns c =
    let x = (goal.at.returns c).In_ok-row in
    let z = (goal.at.returns c).In_ok-extend_from_slice in
    let old = rows_of c.self.inside.rows in
    let fs = c.self.inside.fronts.items in
    let f = c.index-front.result.now in
    let v = c.index_mut-longer.result.now in
    let to : Front = record { row = c.in_ok-row.row; count = c.len-count.result } in
    let within : c.args.node < length fs =
    omega (arith, length-map fs (front_of old), ap length c.self.view_is, c.requires) in
    ap (λ rs. fronts_of rs (set fs c.args.node to))
    (row_put c.row_behind.new.rows.items c.in_ok-row.row v c.extend_from_slice.new.self c.args.numbers.now
    c.in_ok-row.ensures.there c.index_mut-longer.ensures.value (full z))
    ∙ put_view old (rows_of c.row_behind.new.rows) fs c.args.node f to c.args.numbers.now c.self.invariant (longer x)
    (there x) c.in_ok-row.ensures.whole
    (let n = counted z in omega (arith, n, c.len-count.ensures, c.extend_from_slice.new.self.ok.0))
    ∙ ap (λ l. set (fronts_of old fs) c.args.node (l ++ c.args.numbers.now))
    (sym (front_at old fs c.args.node f within c.index-front.ensures))
    ∙ ap (λ (ls : List (List ℕ)). set ls c.args.node (slice_index_or ls c.args.node [] ++ c.args.numbers.now))
    c.self.view_is
