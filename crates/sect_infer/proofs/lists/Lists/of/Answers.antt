use Rattle.std.proofs.Common.{◌≡◌, ◌<◌, [], take, length, sym, ap, ◌∙◌, subst, arith}
use Rattle.std.proofs.lemmas.List.{length-map, length-take-le}
use Rattle.std.specs.Prelude.{slice_index_or}
use Rattle.sect_infer.specs.steps.Fronts.{rows_of, IsFront}
use Rattle.sect_infer.proofs.{Fronts.{row_at, front_at, front_has}, lists.Lists.of.Goals.{In-Some}}
use Rattle.sect_infer.proofs.lists.Lists.of.Goals as goal

-- the front of the node
within : (c : In-Some) → c.args.node < length c.self.inside.fronts.items
within c = subst (λ xs. c.args.node < length xs) c.deref.ensures.value c.in-Some.ensures.lookup.3.0

is : (c : In-Some) → c.in-Some.front.now ≡ slice_index_or c.self.inside.fronts.items c.args.node c.in-Some.front.now
is c = subst (λ xs. c.in-Some.front.now ≡ slice_index_or xs c.args.node c.in-Some.front.now) c.deref.ensures.value
    (c.in-Some.ensures.lookup.3.1 c.in-Some.front.now)

there : (c : In-Some) → IsFront (rows_of c.self.inside.rows) c.in-Some.front.now
there c = c.self.invariant c.in-Some.front.now
    (front_has c.self.inside.fronts.items c.args.node c.in-Some.front.now (within c) (is c))

row : (c : In-Some) → c.in-Some.front.now.row < length c.self.inside.rows.items
row c = let r = (there c).row in omega (arith, r, length-map c.self.inside.rows.items (λ v. v.items))

pub index-requires : goal.index-requires
index-requires c =
    let r = row (goal.at.index-requires c).In-Some in omega (arith, r, c.self.inside.rows.ok.0)

pub slice_bounds-result-end : goal.slice_bounds-result-end
slice_bounds-result-end c =
    let x = (goal.at.slice_bounds-result-end c).In-Some in
    let f = c.in-Some.front.now in
    let at = row_at c.self.inside.rows.items f.row c.index.result.now (row x) c.index.ensures in
    let count = (there x).count in
    sym (length-take-le f.count c.deref-in-Some.result.now
    (omega (arith, count, ap length at, ap length c.deref-in-Some.ensures.value)))

pub returns-in-Some : goal.returns-in-Some
returns-in-Some c =
    let x = (goal.at.returns-in-Some c).In-Some in
    let f = c.in-Some.front.now in
    let at = row_at c.self.inside.rows.items f.row c.index.result.now (row x) c.index.ensures in
    ap (take f.count) (c.deref-in-Some.ensures.value ∙ sym at)
    ∙ sym (front_at (rows_of c.self.inside.rows) c.self.inside.fronts.items c.args.node f (within x) (is x))
    ∙ ap (λ ls. slice_index_or ls c.args.node []) c.self.view_is
