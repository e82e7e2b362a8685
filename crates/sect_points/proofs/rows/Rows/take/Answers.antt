use Rattle.std.proofs.Common.{◌≡◌, ◌<◌, ◌∙◌, sym, ap, arith, length, refl, slice_set, inl, inr}
use Rattle.std.proofs.lemmas.List.{length-set}
use Rattle.sect_points.specs.steps.Places.{empty_set, place_at, shared}
use Rattle.sect_points.specs.declared.rows.Place.TheVariants.{Nothing}
use Rattle.sect_points.proofs.PlaceLaws.{stands, put_places, put_sets, set_emptied, written_at, empty_none, length_at}
use Rattle.sect_points.proofs.rows.Rows.take.Goals as goal

pub set_in-set-requires-clause-few : goal.set_in-set-requires-clause-few
set_in-set-requires-clause-few c =
    let s = stands c.args.self.now c.self.inside.sets.items c.self.inside.places.items c.args.row _
    c.place_of-place.result c.self.view_is c.self.invariant c.place_of-place.ensures in
    s.few

pub set_in-set-requires-clause-within : goal.set_in-set-requires-clause-within
set_in-set-requires-clause-within c =
    let s = stands c.args.self.now c.self.inside.sets.items c.self.inside.places.items c.args.row _
    c.place_of-place.result c.self.view_is c.self.invariant c.place_of-place.ensures in
    rw c.as_slice.ensures.value s.within

pub invariant_of-self-in-Nothing : goal.invariant_of-self-in-Nothing
invariant_of-self-in-Nothing c =
    let places = c.self.inside.places.items in
    let lt : c.args.row < length places = omega (arith, c.if-row-len.false, c.len.ensures) in
    let one : shared (place_at places c.args.row) ≡ 1 = ap shared (sym c.place_of-place.ensures)
    ∙ elim c.in-Nothing.is [ inl e ↦ ap shared e | inr (site, e) ↦ ap shared e ] in
    put_places c.self.inside.sets.items places c.args.row _ Nothing c.self.invariant one refl lt (λ site e. absurd cc)

pub returns-in-Own-clause-left : goal.returns-in-Own-clause-left
returns-in-Own-clause-left c =
    let rows = c.args.self.now in
    let sets = c.self.inside.sets.items in
    let places = c.self.inside.places.items in
    let lt : c.args.row < length places = omega (arith, c.if-row-len.false, c.len.ensures) in
    rw c.none.ensures (set_emptied rows _ c.args.row empty_set
    (written_at rows sets places c.args.row c.in-Own.at _ empty_set c.self.view_is c.self.invariant
    (sym c.place_of-place.ensures ∙ c.in-Own.is) lt)
    (omega (arith, lt, length_at sets places, ap length c.self.view_is)) empty_none)

pub returns-in-Nothing : goal.returns-in-Nothing
returns-in-Nothing c =
    let rows = c.args.self.now in
    let sets = c.self.inside.sets.items in
    let places = c.self.inside.places.items in
    let lt : c.args.row < length places = omega (arith, c.if-row-len.false, c.len.ensures) in
    let s = stands rows sets places c.args.row _ c.place_of-place.result c.self.view_is c.self.invariant
    c.place_of-place.ensures in
    record {
      sites = rw (c.set_in-set.ensures, c.as_slice.ensures.value) s.has;
      left = set_emptied rows _ c.args.row empty_set (put_sets rows sets places c.args.row Nothing c.self.view_is)
          (omega (arith, lt, length_at sets places, ap length c.self.view_is)) empty_none;
      long = length_at sets (slice_set places c.args.row Nothing) ∙ length-set places c.args.row Nothing
          ∙ sym (length_at sets places) ∙ ap length c.self.view_is;
    }
