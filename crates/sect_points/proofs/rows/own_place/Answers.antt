use Rattle.std.proofs.Common.{◌≡◌, ◌∙◌, ap, sym, arith, length}
use Rattle.std.proofs.lemmas.List.{get_or_default, get_or-set_same, length-set}
use Rattle.sect_points.specs.steps.Places.{place_at, set_in, shared}
use Rattle.sect_points.specs.declared.rows.Place.TheVariants.{Nothing, Own}
use Rattle.sect_points.proofs.PlaceLaws.{owned_same, owned_places, not_own}
use Rattle.sect_points.proofs.rows.own_place.Goals as goal

pub set_in-set-requires : goal.set_in-set-requires
set_in-set-requires c =
    let places = c.args.places.now.items in
    let is : place_at places c.args.row ≡ c.index-place.result.now =
    sym (c.index-place.ensures ∙ get_or_default places c.args.row c.index-place.result.now Nothing c.requires.row) in
    record {
      few = λ site e. c.requires.places.few c.args.row site (is ∙ e);
      within = λ at e. omega (arith, c.requires.places.within c.args.row at (is ∙ e), c.as_slice.ensures.len);
    }

pub returns : goal.returns
returns c =
    let places = c.args.places.now.items in
    let sets = c.args.sets.now.items in
    let place = c.index-place.result.now in
    let is : place_at places c.args.row ≡ place =
    sym (c.index-place.ensures ∙ get_or_default places c.args.row place Nothing c.requires.row) in
    let one : shared (place_at places c.args.row) ≡ 1 = ap shared is ∙ not_own place c.in_default.not-Own in
    let set : c.set_in-set.result ≡ set_in sets (place_at places c.args.row) =
    c.set_in-set.ensures ∙ ap (λ s. set_in s place) c.as_slice.ensures.value ∙ ap (set_in sets) (sym is) in
    let free : c.len-free.result ≡ length sets = omega (arith, c.len-free.ensures) in
    record {
      places = rw (c.push_reserved.ensures.items, c.push_reserved.ensures.capacity, free)
          (owned_places sets places c.args.row _ c.set_in-set.result c.requires.places one c.requires.row);
      same = rw (c.push_reserved.ensures.items, free)
          (owned_same sets places c.args.row _ c.set_in-set.result c.requires.places set c.requires.row);
      own = get_or-set_same places c.args.row (Own c.len-free.result) Nothing c.requires.row;
      long = length-set places c.args.row (Own c.len-free.result);
    }
