use Rattle.std.proofs.{Common.{◌≤◌, ◌∙◌, length, ap, arith}, lemmas.List.{length-map}, lemmas.Option.{slice_get-map}}
use Rattle.std.specs.Prelude.{option_map}
use Rattle.sect_lemmas.proofs.Changed.{get_there}
use Rattle.sect_front.specs.declared.tree.Declaration.{Declaration}
use Rattle.sect_types.specs.Sight.{names_of_declared}
use Rattle.sect_json.specs.Sites.{field_json}
use Rattle.sect_json.proofs.Rows.{by_place_more, by_place_all}
use Rattle.sect_json.proofs.sites.fields_value.Goals as goal

pub loop-number-preserved : goal.loop-number-preserved
loop-number-preserved c =
    let fields = c.args.fields.now in
    let n = c.loop-number.number in
    let x = c.index-fields-number.result in
    let at = slice_get-map (λ (d : Declaration). d.name) fields n
    ∙ ap (option_map (λ (d : Declaration). d.name))
    (get_there n x fields c.loop-number-test.true c.index-fields-number.is) in
    record {
      added = by_place_more (names_of_declared fields) n x.name at (field_json c.args.points.now c.args.site)
          c.loop-number.values.items c.push.new.self.items c.in_ok-value.value _ c.loop-number.invariant.added
          c.in_ok-push.ensures.items c.in_ok-value.ensures;
    }

pub returns : goal.returns
returns c =
    let fields = c.args.fields.now in
    let past : length (names_of_declared fields) ≤ c.loop-number.number =
    omega (arith, length-map fields (λ (d : Declaration). d.name), c.loop-number-test.false) in
    by_place_all (field_json c.args.points.now c.args.site) (names_of_declared fields) c.loop-number.number
    c.loop-number.values _ past c.loop-number.invariant.added
