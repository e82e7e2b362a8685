use Rattle.std.proofs.Common.{◌≡◌, ◌++◌, length, ap, ◌∙◌, arith}
use Rattle.std.specs.{List.{flat_map, range_with_len}, String.{string_bytes}}
use Rattle.sect_points.specs.Sets.{PointsToView}
use Rattle.sect_editor.specs.Hovering.{sites_in, class_line}
use Rattle.sect_editor.proofs.Listing.{numbers_behind}
use Rattle.sect_editor.proofs.objects.put_sites.Goals as goal

pub loop-class-preserved : goal.loop-class-preserved
loop-class-preserved c =
    let numbers = c.args.classes.now.numbers in
    let sites = c.args.sites.now in
    let n = c.loop-class.class in
    numbers_behind (λ m. class_line m (sites_in numbers m sites)) n (string_bytes c.args.text.now)
    (string_bytes c.loop-class.text) (string_bytes c.put_class.new.text) c.loop-class.invariant
    (c.in_ok-put_class.ensures ∙ ap (λ ss. string_bytes c.loop-class.text ++ class_line n ss)
    (c.as_slice.ensures.value ∙ c.in_ok-found.ensures))

pub returns : goal.returns
returns c =
    let numbers = c.args.classes.now.numbers in
    let sites = c.args.sites.now in
    let all : c.loop-class.class ≡ length numbers =
    omega (
      arith,
      c.parted.ensures.sites,
      c.loop-class-test.false,
      c.loop-class.auto.class-end,
      c.sites-class-end.ensures.count,
      ap (λ (p : PointsToView). p.sites) c.points.ensures,
    ) in
    c.loop-class.invariant
    ∙ ap (λ n. string_bytes c.args.text.now
    ++ flat_map (λ m. class_line m (sites_in numbers m sites)) (range_with_len 0 n)) all
