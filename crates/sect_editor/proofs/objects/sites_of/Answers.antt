use Rattle.std.proofs.Common.{◌≡◌, ◌+◌, ◌<◌, ◌∷◌, [], ℕ, length, true, false, sym, ap, subst, ◌∙◌, arith, rules}
use Rattle.std.proofs.lemmas.List.Elements.{All-append, All-cons, All-nil}
use Rattle.std.specs.{Prelude.{All}, List.{range_with_len}}
use Rattle.sect_conflicts.specs.Conflicts.{Selects}
use Rattle.sect_points.specs.Sets.{PointsToView}
use Rattle.sect_editor.specs.Hovering.{RefersTo}
use Rattle.sect_editor.proofs.Choosing.{choose, pass_over}
use Rattle.sect_editor.proofs.objects.sites_of.Goals.{then-refers_to+in_ok-push, else-refers_to}
use Rattle.sect_editor.proofs.objects.sites_of.Goals as goal

pub loop-site-preserved : goal.loop-site-preserved
loop-site-preserved c =
    let sets = c.args.classes.now.sets in
    let n = c.loop-site.site in
    let old = c.loop-site.sites.items in
    let records = c.args.records.now in
    let P = RefersTo records sets c.args.referrer in
    let Below = λ (s : ℕ). s < length c.args.classes.now.numbers in
    let within : n < length c.args.classes.now.numbers =
    omega (
      arith,
      c.parted.ensures.sites,
      c.sites-site-end.ensures.count,
      c.loop-site-test.true,
      ap (λ (p : PointsToView). p.sites) c.points-points.ensures,
    ) in
    elim c.if-refers_to.branch [
      | then-refers_to+in_ok-push w ↦
          let p : P n = subst (λ (s : PointsToView). RefersTo records s c.args.referrer n)
          c.points-points.ensures
          (c.refers_to.ensures.0 (search rules)) in
          let is = ap (λ v. v.items) w.sites-is ∙ w.in_ok-push.ensures.items in
          record {
            chosen = subst (Selects P (range_with_len 0 (n + 1))) (sym is)
                (choose P n old c.loop-site.invariant.chosen p);
            below = subst (All Below) (sym is)
                (All-append Below old (n ∷ []) c.loop-site.invariant.below
                (All-cons Below n [] within (All-nil Below)));
          }
      | else-refers_to w ↦
          let fails : P n → ⊥ = λ p. let no : false ≡ true = search rules in cc in
          let is = ap (λ v. v.items) w.sites-is in
          record {
            chosen = subst (Selects P (range_with_len 0 (n + 1))) (sym is)
                (pass_over P n old c.loop-site.invariant.chosen fails);
            below = subst (All Below) (sym is) c.loop-site.invariant.below;
          }
    ]
