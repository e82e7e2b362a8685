use Rattle.std.proofs.{Common.{subst, ◌↔◌, ℕ, ◌<◌, arith}, lemmas.List.{take_all}}
use Rattle.sect_points.specs.{Sites.{HasSite}, Sets.{InSets}, Paths.{path_of, PathHas}}
use Rattle.sect_points.proofs.ClassLaws.{path_more}
use Rattle.sect_points.proofs.path_classes.path_sites.Goals as goal

pub loop-field-preserved : goal.loop-field-preserved
loop-field-preserved c =
    let l = c.loop-field in
    path_more c.args.points.now c.args.base c.args.fields.now l.field-index (record { of = 0; number = 0 })
    l.sites.words c.field_sites-sites.result.words
    c.bounds.ensures.below c.bounds.ensures.slots (omega arith) l.invariant c.field_sites-sites.ensures

pub returns : goal.returns
returns c =
    let l = c.loop-field in
    let points = c.args.points.now in
    subst (λ fields. (site : ℕ) → HasSite l.sites.words site
    ↔ (PathHas (InSets points) (path_of c.args.base fields) site × (site < points.sites)))
    (take_all l.field-index c.args.fields.now (omega arith)) l.invariant
