use Rattle.std.proofs.lemmas.Option.{IfSome_then}
use Rattle.sect_points.proofs.{FilledLaws.{none_then}, ClassLaws.{no_field, one_field, two_fields}}
use Rattle.sect_points.proofs.path_classes.gathered_site.Goals as goal

pub returns-in-empty-clause-none : goal.returns-in-empty-clause-none
returns-in-empty-clause-none c =
    let are = rw c.points-points.ensures at c.variable_sites.ensures in
    rw (no_field c.args.base c.args.fields.now c.in-empty.len_below)
    (none_then c.first.result _ _ c.first.ensures.none (λ none s lt h. none s ((are s).1 (h, lt))))

pub returns-in-len1-clause-some : goal.returns-in-len1-clause-some
returns-in-len1-clause-some c =
    let one = one_field c.args.classes.now.sets c.args.base c.args.fields.now (record { of = 0; number = 0 }) _
    c.in-len1.len_at_least c.in-len1.len_below c.parted.ensures.below c.parted.ensures.slots
    (rw c.points-points.ensures at c.variable_sites-in-len1.ensures) in
    IfSome_then c.field_site.result c.field_site.ensures.some (λ s h. (one s).0 h)

pub returns-in-len1-clause-none : goal.returns-in-len1-clause-none
returns-in-len1-clause-none c =
    let one = one_field c.args.classes.now.sets c.args.base c.args.fields.now (record { of = 0; number = 0 }) _
    c.in-len1.len_at_least c.in-len1.len_below c.parted.ensures.below c.parted.ensures.slots
    (rw c.points-points.ensures at c.variable_sites-in-len1.ensures) in
    none_then c.field_site.result _ _ c.field_site.ensures.none (λ none s lt h. none s ((one s).1 (h, lt)))

pub returns-in-len2-up-clause-some : goal.returns-in-len2-up-clause-some
returns-in-len2-up-clause-some c =
    let two = two_fields c.args.classes.now.sets c.args.base c.args.fields.now (record { of = 0; number = 0 }) _
    c.in-len2-up.len_at_least c.parted.ensures.below c.parted.ensures.slots
    (rw c.points-points.ensures at c.path_sites-bases.ensures) in
    IfSome_then c.second_field_site.result c.second_field_site.ensures.some (λ s h. (two s).0 h)

pub returns-in-len2-up-clause-none : goal.returns-in-len2-up-clause-none
returns-in-len2-up-clause-none c =
    let two = two_fields c.args.classes.now.sets c.args.base c.args.fields.now (record { of = 0; number = 0 }) _
    c.in-len2-up.len_at_least c.parted.ensures.below c.parted.ensures.slots
    (rw c.points-points.ensures at c.path_sites-bases.ensures) in
    none_then c.second_field_site.result _ _ c.second_field_site.ensures.none
    (λ none s lt h. (let k = (two s).1 (h, lt) in none k.0 s k.1 k.2))
