use Rattle.std.proofs.{Common.{◌<◌, [], set, length, sym, ap, ◌∙◌, arith}, lemmas.List.{length-map, map-set}}
use Rattle.std.specs.Prelude.{slice_index_or}
use Rattle.sect_infer.specs.steps.Fronts.{rows_of, front_of, fronts_of}
use Rattle.sect_infer.proofs.Fronts.{front_at, front_has, fronts_set}
use Rattle.sect_infer.proofs.lists.Lists.share.Goals as goal

pub invariant_of-self : goal.invariant_of-self
invariant_of-self c =
    let rows = rows_of c.self.inside.rows in
    let fs = c.self.inside.fronts.items in
    let f = c.index.result.now in
    fronts_set rows fs c.args.node f c.self.invariant (c.self.invariant f (front_has fs c.args.other f
    (omega (arith, length-map fs (front_of rows), ap length c.self.view_is, c.requires.other)) c.index.ensures))

pub returns : goal.returns
returns c =
    let rows = rows_of c.self.inside.rows in
    let fs = c.self.inside.fronts.items in
    let f = c.index.result.now in
    let within : c.args.other < length fs =
    omega (arith, length-map fs (front_of rows), ap length c.self.view_is, c.requires.other) in
    map-set (front_of rows) fs c.args.node f
    ∙ ap (set (fronts_of rows fs) c.args.node) (sym (front_at rows fs c.args.other f within c.index.ensures))
    ∙ ap (λ ls. set ls c.args.node (slice_index_or ls c.args.other [])) c.self.view_is
