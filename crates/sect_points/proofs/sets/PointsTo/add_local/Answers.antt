use Rattle.std.proofs.{Common.{◌≡◌, ◌<◌, [], ap, ◌∙◌, arith, length, get_or}, lemmas.List.{get_or_default}}
use Rattle.sect_points.proofs.SetLaws.{joins_local, adds_below}
use Rattle.sect_points.proofs.sets.PointsTo.add_local.Goals as goal

pub invariant_of-self : goal.invariant_of-self
invariant_of-self c =
    let locals = c.self.inside.locals.items in
    let t = c.args.thread in
    let within : t < length locals = rw (← c.self.view_is) at c.requires.place.0 in
    let was : c.index_mut.result.now ≡ get_or locals t [] = c.index_mut.ensures.value
    ∙ get_or_default locals t c.index_mut.result.now [] within in
    let adds = joins_local c.self.inside.sites c.self.inside.slots locals t c.args.local c.add.new.self
    (λ s. s ≡ c.args.site) c.add.result within
    (λ y s. rw was at c.add.ensures.sites y s)
    (c.add.ensures.long ∙ ap length was)
    (λ e. c.add.ensures.same e ∙ was)
    (λ e. rw was at c.add.ensures.grew e) in
    let there : c.args.site < c.self.inside.sites = rw (← c.self.view_is) at c.requires.site in (
      c.self.invariant.0,
      c.self.invariant.1,
      adds_below _ _ _ c.add.result adds c.self.invariant.2 (λ h s k. omega (arith, there, k.1)),
    )

pub returns : goal.returns
returns c =
    let locals = c.self.inside.locals.items in
    let t = c.args.thread in
    let within : t < length locals = rw (← c.self.view_is) at c.requires.place.0 in
    let was : c.index_mut.result.now ≡ get_or locals t [] = c.index_mut.ensures.value
    ∙ get_or_default locals t c.index_mut.result.now [] within in
    rw (← c.self.view_is) (joins_local c.self.inside.sites c.self.inside.slots locals t c.args.local c.add.new.self
    (λ s. s ≡ c.args.site) c.add.result within
    (λ y s. rw was at c.add.ensures.sites y s)
    (c.add.ensures.long ∙ ap length was)
    (λ e. c.add.ensures.same e ∙ was)
    (λ e. rw was at c.add.ensures.grew e))
