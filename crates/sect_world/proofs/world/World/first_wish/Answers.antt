-- A runner knows what its thread wants first.
use Rattle.std.proofs.{Common.{◌≡◌, ◌≤◌, ◌<◌, length, None, refl, sym, subst, ◌∙◌, get_or}, lemmas.Bool.{ltb-false}}
use Rattle.std.proofs.lemmas.Option.{slice_get_read}
use Rattle.sect_world.specs.{Sights.{first_wish}, Worlds.{WorldView}}
use Rattle.sect_world.proofs.Sights.{wish_none, wish_some}
use Rattle.sect_world.proofs.world.World.first_wish.Goals as goal

pub returns-in-None : goal.returns-in-None
returns-in-None c =
    let t = c.args.thread in
    let past = subst (λ rs. length rs ≤ t) c.deref.ensures.value
    (ltb-false t (length c.deref.result.now) (sym c.in-None.ensures.lookup.0)) in
    subst (λ (z : WorldView). None ≡ first_wish z.state t) c.self.view_is
    (wish_none _ _ _ _ _ _ _ _ c.self.invariant.0 t past)

pub returns-in-Some : goal.returns-in-Some
returns-in-Some c =
    let t = c.args.thread in
    let r = c.in-Some.runner.now in
    let rs = c.self.inside.moment.runners.items in
    let within = subst (λ xs. t < length xs) c.deref.ensures.value c.in-Some.ensures.lookup.3.0 in
    let is = subst (λ xs. r ≡ get_or xs t r) c.deref.ensures.value (c.in-Some.ensures.lookup.3.1 r) in
    let at = slice_get_read rs _ t r refl within is in
    subst (λ (z : WorldView). c.first_wish.result ≡ first_wish z.state t) c.self.view_is
    (c.first_wish.ensures ∙ wish_some _ _ _ _ _ _ _ _ c.self.invariant.0 t r at)
