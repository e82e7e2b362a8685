-- A stretch that is lent stays one of its thread as it goes on.
use Rattle.std.proofs.Common.{◌≡◌, Option, Some, None, sym, subst}
use Rattle.std.specs.Prelude.{IfSome}
use Rattle.sect_world.specs.Stretches.{IsStretchOf}
use Rattle.sect_tests.proofs.worlds.taken_along.Goals as goal

-- what holds if there is something, holds of it
some_of : {A : Type 0} (P : A → Type 0) (o : Option A) (x : A) → o ≡ Some x → IfSome o P → P x
some_of P None x e h = absurd (let none : ⊥ = cc in none)
some_of P (Some y) x e h = let same : y ≡ x = cc in subst P same h

pub returns : goal.returns
returns g c =
    let w = c.args.world.now.compiled in
    let s = c.expect-stretch.result in
    let lent = some_of (IsStretchOf w 0) c.in_ok-lend.field-0 s c.expect-stretch.ensures c.in_ok-lend.ensures in
    subst (λ z. IsStretchOf z 0 c.run.new.self) c.compiled.ensures
    (c.run.ensures 0 (subst (λ z. IsStretchOf z 0 s) (sym c.compiled.ensures) lent))
