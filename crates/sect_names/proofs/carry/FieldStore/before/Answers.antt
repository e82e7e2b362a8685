use Rattle.std.proofs.{Common.{◌≡◌, ◌↔◌}, lemmas.Result.{IfOk-weaker}}
use Rattle.sect_points.specs.Paths.{PathView}
use Rattle.sect_names.specs.{Carrying.{BeforeStore}, Earlier.{IsOneOf}}
use Rattle.sect_names.proofs.Untouched.{tells_off, untouched_field}
use Rattle.sect_names.proofs.carry.FieldStore.before.Goals as goal

pub returns : goal.returns
returns c =
    let x = c.args.self in
    let cs = c.args.scheme.now.classes in
    let p = c.args.path.now in
    IfOk-weaker c.unchanged.result (λ paths. (q : PathView) → IsOneOf paths q ↔ (q ≡ p))
    (λ paths. (q : PathView) → IsOneOf paths q ↔ BeforeStore cs x.base x.field x.value p q)
    (λ paths same q.
    let tells = untouched_field cs x.base x.field x.value p q
    (tells_off c.follows.ensures c.if-follows.false) in
    (λ h. tells.1 ((same q).0 h), λ h. (same q).1 (tells.0 h)))
    c.unchanged.ensures
