use Rattle.std.proofs.{Common.{◌≡◌, ◌↔◌, sym, ◌∙◌, Some}, lemmas.Result.{IfOk-weaker}}
use Rattle.sect_points.specs.Paths.{PathView}
use Rattle.sect_names.specs.{Carrying.{Replaced}, Earlier.{IsOneOf}}
use Rattle.sect_names.proofs.{Replacing.{replaced_other, replaced_here}, Telling.{same_variable, other_variable}}
use Rattle.sect_names.proofs.carry.moved.Goals as goal

pub returns-in_ok-append : goal.returns-in_ok-append
returns-in_ok-append c =
    let base = sym c.base.ensures ∙ same_variable c.base.result c.args.x c.eq.result c.eq.ensures c.if-eq.true in
    λ q. rw (c.in_ok-append.ensures, c.fields.ensures.fields)
    (replaced_here c.args.x c.args.start c.args.path.now q base)

pub returns-else-eq : goal.returns-else-eq
returns-else-eq c =
    let x = c.args.x in
    let start = Some c.args.start in
    let path = c.args.path.now in
    let other : (q : PathView) → (q ≡ path) ↔ Replaced x start path q = λ q. replaced_other x start path q
    (λ e. other_variable c.base.result x c.eq.result c.eq.ensures c.if-eq.false (c.base.ensures ∙ e)) in
    IfOk-weaker c.unchanged.result (λ paths. (q : PathView) → IsOneOf paths q ↔ (q ≡ path))
    (λ paths. (q : PathView) → IsOneOf paths q ↔ Replaced x start path q)
    (λ paths same q. (λ h. (other q).0 ((same q).0 h), λ h. (same q).1 ((other q).1 h)))
    c.unchanged.ensures
