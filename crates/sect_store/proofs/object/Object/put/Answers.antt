use Rattle.std.proofs.Common.{rules, ◌≡◌, ap, sym, ◌∙◌, length, vec_len}
use Rattle.sect_types.specs.Store.{with_field}
use Rattle.sect_lemmas.proofs.Changed.{set_put, changed_past, not_below}
use Rattle.sect_store.proofs.object.Object.put.Goals.{in-Some, in_default}
use Rattle.sect_store.proofs.object.Object.put.Goals as goal

pub returns : goal.returns
returns c =
    let fields = c.self.inside.fields in
    let whole = ap (with_field c.args.number c.args.datum) c.self.view_is in
    elim c.match-get_mut.branch [
      | in-Some w ↦ rw w.self-inside-is
          (ap (λ fs. record { site = c.self.inside.site; fields = fs })
          (set_put c.args.number c.args.datum fields.items) ∙ whole)
      | in_default w ↦
          let long : length fields.items ≡ vec_len fields = search rules in
          rw w.self-inside-is (ap (λ fs. record { site = c.self.inside.site; fields = fs })
          (sym (changed_past c.args.number (λ old. c.args.datum) fields.items
          (rw long (not_below c.args.number (vec_len fields) w.in_default.ensures.variant.1)))) ∙ whole)
    ]
