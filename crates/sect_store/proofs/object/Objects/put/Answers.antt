use Rattle.std.proofs.Common.{rules, ◌≡◌, ap, sym, ◌∙◌, length, vec_len, slice_set}
use Rattle.sect_types.specs.Store.{with_field}
use Rattle.sect_lemmas.specs.Lists.{changed_at}
use Rattle.sect_lemmas.proofs.Changed.{set_changed, changed_past, not_below}
use Rattle.sect_store.proofs.object.Objects.put.Goals.{in-Some, in_default}
use Rattle.sect_store.proofs.object.Objects.put.Goals as goal

pub returns : goal.returns
returns c =
    let list = c.self.inside.list in
    let whole = ap (changed_at c.args.number (with_field c.args.field c.args.datum)) c.self.view_is in
    elim c.match-get_mut.branch [
      | in-Some w ↦ rw w.self-inside-is
          (ap (slice_set list.items c.args.number) w.put.ensures
          ∙ set_changed c.args.number w.in-Some.object.now (with_field c.args.field c.args.datum) list.items
          w.in-Some.ensures.value ∙ whole)
      | in_default w ↦
          let long : length list.items ≡ vec_len list = search rules in
          rw w.self-inside-is
          (sym (changed_past c.args.number (with_field c.args.field c.args.datum) list.items
          (rw long (not_below c.args.number (vec_len list) w.in_default.ensures.variant.1))) ∙ whole)
    ]
