use Rattle.std.proofs.Common.{rules, ◌≡◌, ap, sym, ◌∙◌, length, vec_len, slice_set, List}
use Rattle.sect_types.specs.Store.{ObjectView, StoreView}
use Rattle.sect_lemmas.proofs.Changed.{set_changed, changed_past, not_below}
use Rattle.sect_store.specs.Undoing.{without_end, without_last}
use Rattle.sect_store.proofs.store.Store.unmake.Goals.{in-Some, in_default}
use Rattle.sect_store.proofs.store.Store.unmake.Goals as goal

pub returns : goal.returns
returns c =
    let made = c.self.inside.made in
    let less = λ (row : List ObjectView). without_end row in
    let whole = ap (λ (s : StoreView). without_last s c.args.thread) c.self.view_is in
    elim c.match-get_mut.branch [
      | in-Some w ↦ rw w.self-inside-is
          (ap (λ (rows : List (List ObjectView)). record { globals = c.self.inside.globals; made = rows })
          (ap (slice_set made.items c.args.thread) w.pop.ensures
          ∙ set_changed c.args.thread w.in-Some.row.now less made.items w.in-Some.ensures.value) ∙ whole)
      | in_default w ↦
          let long : length made.items ≡ vec_len made = search rules in
          rw w.self-inside-is
          (ap (λ (rows : List (List ObjectView)). record { globals = c.self.inside.globals; made = rows })
          (sym (changed_past c.args.thread less made.items
          (rw long (not_below c.args.thread (vec_len made) w.in_default.ensures.variant.1)))) ∙ whole)
    ]
