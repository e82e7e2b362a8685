use Rattle.std.proofs.Common.{rules, ◌≡◌, ◌++◌, ◌∷◌, [], ap, sym, ◌∙◌, length, vec_len, slice_set, List}
use Rattle.sect_types.specs.Store.{ObjectView, StoreView, add}
use Rattle.sect_lemmas.proofs.Changed.{set_changed, changed_past, not_below}
use Rattle.sect_store.proofs.store.Store.add.Goals.{in-Some+in_ok-push, in_default}
use Rattle.sect_store.proofs.store.Store.add.Goals as goal

pub returns-clause-ok : goal.returns-clause-ok
returns-clause-ok c =
    let made = c.self.inside.made in
    let more = λ (row : List ObjectView). row ++ c.args.object ∷ [] in
    let whole = ap (λ (s : StoreView). add s c.args.thread c.args.object) c.self.view_is in
    elim c.match-get_mut.branch [
      | in-Some+in_ok-push w ↦ rw w.self-inside-is
          (ap (λ (rows : List (List ObjectView)). record { globals = c.self.inside.globals; made = rows })
          (ap (slice_set made.items c.args.thread) w.in_ok-push.ensures.ok
          ∙ set_changed c.args.thread w.in-Some.row.now more made.items w.in-Some.ensures.value) ∙ whole)
      | in_default w ↦
          let long : length made.items ≡ vec_len made = search rules in
          rw w.self-inside-is
          (ap (λ (rows : List (List ObjectView)). record { globals = c.self.inside.globals; made = rows })
          (sym (changed_past c.args.thread more made.items
          (rw long (not_below c.args.thread (vec_len made) w.in_default.ensures.variant.1)))) ∙ whole)
    ]
