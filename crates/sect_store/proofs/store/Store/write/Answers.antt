use Rattle.std.proofs.Common.{rules, ◌≡◌, ap, sym, ◌∙◌, length, vec_len, slice_set, List}
use Rattle.sect_types.specs.Store.{ObjectView, StoreView, with_field}
use Rattle.sect_lemmas.specs.Lists.{changed_at}
use Rattle.sect_lemmas.proofs.Changed.{set_changed, changed_past, not_below}
use Rattle.sect_store.proofs.store.Store.write.Goals as goal

pub returns-in-Some : goal.returns-in-Some
returns-in-Some c =
    let made = c.self.inside.made in
    let change = changed_at c.in-Made.number (with_field c.args.field c.args.datum) in
    rw c.in-Made.is (ap (λ (rows : List (List ObjectView)). record { globals = c.self.inside.globals; made = rows })
    (ap (slice_set made.items c.in-Made.thread) c.put-in-Some.ensures
    ∙ set_changed c.in-Made.thread c.in-Some.row.now change made.items c.in-Some.ensures.value)
    ∙ ap (λ (s : StoreView). record { globals = s.globals; made = changed_at c.in-Made.thread change s.made })
    c.self.view_is)

pub returns-in_default : goal.returns-in_default
returns-in_default c =
    let made = c.self.inside.made in
    let change = changed_at c.in-Made.number (with_field c.args.field c.args.datum) in
    let long : length made.items ≡ vec_len made = search rules in
    rw c.in-Made.is (ap (λ (rows : List (List ObjectView)). record { globals = c.self.inside.globals; made = rows })
    (sym (changed_past c.in-Made.thread change made.items
    (rw long (not_below c.in-Made.thread (vec_len made) c.in_default.ensures.variant.1))))
    ∙ ap (λ (s : StoreView). record { globals = s.globals; made = changed_at c.in-Made.thread change s.made })
    c.self.view_is)
