use Rattle.std.proofs.Common.{rules, ◌≡◌, ap, sym, ◌∙◌, length, vec_len, List}
use Rattle.sect_types.specs.{declared.meaning.store.Datum.{Datum}, Meaning.{WorkView, assigned}}
use Rattle.sect_lemmas.proofs.Changed.{set_put, changed_past, not_below}
use Rattle.sect_store.proofs.work.Work.assign.Goals.{in-Some, in_default}
use Rattle.sect_store.proofs.work.Work.assign.Goals as goal

pub returns : goal.returns
returns c =
    let locals = c.self.inside.locals in
    let now : WorkView = record {
      locals = locals.items;
      fuel = c.self.inside.fuel;
      made = c.self.inside.made;
      printed =
          c.self.inside.printed.items;
    } in
    let with_locals = λ (ls : List Datum). record now { locals = ls } in
    let whole = ap (assigned c.args.number c.args.datum) c.self.view_is in
    elim c.match-get_mut.branch [
      | in-Some w ↦ rw w.self-inside-is (ap with_locals (set_put c.args.number c.args.datum locals.items) ∙ whole)
      | in_default w ↦
          let long : length locals.items ≡ vec_len locals = search rules in
          rw w.self-inside-is (ap with_locals
          (sym (changed_past c.args.number (λ old. c.args.datum) locals.items
          (rw long (not_below c.args.number (vec_len locals) w.in_default.ensures.variant.1)))) ∙ whole)
    ]
