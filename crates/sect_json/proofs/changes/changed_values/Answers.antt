-- The statement is the one that runs next, and the store and the work are the world's.
use Rattle.std.proofs.{Common.{sym, ap, ◌∙◌}, lemmas.Result.{IfOk-weaker}}
use Rattle.sect_types.specs.{Programs.{ProgramView}, Store.{StoreView}, Meaning.{WorkView}}
use Rattle.sect_emit.specs.Compiled.{program_of}
use Rattle.sect_world.specs.Sights.{work_of}
use Rattle.sect_json.specs.{Changes.{changes_json}, steps.Changing.{action_change}}
use Rattle.sect_json.proofs.changes.changed_values.Goals as goal

pub returns : goal.returns
returns c =
    let w = c.args.world.now in
    let t = c.args.thread in
    let p = program_of w.compiled in
    let s = w.state.store in
    let of = λ (q : ProgramView) (r : StoreView) (u : WorkView).
    changes_json q r t u.made (action_change q t r u c.next_action-action.result) in
    IfOk-weaker c.action_values.result _ _
    (λ values h. h ∙ (ap (λ (q : ProgramView). of q c.store.result.now c.work.result.now) c.requires.printer
    ∙ (ap (λ (r : StoreView). of p r c.work.result.now) c.store.ensures
    ∙ (ap (of p s) c.work.ensures
    ∙ ap (changes_json p s t (work_of w.state t).made) (sym c.next_action-action.ensures))))) c.action_values.ensures
