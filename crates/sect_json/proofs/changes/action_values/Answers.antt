use Rattle.std.proofs.{Common.{map, sym, ap, ◌∙◌}, lemmas.Result.{IfOk-weaker}}
use Rattle.serde_json.specs.View.{view}
use Rattle.sect_json.specs.{Changes.{changes_json}, steps.Changing.{change_shown}}
use Rattle.sect_json.proofs.changes.action_values.Goals as goal

pub returns-in-Nothing : goal.returns-in-Nothing
returns-in-Nothing c =
    let by = c.args.by.now in
    let p = by.printer.now in
    let shown = ap (change_shown p) (sym c.in-Nothing.is) ∙ c.change_of.ensures p by.thread by.store.now in
    ap (map view) c.new.ensures.items ∙ ap (changes_json p by.store.now by.thread by.work.now.made) shown

pub returns-in-Written : goal.returns-in-Written
returns-in-Written c =
    let by = c.args.by.now in
    let p = by.printer.now in
    let shown = ap (change_shown p) (sym c.in-Written.is) ∙ c.change_of.ensures p by.thread by.store.now in
    IfOk-weaker c.written_values.result _ _
    (λ values h. h ∙ ap (changes_json p by.store.now by.thread by.work.now.made) shown) c.written_values.ensures

pub returns-in-Made : goal.returns-in-Made
returns-in-Made c =
    let by = c.args.by.now in
    let p = by.printer.now in
    let shown = ap (change_shown p) (sym c.in-Made.is) ∙ c.change_of.ensures p by.thread by.store.now in
    IfOk-weaker c.new_values.result _ _
    (λ values h. h ∙ ap (changes_json p by.store.now by.thread by.work.now.made) shown) c.new_values.ensures
