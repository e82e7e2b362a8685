use Rattle.std.proofs.Common.{Some, sym, ap, ◌∙◌}
use Rattle.sect_types.specs.Meaning.{stored, name_in, value_datum}
use Rattle.sect_json.specs.steps.Changing.{came_change, action_change}
use Rattle.sect_json.proofs.Changed.{assigns, computes, makes, loads, stores, prints}
use Rattle.sect_json.proofs.changes.change_by.Goals as goal

pub returns-in-Assign : goal.returns-in-Assign
returns-in-Assign c = λ p t s.
    assigns p t s c.args.work.now c.requires c.in-Assign.field-0 c.in-Assign.field-1
    ∙ ap (λ a. action_change p t s c.args.work.now (Some a)) (sym c.in-Assign.is)

pub returns-in-Compute : goal.returns-in-Compute
returns-in-Compute c = λ p t s.
    computes p t s c.args.work.now c.requires c.in-Compute.field-0 c.in-Compute.field-1 c.in-Compute.field-2
    c.in-Compute.field-3
    ∙ ap (λ a. action_change p t s c.args.work.now (Some a)) (sym c.in-Compute.is)

pub returns-in-New : goal.returns-in-New
returns-in-New c = λ p t s.
    makes p t s c.args.work.now c.requires c.in-New.field-0 c.in-New.shape c.in-New.site
    ∙ ap (λ a. action_change p t s c.args.work.now (Some a)) (sym c.in-New.is)

pub returns-in-Load : goal.returns-in-Load
returns-in-Load c = λ p t s.
    loads p t s c.args.work.now c.requires c.in-Load.field-0 c.in-Load.field-1 c.in-Load.field-2
    ∙ ap (λ a. action_change p t s c.args.work.now (Some a)) (sym c.in-Load.is)

pub returns-in-Store : goal.returns-in-Store
returns-in-Store c = λ p t s.
    stores p t s c.args.work.now c.requires c.in-Store.base c.in-Store.field c.in-Store.value _ (λ u.
    c.write_of.ensures p u ∙ (ap (λ d. came_change (stored c.in-Store.field.number d (name_in c.base.result) u))
    c.datum.ensures
    ∙ ap (λ d. came_change (stored c.in-Store.field.number (value_datum c.args.work.now.locals c.in-Store.value)
    (name_in d) u)) c.base.ensures))
    ∙ ap (λ a. action_change p t s c.args.work.now (Some a)) (sym c.in-Store.is)

pub returns-in-Print : goal.returns-in-Print
returns-in-Print c = λ p t s.
    prints p t s c.args.work.now c.requires c.in-Print.field-0
    ∙ ap (λ a. action_change p t s c.args.work.now (Some a)) (sym c.in-Print.is)
