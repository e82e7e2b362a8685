use Rattle.std.proofs.Common.{◌≡◌, ◌↔◌, ◌∙◌, sym, ap, subst, Some, None}
use Rattle.sect_points.specs.{declared.holders.Variable.TheVariants.{Local}, Paths.{var, dot}}
use Rattle.sect_points.specs.PathClasses.{variable_of, variable_in}
use Rattle.sect_names.specs.Carrying.{Before}
use Rattle.sect_names.proofs.Untouched.{untouched_base, untouched_assignment, untouched_field}
use Rattle.sect_types.specs.declared.expansion.action.Action.TheVariants as action
use Rattle.sect_types.specs.declared.expansion.action.Label.TheVariants as label
use Rattle.sect_names.proofs.touching.Change.of.Goals as goal

pub returns-in-Assign : goal.returns-in-Assign
returns-in-Assign c = λ p other classes q.
    let t = c.args.thread in
    let is : c.args.label.now ≡ label.Act (action.Assign c.in-Assign.target c.in-Assign.field-1) =
    c.in-Act.is ∙ ap (λ a. label.Act a) c.in-Assign.is in
    subst (λ l. Before classes t l p q ↔ (q ≡ p)) (sym is)
    (untouched_assignment t c.in-Assign.target c.in-Assign.field-1 p q other)

pub returns-in-New : goal.returns-in-New
returns-in-New c = λ p other classes q.
    let t = c.args.thread in
    let is : c.args.label.now ≡ label.Act (action.New c.in-New.target c.in-New.field-1 c.in-New.field-2) =
    c.in-Act.is ∙ ap (λ a. label.Act a) c.in-New.is in
    subst (λ l. Before classes t l p q ↔ (q ≡ p)) (sym is) (untouched_base (Local t c.in-New.target) None p q other)

pub returns-in-Load : goal.returns-in-Load
returns-in-Load c = λ p other classes q.
    let t = c.args.thread in
    let is : c.args.label.now ≡ label.Act (action.Load c.in-Load.target c.in-Load.field-1 c.in-Load.field-2) =
    c.in-Act.is ∙ ap (λ a. label.Act a) c.in-Load.is in
    subst (λ l. Before classes t l p q ↔ (q ≡ p)) (sym is)
    (untouched_base (Local t c.in-Load.target) (Some (dot (var (variable_of t c.in-Load.field-1)) c.in-Load.field-2)) p
    q other)

pub returns-in-Store : goal.returns-in-Store
returns-in-Store c = λ p other classes q.
    let t = c.args.thread in
    let is : c.args.label.now ≡ label.Act (action.Store c.in-Store.field-0 c.in-Store.field c.in-Store.field-2) =
    c.in-Act.is ∙ ap (λ a. label.Act a) c.in-Store.is in
    subst (λ l. Before classes t l p q ↔ (q ≡ p)) (sym is)
    (untouched_field classes (variable_of t c.in-Store.field-0) c.in-Store.field (variable_in t c.in-Store.field-2) p q
    other)
