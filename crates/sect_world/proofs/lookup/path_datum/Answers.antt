use Rattle.std.proofs.Common.{◌≡◌, ℕ, ◌+◌, ◌<◌, List, length, take, get_or, sym, ap, ◌∙◌}
use Rattle.std.proofs.lemmas.List.{take_more, take_all}
use Rattle.sect_types.specs.declared.expansion.action.Field.{Field}
use Rattle.sect_points.specs.declared.holders.Variable.{Variable}
use Rattle.sect_points.specs.Paths.{var, dot, path_of, base_of, dots-push, path_of-fields}
use Rattle.sect_emit.specs.Plan.{path_datum as denoted, field_of as field_in}
use Rattle.sect_world.proofs.lookup.path_datum.Goals as goal

abbrev no_field : Field
no_field = record { of = 0; number = 0 }

-- one field further on a path
next_field : (v : Variable) (fs : List Field) (i : ℕ) → i < length fs
    → path_of v (take (i + 1) fs) ≡ dot (path_of v (take i fs)) (get_or fs i no_field)
next_field v fs i lt = ap (path_of v) (take_more fs i no_field lt)
    ∙ dots-push (var v) (take i fs) (get_or fs i no_field)

pub loop-field-init : goal.loop-field-init
loop-field-init c = c.variable_datum-datum.ensures
    ∙ ap (λ v. denoted c.args.store.now c.args.work.now.locals (var v)) c.base.ensures

pub loop-field-preserved : goal.loop-field-preserved
loop-field-preserved c =
    let store = c.args.store.now in
    let locals = c.args.work.now.locals in
    let fs = c.fields-field-items.result.now in
    let i = c.loop-field.field-index in
    c.field_of-datum.ensures
    ∙ ap (λ d. field_in store d (get_or fs i no_field).number) c.loop-field.invariant
    ∙ sym (ap (denoted store locals) (next_field (base_of c.args.path.now) fs i c.loop-field-test.true))

pub returns : goal.returns
returns c =
    let p = c.args.path.now in
    let fs = c.fields-field-items.result.now in
    c.loop-field.invariant
    ∙ ap (denoted c.args.store.now c.args.work.now.locals)
    (ap (path_of (base_of p)) (take_all c.loop-field.field-index fs c.loop-field-test.false
    ∙ c.fields-field-items.ensures.fields) ∙ path_of-fields p)
