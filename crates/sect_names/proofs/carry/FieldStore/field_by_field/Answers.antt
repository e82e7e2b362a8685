use Rattle.std.proofs.Common.{◌≡◌, ◌↔◌, sym, ap, ◌∙◌, arith, subst, length, ◌<◌, ◌≤◌, get_or}
use Rattle.std.proofs.lemmas.List.{at_drop_all, get_or_default}
use Rattle.sect_types.specs.declared.expansion.action.Field.{Field}
use Rattle.sect_lemmas.specs.Lists.{Has}
use Rattle.sect_lemmas.proofs.{Elements.{drop_next}, Making.{one_has}}
use Rattle.sect_points.specs.Paths.{dots, path_of-fields}
use Rattle.sect_names.proofs.Storing.{over_before}
use Rattle.sect_names.specs.steps.OverStore.{OverField}
use Rattle.sect_names.proofs.carry.FieldStore.field_by_field.Goals as goal

pub loop-field-init : goal.loop-field-init
loop-field-init c = record {
  before = λ q. rw (c.in_ok-paths.ensures, c.new.ensures, c.new-beginning.ensures, c.base.ensures, c.base-2.ensures)
      (one_has _ q);
  rest = rw (c.new-beginning.ensures, c.base.ensures, c.fields-field-items.ensures.fields)
      (path_of-fields c.args.path.now);
}

pub loop-field-preserved : goal.loop-field-preserved
loop-field-preserved c =
    let x = c.args.self in
    let s = c.args.scheme.now.classes in
    let fs = c.fields-field-items.result.now in
    let i = c.loop-field.field-index in
    let p = c.loop-field.beginning in
    let within : i < length fs = omega arith in
    let zero : Field = record { of = 0; number = 0 } in
    let f = get_or fs i zero in
    let next = drop_next fs i f within (get_or_default fs i zero f within) in
    let over = over_before s x.base x.field x.value p f c.loop-field.paths.items c.loop-field.invariant.before in
    record {
      before = λ q. rw c.in_ok-push.ensures (
          let made = subst (λ xs. Has c.in_ok-paths-2.paths.items q ↔ OverField s x.base x.field x.value p f xs q)
          c.as_slice.ensures.value (c.in_ok-paths-2.ensures q) in
          (λ h. (over q).0 (made.0 h), λ h. made.1 ((over q).1 h)));
      rest = rw c.in_ok-push.ensures (sym (ap (dots p) next) ∙ c.loop-field.invariant.rest);
    }

pub returns : goal.returns
returns c =
    let fs = c.fields-field-items.result.now in
    let past : length fs ≤ c.loop-field.field-index = omega arith in
    let whole : c.loop-field.beginning ≡ c.args.path.now =
    sym (at_drop_all (dots c.loop-field.beginning) fs c.loop-field.field-index past)
    ∙ c.loop-field.invariant.rest in
    λ q. rw (sym whole) (c.loop-field.invariant.before q)
