use Rattle.std.proofs.Common.{◌≡◌, ◌≤◌, ◌^◌, List, Ok, ap, ◌∙◌, subst, arith, length, All}
use Rattle.std.specs.Prelude.{MatchResult, position}
use Rattle.sect_front.specs.declared.tree.Declaration.{Declaration}
use Rattle.sect_types.specs.{Sight.{same_name, names_of_records}, Environments.{type_of}, Limits.{most_fields}}
use Rattle.sect_types.specs.declared.declarations.types.ValueType.{ValueType}
use Rattle.sect_asking.specs.Meaning.{named, IsAnswer}
use Rattle.sect_asking.proofs.Places.{few_in, place_below}
use Rattle.sect_asking.proofs.resolving.field_number.Goals as goal

pub number_at-requires : goal.number_at-requires
number_at-requires c =
    let p = c.args.program.now in
    let few = few_in most_fields (λ (d : Declaration). type_of (names_of_records p.source.records) d.kind)
    p.source.records c.args.number
    (subst (λ rs. All (λ (ts : List ValueType). length ts ≤ most_fields) rs) c.tree-numbers.ensures.numbers.records_are
    c.facts.ensures.limits.few_fields) in
    place_below c.place_of_field-place.result (length c.fields_of.result.now) (2 ^ 16)
    (omega (arith, few, ap length c.fields_of.ensures)) c.place_of_field-place.ensures.within

pub returns : goal.returns
returns c =
    let word = c.args.word.now in
    subst (λ o. MatchResult c.number_at.result (λ n. named word o ≡ Ok n) (IsAnswer (named word o)))
    (c.place_of_field-place.ensures.place
    ∙ ap (position (λ (d : Declaration). same_name word.name d.name)) c.fields_of.ensures) c.number_at.ensures
