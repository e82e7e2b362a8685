use Rattle.std.proofs.Common.{◌≡◌, ◌∙◌, ◌<◌, ◌≤◌, get_or, inl, inr, length, refl, sym, subst, true, false, arith}
use Rattle.std.proofs.lemmas.List.{get_or_default, take_all}
use Rattle.sect_lemmas.specs.Lists.{Has}
use Rattle.sect_lemmas.proofs.{Making.{last_of}, Membership.{Has-get_or}}
use Rattle.sect_types.specs.declared.expansion.action.Field.{Field}
use Rattle.sect_names.proofs.shared.Telling.{field_tells}
use Rattle.sect_names.proofs.path.has_field.Goals as goal

-- a field to name where there is none
abbrev none : Field
none = record { of = 0; number = 0 }

pub loop-other-preserved : goal.loop-other-preserved
loop-other-preserved c = λ h.
    let fs = c.args.fields.now in
    let f = c.args.field in
    let i = c.loop-other.other-index in
    let x = get_or fs i none in
    let within : i < length fs = omega (arith, c.loop-other-test.true) in
    elim (last_of fs i x f within (get_or_default fs i none x within) h) [
      | inl old ↦ c.loop-other.invariant old
      | inr same ↦
          let on : c.eq.result ≡ true = c.eq.ensures ∙ (field_tells x f).1 (sym same) in
          let clash : true ≡ false = sym on ∙ c.if-eq.false in
          absurd cc
    ]

pub returns-then-eq : goal.returns-then-eq
returns-then-eq c =
    let fs = c.args.fields.now in
    let f = c.args.field in
    let i = c.loop-other.other-index in
    let x = get_or fs i none in
    let within : i < length fs = omega (arith, c.loop-other-test.true) in
    let same : x ≡ f = (field_tells x f).0 (sym c.eq.ensures ∙ c.if-eq.true) in
    (λ on. subst (Has fs) same (Has-get_or fs i none within), λ h. refl)

pub returns : goal.returns
returns c =
    let fs = c.args.fields.now in
    let past : length fs ≤ c.loop-other.other-index = omega (arith, c.loop-other-test.false) in (
      λ on. absurd cc,
      λ h. absurd (c.loop-other.invariant
          (subst (λ gs. Has gs c.args.field) (sym (take_all c.loop-other.other-index fs past)) h)),
    )
