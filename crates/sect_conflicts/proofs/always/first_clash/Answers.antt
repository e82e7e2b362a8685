use Rattle.std.proofs.Common.{◌≡◌, ◌<◌, length, get_or, false, arith, refl, sym, subst}
use Rattle.std.proofs.lemmas.List.{get_or_default, take_all}
use Rattle.sect_lemmas.specs.Lists.{Has}
use Rattle.sect_lemmas.proofs.Membership.{Has-get_or}
use Rattle.sect_modes.specs.{declared.mode.Mode.TheVariants.{IntentionShared}, Mode.{are_compatible}}
use Rattle.sect_emit.specs.{declared.plan.Grip.{Grip}, Plan.{grip}}
use Rattle.sect_conflicts.proofs.Firsts.{none_below}
use Rattle.sect_conflicts.proofs.shared.Selecting.{more_at}
use Rattle.sect_modes.specs.declared.key.Key.TheVariants as key
use Rattle.sect_conflicts.proofs.always.first_clash.Goals as goal

pub returns-in-Some-clause-some : goal.returns-in-Some-clause-some
returns-in-Some-clause-some c =
    let wishes = c.args.wishes.now in
    let i = c.loop-wish.wish-index in
    let d = grip key.All IntentionShared in
    let within : i < length wishes = omega arith in
    let g = get_or wishes i d in
    record {
      first = Has-get_or wishes i d within;
      second = c.in-Some.ensures.some.0;
      apart = c.in-Some.ensures.some.1;
      least = none_below wishes c.args.others.now c.requires i g within (get_or_default wishes i d g within)
          c.loop-wish.invariant;
    }

pub loop-wish-preserved : goal.loop-wish-preserved
loop-wish-preserved c =
    let wishes = c.args.wishes.now in
    let i = c.loop-wish.wish-index in
    let within : i < length wishes = omega arith in
    more_at (λ (x : Grip). (y : Grip) → Has c.args.others.now y → x.key ≡ y.key
    → are_compatible x.mode y.mode ≡ false → ⊥) wishes i (grip key.All IntentionShared) within c.loop-wish.invariant
    c.in_default.ensures.none

pub returns-clause-none : goal.returns-clause-none
returns-clause-none c (k, m, n, hx, hy, apart) =
    let wishes = c.args.wishes.now in
    c.loop-wish.invariant (grip k m)
    (subst (λ xs. Has xs (grip k m)) (sym (take_all c.loop-wish.wish-index wishes (omega arith))) hx) (grip k n) hy refl
    apart
