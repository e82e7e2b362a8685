use Rattle.std.proofs.Common.{◌≡◌, ◌<◌, ◌∙◌, length, arith, refl, sym, subst, true≢false}
use Rattle.std.proofs.lemmas.List.{take_all}
use Rattle.sect_lemmas.specs.Lists.{Has}
use Rattle.sect_lemmas.proofs.Membership.{Has-get_or}
use Rattle.sect_names.specs.declared.lock.Lock.{Lock}
use Rattle.sect_conflicts.specs.Taken.{MeetsLock}
use Rattle.sect_conflicts.specs.steps.Profiles.{AreSitesOfLock}
use Rattle.sect_conflicts.proofs.PathPairs.{zipped_here}
use Rattle.sect_conflicts.proofs.shared.Selecting.{more_at}
use Rattle.sect_conflicts.proofs.meeting.meets_any.Goals as goal

pub loop-place-init : goal.loop-place-init
loop-place-init c = λ s mine theirs other none. absurd none

pub returns-then-meets_lock : goal.returns-then-meets_lock
returns-then-meets_lock c = λ s mine theirs.
    let others = c.args.others.now in
    let i = c.loop-place.place in
    let l = c.index-others-place.result in
    let within : i < length others = omega arith in
    let here = zipped_here (AreSitesOfLock s) others c.args.other_sites.now theirs i l within
    c.index-others-place.is in (
      λ t. (
        l,
        subst (Has others) (sym c.index-others-place.is) (Has-get_or others i l within),
        (c.meets_lock.ensures s mine (here _)).0 c.if-meets_lock.true,
      ),
      λ m. refl,
    )

pub loop-place-preserved : goal.loop-place-preserved
loop-place-preserved c = λ s mine theirs.
    let others = c.args.others.now in
    let i = c.loop-place.place in
    let l = c.index-others-place.result in
    let within : i < length others = omega arith in
    let here = zipped_here (AreSitesOfLock s) others c.args.other_sites.now theirs i l within
    c.index-others-place.is in
    more_at (λ (y : Lock). MeetsLock s c.args.lock.now y → ⊥) others i l within (c.loop-place.invariant s mine theirs)
    (λ m. true≢false (sym ((c.meets_lock.ensures s mine (here _)).1
    (subst (MeetsLock s c.args.lock.now) (sym c.index-others-place.is) m)) ∙ c.if-meets_lock.false))

pub returns : goal.returns
returns c = λ s mine theirs. (
  λ t. absurd (true≢false (sym t)),
  λ (other, has, meets). absurd (c.loop-place.invariant s mine theirs other
      (subst (λ ls. Has ls other) (sym (take_all c.loop-place.place c.args.others.now (omega arith))) has) meets),
)
