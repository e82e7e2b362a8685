use Rattle.std.proofs.{Common.{sym, ◌∙◌, subst, true≢false}, lemmas.Slice.Zip.{AllZip-long}}
use Rattle.sect_conflicts.specs.Conflicts.{MayGoTogether}
use Rattle.sect_conflicts.specs.steps.Profiles.{AreSitesOfLock}
use Rattle.sect_conflicts.proofs.Profiling.{profile_here, sites_of_set, told_always, told_together}
use Rattle.sect_conflicts.proofs.shared.Selecting.{some_item}
use Rattle.sect_conflicts.proofs.comparing.conflict_of.Goals as goal

pub returns-in-Some : goal.returns-in-Some
returns-in-Some c =
    let p = c.args.compiled.now in
    let profiles = c.args.profiles.now in
    let x = c.index-profiles-first.result in
    let y = c.index-profiles-second.result in
    let mine = profile_here p profiles c.requires.profiles c.args.first x c.requires.first c.index-profiles-first.is in
    let theirs = profile_here p profiles c.requires.profiles c.args.second y c.requires.second
    c.index-profiles-second.is in
    told_always p c.args.first c.args.second x y mine theirs c.as_slice.result.now c.as_slice-2.result.now
    c.as_slice.ensures.value c.as_slice-2.ensures.value c.in-Some.clash c.in-Some.ensures.some

pub path_pairs-requires-clause-first : goal.path_pairs-requires-clause-first
path_pairs-requires-clause-first c =
    let p = c.args.compiled.now in
    let x = c.index-profiles-first.result in
    let mine = profile_here p c.args.profiles.now c.requires.profiles c.args.first x c.requires.first
    c.index-profiles-first.is in
    sym (AllZip-long (AreSitesOfLock p.scheme) c.set.result.now c.as_slice-3.result.now
    (sites_of_set p c.args.first x mine c.set.result.now c.set.ensures c.as_slice-3.result.now
    c.as_slice-3.ensures.value))

pub path_pairs-requires-clause-second : goal.path_pairs-requires-clause-second
path_pairs-requires-clause-second c =
    let p = c.args.compiled.now in
    let y = c.index-profiles-second.result in
    let theirs = profile_here p c.args.profiles.now c.requires.profiles c.args.second y c.requires.second
    c.index-profiles-second.is in
    sym (AllZip-long (AreSitesOfLock p.scheme) c.set-2.result.now c.as_slice-4.result.now
    (sites_of_set p c.args.second y theirs c.set-2.result.now c.set-2.ensures c.as_slice-4.result.now
    c.as_slice-4.ensures.value))

pub returns-then-is_none : goal.returns-then-is_none
returns-then-is_none c =
    let p = c.args.compiled.now in
    let i = c.args.first in
    let j = c.args.second in
    let profiles = c.args.profiles.now in
    let x = c.index-profiles-first.result in
    let y = c.index-profiles-second.result in
    let mine = profile_here p profiles c.requires.profiles i x c.requires.first c.index-profiles-first.is in
    let theirs = profile_here p profiles c.requires.profiles j y c.requires.second c.index-profiles-second.is in
    subst (MayGoTogether p i j) (sym c.as_slice-5.ensures.value ∙ c.is_none.ensures.0 c.if-is_none.true)
    (told_together p i j x y mine theirs c.as_slice.result.now c.as_slice-2.result.now c.as_slice.ensures.value
    c.as_slice-2.ensures.value c.in_default.ensures.none c.set.result.now c.set-2.result.now c.set.ensures
    c.set-2.ensures c.in_ok-found.found.items
    (c.in_ok-found.ensures p.scheme
    (sites_of_set p i x mine c.set.result.now c.set.ensures c.as_slice-3.result.now c.as_slice-3.ensures.value)
    (sites_of_set p j y theirs c.set-2.result.now c.set-2.ensures c.as_slice-4.result.now c.as_slice-4.ensures.value)))

pub returns-else-is_none : goal.returns-else-is_none
returns-else-is_none c =
    let p = c.args.compiled.now in
    let i = c.args.first in
    let j = c.args.second in
    let profiles = c.args.profiles.now in
    let x = c.index-profiles-first.result in
    let y = c.index-profiles-second.result in
    let mine = profile_here p profiles c.requires.profiles i x c.requires.first c.index-profiles-first.is in
    let theirs = profile_here p profiles c.requires.profiles j y c.requires.second c.index-profiles-second.is in (
      told_together p i j x y mine theirs c.as_slice.result.now c.as_slice-2.result.now c.as_slice.ensures.value
          c.as_slice-2.ensures.value c.in_default.ensures.none c.set.result.now c.set-2.result.now c.set.ensures
          c.set-2.ensures c.in_ok-found.found.items
          (c.in_ok-found.ensures p.scheme
          (sites_of_set p i x mine c.set.result.now c.set.ensures c.as_slice-3.result.now c.as_slice-3.ensures.value)
          (sites_of_set p j y theirs c.set-2.result.now c.set-2.ensures c.as_slice-4.result.now
          c.as_slice-4.ensures.value)),
      some_item c.in_ok-found.found.items
          (λ e. true≢false (sym (c.is_none.ensures.1 (c.as_slice-5.ensures.value ∙ e)) ∙ c.if-is_none.false)),
    )
