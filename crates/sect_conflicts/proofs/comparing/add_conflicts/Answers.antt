use Rattle.std.proofs.Common.{◌≡◌, ℕ, ◌<◌, ◌∷◌, ◌++◌, [], length, get_or, refl, sym, ap, ◌∙◌, arith}
use Rattle.sect_lemmas.proofs.Places.{at_of}
use Rattle.sect_types.specs.{Programs.{ProgramView}, Sections.{sections_of}}
use Rattle.sect_names.specs.Schemes.{SchemeView}
use Rattle.sect_conflicts.specs.{declared.profile.Profile.{Profile}, declared.conflict.SectionPair.{SectionPair}}
use Rattle.sect_conflicts.proofs.Profiling.{profile_here, one_thread, two_threads}
use Rattle.sect_conflicts.proofs.Progressing.{passed, compared, row_begins, row_ends}
use Rattle.sect_conflicts.proofs.comparing.add_conflicts.Goals.{then-profiles-first+in_ok-conflict+in_ok-push}
use Rattle.sect_conflicts.proofs.comparing.add_conflicts.Goals.{else-profiles-first}
use Rattle.sect_conflicts.proofs.comparing.add_conflicts.Goals as goal

-- the sections are as many as the compiled program has
counted : (s : SchemeView) (p : ProgramView) (n : ℕ) → p ≡ s.program → n ≡ length (sections_of p.texts)
    → n ≡ length (sections_of s.program.texts)
counted s p n is count = count ∙ ap (λ (q : ProgramView). length (sections_of q.texts)) is

pub loop-second-init : goal.loop-second-init
loop-second-init c = row_begins c.args.compiled.now c.args.first c.args.found.now.items c.requires.before

pub loop-second-preserved : goal.loop-second-preserved
loop-second-preserved c =
    let p = c.args.compiled.now in
    let profiles = c.args.profiles.now in
    let i = c.args.first in
    let j = c.loop-second.second in
    let pairs = c.loop-second.found.items in
    let count = counted p.scheme c.program.result.now _
    (c.program.ensures ∙ ap (λ (s : SchemeView). s.program) c.scheme.ensures) c.section_count-count.ensures.count in
    let many = c.requires.profiles.0 in
    let first : i < length (sections_of p.scheme.program.texts) = omega (arith, c.requires.first, many) in
    let second : j < length (sections_of p.scheme.program.texts) = omega (arith, c.loop-second-test.true, count) in
    let lesser : i < j = omega (arith, c.loop-second.auto.second) in
    let x = c.index-profiles-first.result in
    let y = c.index-profiles-second.result in
    let mine = profile_here p profiles c.requires.profiles i x c.requires.first c.index-profiles-first.is in
    let theirs = profile_here p profiles c.requires.profiles j y (omega (arith, second, many))
    c.index-profiles-second.is in
    let at_x : x.thread ≡ (get_or profiles i x).thread = ap (λ (z : Profile). z.thread) c.index-profiles-first.is in
    let at_y : y.thread ≡ (get_or profiles j y).thread = ap (λ (z : Profile). z.thread) c.index-profiles-second.is in
    let of = at_of (sections_of p.scheme.program.texts) i first in
    let other = at_of (sections_of p.scheme.program.texts) j second in
    elim c.if-profiles-first.branch [
      | then-profiles-first+in_ok-conflict+in_ok-push w ↦
          let new : SectionPair = record { first = i; second = j; conflict = w.in_ok-conflict.conflict } in
          rw (w.found-is, w.in_ok-push.ensures.items)
          (compared p i j pairs c.loop-second.invariant new (pairs ++ new ∷ []) refl refl refl
          (two_threads p i j x y mine theirs of.0 other.0 lesser of.1 other.1
          (λ e. w.if-profiles-first.true (sym at_x ∙ e ∙ at_y)))
          w.in_ok-conflict.ensures)
      | else-profiles-first w ↦ rw w.found-is
          (passed p i j pairs c.loop-second.invariant (one_thread p i j x y mine theirs
          (at_x ∙ w.if-profiles-first.false ∙ sym at_y)))
    ]

pub returns : goal.returns
returns c =
    let p = c.args.compiled.now in
    let count = counted p.scheme c.program.result.now _
    (c.program.ensures ∙ ap (λ (s : SchemeView). s.program) c.scheme.ensures) c.section_count-count.ensures.count in
    row_ends p c.args.first c.loop-second.second c.loop-second.found.items
    (omega (arith, c.loop-second-test.false, count))
    c.loop-second.invariant
