use Rattle.std.proofs.Common.{◌≡◌, ◌<◌, ◌∙◌, Some, length, sym, ap, subst, arith}
use Rattle.std.proofs.lemmas.Option.{slice_get-get_or}
use Rattle.std.specs.Prelude.{slice_get}
use Rattle.sect_lemmas.proofs.Results.{if_ok}
use Rattle.sect_infer.specs.Numberings.{lock_at}
use Rattle.sect_cert.specs.Texts.{IsLock}
use Rattle.sect_emit.specs.{Words.{lock_words}, steps.Known.{AreKnown}}
use Rattle.sect_emit.proofs.known_locks.KnownLocks.named.Goals.{In-Some}
use Rattle.sect_emit.proofs.known_locks.KnownLocks.named.Goals as goal

-- what is kept is the lock by its names
told : (c : In-Some)
    → (c.in-Some.known ≡ lock_words c.args.program.now.source (lock_at c.args.chains.now.keys c.args.number))
    × IsLock c.in-Some.known
told c =
    let kept = c.self.inside.named.items in
    let n = c.args.number in
    let known = subst (AreKnown c.args.program.now.source c.args.chains.now.keys) (sym c.self.view_is)
    c.requires.known in
    let within : n < length kept = omega (arith, c.requires.there, known.count) in
    let at : slice_get kept n ≡ Some (Some c.in-Some.known) = slice_get-get_or kept n c.index.result.now within
    ∙ ap (λ z. Some z) (sym c.index.ensures ∙ c.in-Some.is) in
    known.each n c.in-Some.known at

pub returns-in-Some-clause-words : goal.returns-in-Some-clause-words
returns-in-Some-clause-words c =
    if_ok c.share.result (λ words same. same ∙ (told (goal.at.returns-in-Some-clause-words c).In-Some).0)
    c.share.ensures

pub returns-in-Some-clause-good : goal.returns-in-Some-clause-good
returns-in-Some-clause-good c =
    if_ok c.share.result
    (λ words same. subst IsLock (sym same) (told (goal.at.returns-in-Some-clause-good c).In-Some).1) c.share.ensures
