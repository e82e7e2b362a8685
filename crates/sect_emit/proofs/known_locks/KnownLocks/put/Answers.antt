use Rattle.std.proofs.{Common.{◌∙◌, sym, ap, subst}, lemmas.Option.{get_or_from_slice_get}}
use Rattle.sect_names.specs.Printing.{IsNamed}
use Rattle.sect_cert.specs.Texts.{IsLock}
use Rattle.sect_emit.specs.{Words.{lock_words}, steps.Known.{AreKnown}}
use Rattle.sect_emit.proofs.KnownLemmas.{known_more}
use Rattle.sect_names.specs.declared.lock.Lock.TheVariants as lock
use Rattle.sect_emit.proofs.known_locks.KnownLocks.put.Goals as goal

pub lock_of-requires : goal.lock_of-requires
lock_of-requires c = subst (IsNamed c.args.program.now) (get_or_from_slice_get c.args.chains.now.keys c.args.number
    c.lock.result.now lock.All c.lock.ensures) c.requires.named

pub returns-clause-words : goal.returns-clause-words
returns-clause-words c = c.in_ok-named.ensures.words ∙ ap (lock_words c.args.program.now.source)
    (sym (get_or_from_slice_get c.args.chains.now.keys c.args.number c.lock.result.now lock.All c.lock.ensures))

pub returns-clause-known : goal.returns-clause-known
returns-clause-known c =
    let t = c.args.program.now.source in
    let keys = c.args.chains.now.keys in
    let n = c.args.number in
    let same = c.in_ok-share.ensures in
    known_more t keys c.self.inside.named.items n c.in_ok-share.field-0
    (subst (AreKnown t keys) (sym c.self.view_is) c.requires.known)
    (same ∙ c.in_ok-named.ensures.words ∙ ap (lock_words t)
    (sym (get_or_from_slice_get keys n c.lock.result.now lock.All c.lock.ensures)))
    (subst IsLock (sym same) c.in_ok-named.ensures.good)
