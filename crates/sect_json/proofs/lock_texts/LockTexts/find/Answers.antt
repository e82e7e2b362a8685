use Rattle.std.proofs.Common.{◌≡◌, Some, ap, subst}
use Rattle.std.specs.Prelude.{slice_get, position, MatchOption}
use Rattle.sect_lemmas.specs.Lists.{Has}
use Rattle.sect_lemmas.proofs.Finding.{place_tells}
use Rattle.sect_names.specs.contracts.lock.LockPartialEq.TheImpl.{ghosts as the_lock_eq}
use Rattle.sect_names.proofs.shared.Telling.{lock_tells}
use Rattle.sect_json.proofs.lock_texts.LockTexts.find.Goals as goal

pub returns : goal.returns
returns c =
    let keys = c.self.inside.locks.keys in
    let l = c.args.lock.now in
    rw c.get_index_of.ensures.index
    (subst (λ ks. MatchOption (position (the_lock_eq.eq l) keys) (Has ks l → ⊥) (λ n. slice_get ks n ≡ Some l))
    (ap (λ t. t.keys) c.self.view_is) (place_tells the_lock_eq.eq lock_tells keys l))
