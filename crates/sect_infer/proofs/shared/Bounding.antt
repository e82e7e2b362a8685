-- The lock that has a number.
use Rattle.std.proofs.{Common.{◌≡◌, ℕ, ◌<◌, List, Some, length, sym, ap, ◌∙◌}, lemmas.Option.{get_or_from_slice_get}}
use Rattle.std.specs.Prelude.{slice_get}
use Rattle.sect_lemmas.proofs.Places.{at_of}
use Rattle.sect_names.specs.declared.lock.Lock.{Lock}
use Rattle.sect_infer.specs.Numberings.{lock_at}
use Rattle.sect_names.specs.declared.lock.Lock.TheVariants as lock

-- the lock with a number
pub named : (keys : List Lock) (n : ℕ) → n < length keys → slice_get keys n ≡ Some (lock_at keys n)
named keys n within = let l = at_of keys n within in
    l.1 ∙ ap (λ x. Some x) (sym (get_or_from_slice_get keys n l.0 lock.All l.1))
