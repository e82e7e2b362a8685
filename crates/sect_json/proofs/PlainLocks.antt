-- The document of lock sets has no float.
use Rattle.std.proofs.{Common.{ℕ, List, refl}, lemmas.Bool.{or_from}}
use Rattle.sect_front.specs.TreeView.{TreeView}
use Rattle.sect_names.specs.declared.lock.Lock.{Lock}
use Rattle.sect_json.specs.Locks.{lock_json, section_json, locks_json}
use Rattle.sect_json.proofs.Plain.{IsPlain, plain_map, plain_by_place}
use Rattle.sect_names.specs.declared.lock.Lock.TheVariants as lock

module _ (t : TreeView) where
  pub plain_lock : (l : Lock) → IsPlain (lock_json t l)
  plain_lock lock.All = refl
  plain_lock (lock.Class c r) = refl
  plain_lock (lock.Path p e) = refl

  plain_section : (i : ℕ) (locks : List Lock) → IsPlain (section_json t i locks)
  plain_section i locks = or_from _ _ (plain_map (lock_json t) plain_lock locks) refl

  pub plain_locks : (sets : List (List Lock)) → IsPlain (locks_json t sets)
  plain_locks sets = or_from _ _ (plain_by_place (section_json t) plain_section 0 sets) refl
