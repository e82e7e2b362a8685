-- The paths that are told of sections have names.
use Rattle.std.proofs.Common.{◌≡◌, ℕ, zero, suc, List, [], ◌∷◌, Some, refl, subst}
use Rattle.std.specs.Prelude.{slice_get, slice_index_or}
use Rattle.sect_lemmas.specs.Lists.{Has}
use Rattle.sect_points.specs.Paths.{PathView}
use Rattle.sect_names.specs.{declared.lock.Effect.{Effect}, Locks.{IsPathOf}}
use Rattle.sect_emit.specs.Compiled.{CompiledView, IsCompiled, program_of}
use Rattle.sect_emit.proofs.shared.Sets.{set_named}
use Rattle.sect_conflicts.specs.{declared.conflict.PathPair.{PathPair}, declared.conflict.SectionPair.{SectionPair}}
use Rattle.sect_conflicts.specs.declared.conflict.Conflict.{Conflict}
use Rattle.sect_conflicts.specs.declared.conflict.Conflict.TheVariants.{Always, Sometimes, Never}
use Rattle.sect_conflicts.specs.Comparing.{AreConflicts}
use Rattle.sect_conflicts.specs.Conflicts.{IsConflict, MayBeOne, MayGoTogether, paths_between, set_at}
use Rattle.sect_conflicts.specs.Naming.{IsConflictNamed, AreConflictsNamed}
use Rattle.sect_conflicts.proofs.PathPairs.{between_locked}
use Rattle.sect_conflicts.proofs.shared.Selecting.{selected}
use Rattle.sect_names.specs.declared.lock.Lock.TheVariants as lock

-- a list that has something stands at its place
pub stands_there : {X : Type 0} (xs : List (List X)) (i : ℕ) (x : X) → Has (slice_index_or xs i []) x
    → slice_get xs i ≡ Some (slice_index_or xs i [])
stands_there [] i x h = absurd h
stands_there (y ∷ xs) zero x h = refl
stands_there (y ∷ xs) (suc i) x h = stands_there xs i x h

module _ (c : CompiledView) (compiled : IsCompiled c) where
  path_named : (i : ℕ) (p : PathView) (e : Effect) → Has (set_at c i) (lock.Path p e) → IsPathOf (program_of c) p
  path_named i p e h =
      set_named c compiled i (set_at c i) (stands_there c.sets i (lock.Path p e) h) (lock.Path p e) h

  pub pair_named : (i j : ℕ) (pairs : List PathPair) → MayGoTogether c i j pairs → (pair : PathPair) → Has pairs pair
      → IsPathOf (program_of c) pair.first × IsPathOf (program_of c) pair.second
  pair_named i j pairs together pair h =
      let had = selected (MayBeOne c.scheme) (paths_between (set_at c i) (set_at c j)) pairs together.meetings pair h in
      let m = between_locked (set_at c i) (set_at c j) pair had.0 in
      (path_named i pair.first m.0 m.2, path_named j pair.second m.1 m.3)

  conflict_named : (i j : ℕ) (conflict : Conflict) → IsConflict c i j conflict → IsConflictNamed (program_of c) conflict
  conflict_named i j (Always clash) told = tt
  conflict_named i j (Sometimes pairs) told =
      ((λ none. subst (λ ps. Has ps told.1.0) none told.1.1), pair_named i j pairs.items told.0)
  conflict_named i j Never told = tt

  pub conflicts_named : (pairs : List SectionPair) → AreConflicts c pairs → AreConflictsNamed (program_of c) pairs
  conflicts_named pairs told pair h = conflict_named pair.first pair.second pair.conflict (told.each pair h).1
