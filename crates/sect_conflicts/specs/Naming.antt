-- What is told of sections has names.
use Rattle.std.specs.Prelude.{◌≢◌, ⊤, List, []}
use Rattle.sect_lemmas.specs.Lists.{Has}
use Rattle.sect_types.specs.Programs.{ProgramView}
use Rattle.sect_names.specs.Locks.{IsPathOf}
use Rattle.sect_conflicts.specs.{declared.conflict.PathPair.{PathPair}, declared.conflict.SectionPair.{SectionPair}}
use Rattle.sect_conflicts.specs.declared.conflict.Conflict.{Conflict}
use Rattle.sect_conflicts.specs.declared.conflict.Conflict.TheVariants.{Always, Sometimes, Never}

-- both paths have names
abbrev pub IsPairNamed : ProgramView → PathPair → Type 0
IsPairNamed p pair = IsPathOf p pair.first × IsPathOf p pair.second

abbrev pub ArePairsNamed : ProgramView → List PathPair → Type 0
ArePairsNamed p pairs = (pair : PathPair) → Has pairs pair → IsPairNamed p pair

-- where sections exclude each other in some states there are pairs of paths, which have names
abbrev pub IsConflictNamed : ProgramView → Conflict → Type 0
IsConflictNamed p (Always clash) = ⊤
IsConflictNamed p (Sometimes pairs) = (pairs.items ≢ []) × ArePairsNamed p pairs.items
IsConflictNamed p Never = ⊤

abbrev pub AreConflictsNamed : ProgramView → List SectionPair → Type 0
AreConflictsNamed p pairs = (pair : SectionPair) → Has pairs pair → IsConflictNamed p pair.conflict
