-- The paths that are taken.
use Rattle.std.proofs.{Common.{◌≡◌, ℕ, List, Some, arith}, lemmas.Option.{slice_get_within}}
use Rattle.std.specs.Prelude.{slice_get}
use Rattle.sect_lemmas.proofs.Places.{at_of}
use Rattle.sect_types.specs.Sections.{sections_of}
use Rattle.sect_names.specs.{Printing.{AreNamed}, declared.lock.Lock.{Lock}}
use Rattle.sect_emit.specs.Compiled.{CompiledView, IsCompiled, program_of}
use Rattle.sect_emit.proofs.shared.Sets.{set_named}
use Rattle.sect_conflicts.specs.{Conflicts.{set_at}, Taken.{TakenView, AreTaken, IsPathMet}}
use Rattle.sect_conflicts.proofs.shared.Selecting.{selected}
use Rattle.sect_conflicts.proofs.shared.PathNames.{stands_there}

-- what the paths name that a section takes is there
pub taken_named : (c : CompiledView) → IsCompiled c → (taken : TakenView) → AreTaken c taken → (i : ℕ)
    (paths : List Lock) → slice_get taken.paths i ≡ Some paths → AreNamed c.scheme.program paths
taken_named c compiled taken are i paths at l has =
    let w = slice_get_within taken.paths i paths at in
    let of = at_of (sections_of (program_of c).texts) i (omega (arith, w, are.path_count)) in
    let had = selected (IsPathMet c of.0.thread) (set_at c i) paths (are.paths i of.0 paths of.1 at) l has in
    set_named c compiled i (set_at c i) (stands_there c.sets i l had.0) l had.0
