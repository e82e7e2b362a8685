-- The locks of a compiled program's sections have names.
use Rattle.std.proofs.{Common.{◌≡◌, ℕ, List, Some, arith, slice_get}, lemmas.Option.{slice_get_within}}
use Rattle.sect_types.specs.Sections.{sections_of}
use Rattle.sect_lemmas.proofs.Places.{at_of}
use Rattle.sect_names.specs.{Printing.{AreNamed}, declared.lock.Lock.{Lock}}
use Rattle.sect_names.proofs.shared.Named.{named_lock}
use Rattle.sect_emit.specs.Compiled.{CompiledView, IsCompiled}

-- what the locks of a section's set name is there
pub set_named : (c : CompiledView) → IsCompiled c → (i : ℕ) (set : List Lock) → slice_get c.sets i ≡ Some set
    → AreNamed c.scheme.program set
set_named c compiled i set at l has =
    let of = at_of (sections_of c.scheme.program.texts) i
    (let w = slice_get_within c.sets i set at in omega (arith, w, compiled.set_count)) in
    named_lock c.scheme of.0.thread l (compiled.lawful i of.0 set l of.1 at has)
