-- Lost updates as they are found. The private functions of `lost` cite it.
use Rattle.std.specs.Prelude.{◌≡◌, ◌↔◌, ◌<◌, false, true, List, length}
use Rattle.sect_lemmas.specs.Lists.{Has}
use Rattle.sect_types.specs.Sections.{sections_of}
use Rattle.sect_names.specs.declared.lock.Effect.TheVariants.{Read, Write}
use Rattle.sect_flows.specs.{declared.point.LocalAt.{LocalAt}, Flows.{MayFlow}}
use Rattle.sect_emit.specs.Compiled.{CompiledView}
use Rattle.sect_warnings.specs.{declared.access.Access.{Access}, Fields.{is_same_field}}
use Rattle.sect_warnings.specs.Lost.{accesses, loads_in, thread_of, point_of}

-- these are the loads and the stores of locals
abbrev pub AreAccesses : CompiledView → List Access → List Access → Type 0
AreAccesses c loads stores = (loads ≡ accesses Read c) × (stores ≡ accesses Write c)

abbrev pub IsInSection : CompiledView → Access → Type 0
IsInSection c a = a.section < length (sections_of c.scheme.program.texts)

-- these are all places where the value of the load may be
abbrev pub IsReached : CompiledView → Access → List LocalAt → Type 0
IsReached c load found =
    (k : LocalAt) → Has found k ↔ MayFlow c.scheme.graphs (thread_of c load) (point_of load) load.local k

-- what is asked of a load and a store before any value is followed
pub record MayBeLost (c : CompiledView) (load store : Access) : Type 0 where
  pub field : is_same_field load.field store.field ≡ true
  pub thread : thread_of c load ≡ thread_of c store
  pub blind : loads_in (accesses Read c) store.section store.field ≡ false
