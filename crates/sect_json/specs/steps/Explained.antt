-- The first sections, with their chains. `explained_values` cites it.
use Rattle.std.specs.Prelude.{◌≡◌, ℕ, List, length}
use Rattle.serde_json.specs.Data.{Data}
use Rattle.sect_names.specs.declared.link.Link.{Link}
use Rattle.sect_emit.specs.{Compiled.{CompiledView}, Explaining.{IsChained}}
use Rattle.sect_json.specs.{Values.{by_place}, Explaining.{AreChained, explained_json}}

-- this is section i, with a chain for each of its locks
pub record IsExplained (c : CompiledView) (i : ℕ) (value : Data) : Type 0 where
  pub chains : List (List Link)
  pub chained : IsChained c i chains
  pub told : value ≡ explained_json c i chains

-- these are so many sections, from the first on
pub record AreExplained (c : CompiledView) (count : ℕ) (values : List Data) : Type 0 where
  pub all : List (List (List Link))
  pub chained : AreChained c all
  pub counted : length all ≡ count
  pub told : values ≡ by_place (explained_json c) 0 all
