-- Keys and modes as JSON. `key_value` and `mode_value` cite it.
use Rattle.std.specs.Prelude.{[], ◌∷◌, codes}
use Rattle.serde_json.specs.Data.{Data, string}
use Rattle.sect_types.specs.{Programs.{ProgramView}, declared.meaning.store.ObjectName.{ObjectName}}
use Rattle.sect_store.specs.Printing.{object_name}
use Rattle.sect_modes.specs.{Mode.{mode_text}, declared.mode.Mode.{Mode}, declared.key.Key.{Key}}
use Rattle.sect_json.specs.Values.{count, record_of}
use Rattle.sect_types.specs.declared.meaning.store.ObjectName.TheVariants as object
use Rattle.sect_modes.specs.declared.key.Key.TheVariants as key

-- the key of one object
abbrev pub object_key_json : ProgramView → ObjectName → Data
object_key_json p name =
    record_of ((codes "kind", string (codes "object")) ∷ (codes "name", string (object_name p name)) ∷ [])

-- all objects, a class by its number, or an object by its name
abbrev pub key_json : ProgramView → Key → Data
key_json p key.All = record_of ((codes "kind", string (codes "all")) ∷ [])
key_json p (key.Class c) = record_of ((codes "class", count c) ∷ (codes "kind", string (codes "class")) ∷ [])
key_json p (key.Global g) = object_key_json p (object.Global g)
key_json p (key.Made t n) = object_key_json p (object.Made t n)

abbrev pub mode_json : Mode → Data
mode_json m = string (mode_text m)
