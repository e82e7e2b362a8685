-- Keys and deeds as they are printed. `put_key` and `put_deed` cite it.
use Rattle.std.specs.{Prelude.{ℕ, List, ◌++◌, codes}, Fmt.{decimal}}
use Rattle.sect_types.specs.Programs.{ProgramView}
use Rattle.sect_store.specs.Printing.{object_name}
use Rattle.sect_modes.specs.{Mode.{mode_text}, declared.key.Key.{Key}}
use Rattle.sect_world.specs.declared.event.Deed.{Deed}
use Rattle.sect_world.specs.declared.event.Deed.TheVariants.{Local, Enter, Take, Begin, Again, Act, Leave}
use Rattle.sect_types.specs.declared.meaning.store.ObjectName.TheVariants as object
use Rattle.sect_modes.specs.declared.key.Key.TheVariants as key

-- all, a class by its number, an object by its name
abbrev pub key_text : ProgramView → Key → List ℕ
key_text p key.All = codes "all"
key_text p (key.Class c) = codes "class " ++ decimal c
key_text p (key.Global g) = object_name p (object.Global g)
key_text p (key.Made t n) = object_name p (object.Made t n)

abbrev pub deed_text : ProgramView → Deed → List ℕ
deed_text p Local = codes "local"
deed_text p Enter = codes "enter"
deed_text p (Take k m) = codes "take " ++ key_text p k ++ codes " " ++ mode_text m
deed_text p Begin = codes "begin"
deed_text p Again = codes "again"
deed_text p Act = codes "act"
deed_text p Leave = codes "leave"
