-- What is said of a warning.
use Rattle.std.specs.{Prelude.{ℕ, List, ◌++◌, codes}, Fmt.{decimal}}
use Rattle.sect_names.specs.declared.lock.Effect.{Effect}
use Rattle.sect_warnings.specs.{declared.warning.Finding.{Finding}, declared.warning.Spare.{Spare}}
use Rattle.sect_warnings.specs.{declared.warning.Told.{Told}, declared.warning.Warning.{Warning}}
use Rattle.sect_places.specs.declared.name_use.Thing.TheVariants as thing
use Rattle.sect_names.specs.declared.lock.Effect.TheVariants as effect
use Rattle.sect_warnings.specs.declared.warning.Finding.TheVariants as finding
use Rattle.sect_warnings.specs.declared.warning.Spare.TheVariants as spare
use Rattle.sect_warnings.specs.declared.warning.Told.TheVariants as told

-- its name
abbrev pub name_of : Finding → List ℕ
name_of finding.NoLock = codes "no-lock"
name_of finding.AllForOne = codes "all-for-one"
name_of (finding.ClassLock n e) = codes "class-lock"
name_of (finding.NeverFilled j x) = codes "never-filled"
name_of (finding.NoCommonField j) = codes "no-common-field"
name_of (finding.LostUpdate u) = codes "lost-update"

-- what a class is locked for
abbrev pub doing : Effect → List ℕ
doing effect.Read = codes "reading"
doing effect.Write = codes "writing"

-- what is told of a section, in a few words
abbrev pub told_of : Finding → List ℕ
told_of finding.NoLock = codes " takes no lock"
told_of finding.AllForOne = codes " locks everything where one lock would do"
told_of (finding.ClassLock n e) = codes " locks all of class " ++ decimal n ++ codes " for " ++ doing e
told_of (finding.NeverFilled j x) = codes " goes through a local that is always null"
told_of (finding.NoCommonField j) =
    codes " excludes section " ++ decimal j ++ codes ", though neither stores to a field that the other uses"
told_of (finding.LostUpdate u) =
    codes " stores to a field what section " ++ decimal u.load.section ++ codes " has loaded from it"

abbrev pub title_of : Warning → List ℕ
title_of w = codes "section " ++ decimal w.section ++ told_of w.finding

-- what a lock on a whole class means
abbrev pub class_note : List ℕ
class_note = codes "a path to such an object has more fields than a lock may have"

-- what it means
abbrev pub note_of : Finding → List ℕ
note_of finding.NoLock = codes "it touches nothing that threads share"
note_of finding.AllForOne = codes "a section marked `all` runs beside no other that takes a lock"
note_of (finding.ClassLock n e) = class_note
note_of (finding.NeverFilled j x) =
    codes "no statement ever gives the local an object, so a thread that comes here ends by the fault `null`"
note_of (finding.NoCommonField j) =
    codes "a lock is on all fields of an object; in two records these could be used side by side"
note_of (finding.LostUpdate u) =
    codes "what other threads store between the two sections is lost: load and store belong into one section"

-- the same of a declaration
abbrev pub spare_name : Spare → List ℕ
spare_name (spare.Unused what) = codes "unused"
spare_name spare.Hint = codes "hint-without-use"

abbrev pub spare_title : Spare → List ℕ
spare_title (spare.Unused thing.Record) = codes "nothing uses this record"
spare_title (spare.Unused thing.Field) = codes "nothing uses this field"
spare_title (spare.Unused thing.Global) = codes "nothing uses this global"
spare_title (spare.Unused thing.Procedure) = codes "nothing calls this procedure"
spare_title (spare.Unused thing.Thread) = codes "nothing uses this thread"
spare_title (spare.Unused thing.Local) = codes "nothing uses this variable"
spare_title spare.Hint = codes "no section touches an object of this record"

abbrev pub spare_note : Spare → List ℕ
spare_note (spare.Unused what) = codes "no name in the text refers to it"
spare_note spare.Hint = codes "its hint has nothing to protect"

-- of a section or a declaration
abbrev pub told_name : Told → List ℕ
told_name (told.Section w) = name_of w.finding
told_name (told.Declaration s) = spare_name s

abbrev pub told_title : Told → List ℕ
told_title (told.Section w) = title_of w
told_title (told.Declaration s) = spare_title s

abbrev pub told_note : Told → List ℕ
told_note (told.Section w) = note_of w.finding
told_note (told.Declaration s) = spare_note s
