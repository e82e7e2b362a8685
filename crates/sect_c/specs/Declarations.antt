-- Records, globals and plans in C, and what shows the fields of an object.
use Rattle.std.specs.Prelude.{ℕ, ◌+◌, List, [], ◌∷◌, ◌++◌, slice_index_or, if◌then◌else◌, codes}
use Rattle.std.specs.{List.{flat_map}, Fmt.{decimal}}
use Rattle.sect_types.specs.{Programs.{ProgramView}, declared.expansion.action.Field.{Field}}
use Rattle.sect_types.specs.declared.declarations.types.ValueType.{ValueType}
use Rattle.sect_types.specs.declared.declarations.types.ValueType.TheVariants.{Int, Refers}
use Rattle.sect_modes.specs.{declared.mode.Mode.{Mode}, declared.key.Key.{Key}, Mode.{mode_text}}
use Rattle.sect_names.specs.Printing.{field_name}
use Rattle.sect_emit.specs.{declared.plan.Grip.{Grip}, Listing.{by_number}}
use Rattle.sect_c.specs.Naming.{record_c, field_c, global_c, type_c}
use Rattle.sect_c.specs.Statements.{is_looked}
use Rattle.sect_modes.specs.declared.key.Key.TheVariants as key

abbrev pub field_at : ℕ → ℕ → Field
field_at r n = record { of = r; number = n }

-- a field that may be read while others write it is atomic
abbrev pub field_type_c : ProgramView → List Field → Field → ValueType → List ℕ
field_type_c p looked f of =
    if is_looked looked f then codes "_Atomic(" ++ type_c p.source of ++ codes ") " else type_c p.source of

abbrev pub field_line : ProgramView → List Field → ℕ → ℕ → ValueType → List ℕ
field_line p looked r n of =
    codes "  " ++ field_type_c p looked (field_at r n) of ++ field_c p.source (field_at r n) ++ codes ";\n"

-- that there is such a record
abbrev pub opening_c : ProgramView → ℕ → List ValueType → List ℕ
opening_c p r fields = record_c p.source r ++ codes ";\n"

-- a record's structure: the head of each object, and the fields
abbrev pub structure_c : ProgramView → List Field → ℕ → List ValueType → List ℕ
structure_c p looked r fields =
    record_c p.source r ++ codes " {\n  struct sect_object head;\n" ++ by_number (field_line p looked r) 0 fields
    ++ codes "};\n"

-- a global's object, alone on its cache line
abbrev pub global_line : ProgramView → ℕ → ℕ → List ℕ
global_line p g r =
    codes "static _Alignas(64) " ++ record_c p.source r ++ codes " " ++ global_c p.source g
    ++ codes " = { .head = { .number = " ++ decimal g ++ codes ", .record = " ++ decimal r ++ codes " } };\n"

-- a key that is taken in every state: that of all objects stands before those of classes
abbrev pub whole_c : ℕ → Mode → List ℕ
whole_c n m = codes " { &wholes[" ++ decimal n ++ codes "].key, SECT_" ++ mode_text m ++ codes ", 0 },"

abbrev pub key_c : Key → Mode → List ℕ
key_c key.All m = whole_c 0 m
key_c (key.Class c) m = whole_c (c + 1) m
key_c (key.Global g) m = []
key_c (key.Made t n) m = []

abbrev pub grip_c : Grip → List ℕ
grip_c g = key_c g.key g.mode

-- the keys that section i takes in every state
abbrev pub plan_c : ℕ → List Grip → List ℕ
plan_c i part =
    codes "static const struct sect_grip plan_" ++ decimal i ++ codes "[] = {" ++ flat_map grip_c part
    ++ codes " { NULL, SECT_IS, 0 } };\n"

abbrev pub shown_c : ValueType → List ℕ
shown_c Int = codes "    sect_show_int(\""
shown_c (Refers r) = codes "    sect_show_reference(program, \""

abbrev pub shown_value_c : ProgramView → List Field → Field → List ℕ
shown_value_c p looked f =
    if is_looked looked f then codes "SECT_GET(&o->" ++ field_c p.source f ++ codes "));\n" else
    codes "o->" ++ field_c p.source f ++ codes ");\n"

-- a field is shown by its name
abbrev pub shown_line : ProgramView → List Field → ℕ → ℕ → ValueType → List ℕ
shown_line p looked r n of =
    shown_c of ++ field_name p.source (field_at r n) ++ codes "\", " ++ shown_value_c p looked (field_at r n)

-- the fields of an object of record r
abbrev pub case_c : ProgramView → List Field → ℕ → List ValueType → List ℕ
case_c p looked r fields =
    codes "  case " ++ decimal r ++ codes ": {\n    " ++ record_c p.source r ++ codes " *o = (void *)object; (void)o;\n"
    ++ by_number (shown_line p looked r) 0 fields ++ codes "    break;\n  }\n"
