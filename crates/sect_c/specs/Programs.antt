-- A compiled program in C. `c_program` cites it.
use Rattle.std.specs.{Prelude.{◌≡◌, ℕ, ◌+◌, List, ◌++◌, length, codes}, Fmt.{decimal}}
use Rattle.sect_front.specs.TreeView.{TreeView}
use Rattle.sect_types.specs.{Programs.{ProgramView, sites_of}, Statements.{TextView}}
use Rattle.sect_types.specs.declared.expansion.action.Field.{Field}
use Rattle.sect_names.specs.Printing.{global_name}
use Rattle.sect_emit.specs.{Compiled.{CompiledView, program_of}, Listing.{by_number}}
use Rattle.sect_c.specs.Naming.{global_c}
use Rattle.sect_c.specs.Declarations.{opening_c, structure_c, global_line, plan_c, case_c}
use Rattle.sect_conflicts.specs.Taken.{TakenView, AreTaken, looked_of}
use Rattle.sect_c.specs.{Sections.{thread_c}, Words.{words_c}}
use Rattle.sect_c.specs.declared.runtime.TheConstants.{OPENING, RUNTIME}

-- the keys of all objects and of the classes, of which there are at most as many as sites
abbrev pub wholes_c : ProgramView → List ℕ
wholes_c p =
    codes "static struct sect_whole wholes[" ++ decimal (length (sites_of p.globals p.texts) + 1) ++ codes "];\n"

-- the records, the globals, the keys of all objects and of the classes, and of each section those that it takes in
-- every state
abbrev pub declarations_c : CompiledView → TakenView → List ℕ
declarations_c c taken =
    by_number (opening_c (program_of c)) 0 (program_of c).records
    ++ by_number (structure_c (program_of c) (looked_of taken)) 0 (program_of c).records
    ++ by_number (global_line (program_of c)) 0 (program_of c).globals ++ wholes_c (program_of c)
    ++ by_number plan_c 0 taken.parts

-- what shows the fields of an object
abbrev pub fields_c : ProgramView → List Field → List ℕ
fields_c p looked =
    codes "\nstatic void fields(const struct sect_program *program, struct sect_object *object) {\n"
    ++ codes "  (void)program;\n  switch (object->record) {\n" ++ by_number (case_c p looked) 0 p.records
    ++ codes "  }\n}\n"

abbrev pub thread_entry : ℕ → TextView → List ℕ
thread_entry u text = codes " thread_" ++ decimal u ++ codes ","

abbrev pub global_entry : TreeView → ℕ → ℕ → List ℕ
global_entry t g r = codes " &" ++ global_c t g ++ codes ".head,"

abbrev pub name_entry : TreeView → ℕ → ℕ → List ℕ
name_entry t g r = codes " \"" ++ global_name t g ++ codes "\","

-- the functions of the threads, the objects of the globals and their names, each list behind its type
abbrev pub threads_c : ProgramView → List ℕ
threads_c p =
    codes "  static void (*const threads[])(struct sect_thread *) = {" ++ by_number thread_entry 0 p.texts
    ++ codes " NULL };\n"

abbrev pub globals_c : ProgramView → List ℕ
globals_c p =
    codes "  static struct sect_object *const globals[] = {" ++ by_number (global_entry p.source) 0 p.globals
    ++ codes " NULL };\n"

abbrev pub names_c : ProgramView → List ℕ
names_c p =
    codes "  static const char *const names[] = {" ++ by_number (name_entry p.source) 0 p.globals ++ codes " NULL };\n"

abbrev pub description_c : ProgramView → List ℕ
description_c p =
    codes "  static const struct sect_program program = { " ++ decimal (length p.texts)
    ++ codes ", threads, globals, names, fields };\n"

-- the function in which the program begins
abbrev pub main_c : ProgramView → List ℕ
main_c p =
    codes "\nint main(int count, char **words) {\n" ++ threads_c p ++ globals_c p ++ names_c p ++ description_c p
    ++ codes "  (void)wholes;\n  return sect_main(&program, count, words);\n}\n"

-- what is the same for all programs: what stands before the constants of the modes, and what stands behind them
unfoldable pub head_c : List ℕ
head_c = OPENING.now

unfoldable pub runtime_c : List ℕ
runtime_c = RUNTIME.now

-- the program, whose sections take these keys: what is the same for all programs, and then its own part
abbrev pub c_text : CompiledView → TakenView → List ℕ
c_text c taken =
    head_c ++ words_c ++ runtime_c ++ codes "\n/* ---- the program ---- */\n\n" ++ declarations_c c taken
    ++ by_number (thread_c c taken) 0 (program_of c).texts ++ fields_c (program_of c) (looked_of taken)
    ++ main_c (program_of c)

-- the bytes are those of the program, whose sections take the keys that they have to
pub record IsInC (c : CompiledView) (bytes : List ℕ) : Type 0 where
  pub taken : TakenView
  pub keys : AreTaken c taken
  pub spelled : bytes ≡ c_text c taken
