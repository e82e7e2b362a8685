-- Sections and threads in C.
use Rattle.std.specs.{Prelude.{ℕ, ◌+◌, Bool, List, [], ◌∷◌, ◌++◌, length, slice_index_or, if◌then◌else◌, nat_eq, codes}}
use Rattle.std.specs.{List.{flat_map}, Fmt.{decimal}}
use Rattle.sect_types.specs.{Programs.{ProgramView}, Statements.{TextView}, Sections.{SectionView, sections_of}}
use Rattle.sect_types.specs.declared.expansion.action.Field.{Field}
use Rattle.sect_types.specs.declared.declarations.types.ValueType.{ValueType}
use Rattle.sect_types.specs.declared.declarations.types.ValueType.TheVariants.{Int, Refers}
use Rattle.sect_points.specs.{declared.holders.Variable.{Variable}, Paths.{PathView, base_of, fields_of}}
use Rattle.sect_points.specs.declared.holders.Variable.TheVariants.{Global, Local}
use Rattle.sect_graph.specs.Layout.{flow_nodes}
use Rattle.sect_modes.specs.Mode.{mode_text}
use Rattle.sect_names.specs.{declared.lock.Effect.{Effect}, declared.lock.Lock.{Lock}, Printing.{path_text, locks_text}}
use Rattle.sect_emit.specs.{Plan.{object_mode}, Compiled.{CompiledView, program_of}, Labels.{thread_name}}
use Rattle.sect_emit.specs.{Listing.{by_number}, declared.graphs.GraphOf.{GraphOf}}
use Rattle.sect_conflicts.specs.Taken.{TakenView, looked_of}
use Rattle.sect_c.specs.declared.context.Standing.{Standing}
use Rattle.sect_c.specs.Naming.{field_c, local_c, type_c, variable_c, field_type, variable_type}
use Rattle.sect_c.specs.Statements.{node_c, place_c}
use Rattle.sect_names.specs.declared.lock.Lock.TheVariants as lock
use Rattle.sect_emit.specs.declared.graphs.GraphOf.TheVariants as graph

-- from object n of a path to the next
abbrev pub follow_c : ProgramView → List ℕ → ℕ → Field → List ℕ
follow_c p read n f =
    codes " " ++ type_c p.source (field_type p f) ++ codes "p" ++ decimal (n + 1) ++ codes " = p" ++ decimal n
    ++ codes " == NULL ? NULL : " ++ read ++ codes "(&p" ++ decimal n ++ codes "->" ++ field_c p.source f ++ codes ");"

-- the first object of a path
abbrev pub first_c : ProgramView → Variable → List ℕ
first_c p v = codes "  { " ++ type_c p.source (variable_type p v) ++ codes "p0 = " ++ variable_c p.source v ++ codes ";"

-- the objects along a path, each looked up in this way, and the test that the last is there
abbrev pub walk_c : ProgramView → List ℕ → PathView → List ℕ
walk_c p read q =
    first_c p (base_of q) ++ by_number (follow_c p read) 0 (fields_of q) ++ codes " if (p"
    ++ decimal (length (fields_of q)) ++ codes " != NULL"

-- the first look: the path's object is wanted
abbrev pub look_c : ProgramView → Lock → List ℕ
look_c p lock.All = []
look_c p (lock.Class c r) = []
look_c p (lock.Path q e) =
    walk_c p (codes "SECT_LOOK") q ++ codes ") sect_want(me, &p" ++ decimal (length (fields_of q))
    ++ codes "->head, SECT_" ++ mode_text (object_mode e) ++ codes "); } /* " ++ path_text p.source q ++ codes " */\n"

-- the second look of section i: if the path has come to denote another object, all keys go back and it begins anew
abbrev pub again_c : ProgramView → ℕ → PathView → Effect → List ℕ
again_c p i q e =
    walk_c p (codes "SECT_GET") q ++ codes " && !sect_holds(me, &p" ++ decimal (length (fields_of q))
    ++ codes "->head, SECT_" ++ mode_text (object_mode e) ++ codes ")) { sect_give(me); goto s" ++ decimal i
    ++ codes "; } }\n"

-- it is there where the path has fields: else nobody may have changed it
abbrev pub second_look_by : ProgramView → ℕ → PathView → Effect → List Field → List ℕ
second_look_by p i q e [] = []
second_look_by p i q e (f ∷ fields) = again_c p i q e

abbrev pub second_look_c : ProgramView → ℕ → Lock → List ℕ
second_look_c p i lock.All = []
second_look_c p i (lock.Class c r) = []
second_look_c p i (lock.Path q e) = second_look_by p i q e (fields_of q)

-- a section takes those of its keys that may keep another thread out: first those that are the same in all states, then
-- those of the objects that these of its paths denote; then it looks again, one path after another
abbrev pub entry_c : ProgramView → ℕ → List Lock → List Lock → List ℕ
entry_c p i locks paths =
    codes " s" ++ decimal i ++ codes ": sect_plan(me, plan_" ++ decimal i ++ codes "); /* section " ++ decimal i
    ++ codes ": " ++ locks_text p.source locks ++ codes " */\n" ++ flat_map (look_c p) paths
    ++ codes "  sect_take(me);\n"
    ++ flat_map (second_look_c p i) paths ++ codes "  goto s" ++ decimal i ++ codes "_0;\n"

abbrev pub standing_in : SectionView → ℕ → Standing
standing_in s i = record { graph = graph.Section i; thread = s.thread; exit = length (flow_nodes s.body) }

-- the end of section i, where its ticket is drawn, and then its keys go back
abbrev pub end_c : ℕ → ℕ → List ℕ
end_c i exit =
    codes " " ++ place_c (graph.Section i) exit ++ codes ": sect_ticket(me);\n  sect_give(me);\n  goto s" ++ decimal i
    ++ codes "_left;\n"

-- section i: its entry, its statements, and its end
abbrev pub section_c : CompiledView → TakenView → ℕ → SectionView → List ℕ
section_c c taken i s =
    entry_c (program_of c) i (slice_index_or c.sets i []) (slice_index_or taken.paths i [])
    ++ by_number (node_c (program_of c) (looked_of taken) (standing_in s i)) 0 (flow_nodes s.body)
    ++ end_c i (length (flow_nodes s.body))

-- section i, if it is thread u's
abbrev pub own_section_c : CompiledView → TakenView → ℕ → ℕ → SectionView → List ℕ
own_section_c c taken u i s = if nat_eq s.thread u then section_c c taken i s else []

-- a local begins at 0 or null; it is named once more, since compilers warn of locals that nothing reads
abbrev pub first_value_c : ValueType → List ℕ
first_value_c Int = codes " = 0; (void)"
first_value_c (Refers r) = codes " = NULL; (void)"

abbrev pub local_line : ProgramView → ℕ → ℕ → ValueType → List ℕ
local_line p u x of =
    codes "  " ++ type_c p.source of ++ local_c p.source u x ++ first_value_c of ++ local_c p.source u x ++ codes ";\n"

abbrev pub standing_of : ℕ → TextView → Standing
standing_of u text = record { graph = graph.Thread u; thread = u; exit = length (flow_nodes text) }

-- what stands before the statements of thread u: a function begins with its locals
abbrev pub thread_opening_c : ProgramView → ℕ → List ℕ
thread_opening_c p u =
    codes "\n/* thread " ++ thread_name p.source u ++ codes " */\nstatic void thread_" ++ decimal u
    ++ codes "(struct sect_thread *me) {\n" ++ by_number (local_line p u) 0 (slice_index_or p.locals u [])
    ++ codes "  uint64_t fuel = me->fuel; (void)fuel;\n  enum sect_end end = SECT_DONE;\n  goto n0;\n"

-- the end of its statements
abbrev pub exit_c : ℕ → ℕ → List ℕ
exit_c u exit = codes " " ++ place_c (graph.Thread u) exit ++ codes ": me->end = end;\n  return;\n"

-- its statements, and their end
abbrev pub thread_statements_c : CompiledView → TakenView → ℕ → TextView → List ℕ
thread_statements_c c taken u text =
    by_number (node_c (program_of c) (looked_of taken) (standing_of u text)) 0 (flow_nodes text)
    ++ exit_c u (length (flow_nodes text))

-- thread u, with its sections behind its statements
abbrev pub thread_c : CompiledView → TakenView → ℕ → TextView → List ℕ
thread_c c taken u text =
    thread_opening_c (program_of c) u ++ thread_statements_c c taken u text
    ++ by_number (own_section_c c taken u) 0 (sections_of (program_of c).texts) ++ codes "}\n"
