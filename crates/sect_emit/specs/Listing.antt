-- A compiled program as it is printed. `listing` cites it.
use Rattle.std.specs.{Prelude.{ℕ, List, [], ◌++◌, length, slice_index_or, codes}, List.{flat_map, enumerate_from}}
use Rattle.std.specs.Fmt.{decimal}
use Rattle.sect_front.specs.TreeView.{TreeView}
use Rattle.sect_types.specs.{Statements.{TextView}, Sections.{SectionView, sections_of}}
use Rattle.sect_modes.specs.{Mode.{mode_text}, declared.mode.Mode.{Mode}, declared.key.Key.{Key}}
use Rattle.sect_graph.specs.{declared.flow.Node.{Node}, declared.flow.Successors.{Successors}}
use Rattle.sect_graph.specs.{declared.flow.Successors.TheVariants.{Next, Branch}, Layout.{flow_nodes}}
use Rattle.sect_names.specs.{declared.lock.Lock.{Lock}, Printing.{path_text}}
use Rattle.sect_emit.specs.{declared.plan.Grip.{Grip}, Plan.{object_mode}, Compiled.{CompiledView}}
use Rattle.sect_emit.specs.Labels.{label_text, thread_name}
use Rattle.sect_modes.specs.declared.key.Key.TheVariants as key
use Rattle.sect_names.specs.declared.lock.Lock.TheVariants as lock

-- the texts of the elements, one after another, each by its number, where the first has number n
abbrev pub by_number : {A : Type 0} → (ℕ → A → List ℕ) → ℕ → List A → List ℕ
by_number text n xs = flat_map (λ x. text x.0 x.1) (enumerate_from n xs)

-- where control goes on, to the end of the line
abbrev pub successors_text : Successors → List ℕ
successors_text (Next n) = codes " -> " ++ decimal n ++ codes "\n"
successors_text (Branch holds fails) = codes " -> " ++ decimal holds ++ codes ", " ++ decimal fails ++ codes "\n"

-- a node: the word that stands before it, its number, what it does, and where control goes on
abbrev pub node_line : TreeView → ℕ → List ℕ → ℕ → Node → List ℕ
node_line t u word n x =
    word ++ codes " " ++ decimal n ++ codes ": " ++ label_text t u x.label ++ successors_text x.next

-- the exit of a graph of so many nodes, with what stands before and behind it
abbrev pub exit_line : List ℕ → List ℕ → ℕ → List ℕ
exit_line word exit n = word ++ codes " " ++ decimal n ++ codes ": " ++ exit ++ codes "\n"

-- the nodes of a graph of thread u, and its exit
abbrev pub graph_lines : TreeView → ℕ → List ℕ → List ℕ → List Node → List ℕ
graph_lines t u word exit g = by_number (node_line t u word) 0 g ++ exit_line word exit (length g)

-- a key that is held in every state: that of all objects or of a class
abbrev pub key_line : Key → Mode → List ℕ
key_line key.All m = codes "lock all " ++ mode_text m ++ codes "\n"
key_line (key.Class c) m = codes "lock class " ++ decimal c ++ codes " " ++ mode_text m ++ codes "\n"
key_line (key.Global g) m = []
key_line (key.Made t n) m = []

abbrev pub grip_line : Grip → List ℕ
grip_line g = key_line g.key g.mode

-- a lock on a path: the mode in which the path's object is held
abbrev pub path_line : TreeView → Lock → List ℕ
path_line t lock.All = []
path_line t (lock.Class c r) = []
path_line t (lock.Path p e) = codes "lock " ++ path_text t p ++ codes " " ++ mode_text (object_mode e) ++ codes "\n"

-- a thread: its name and its graph
abbrev pub thread_lines : TreeView → ℕ → List Node → List ℕ
thread_lines t u g = codes "thread " ++ decimal u ++ codes " " ++ thread_name t u ++ codes "\n"
    ++ graph_lines t u (codes "at") (codes "end") g

-- a section of thread u: what it holds in every state, what its paths are held in, and its graph
abbrev pub section_lines : TreeView → ℕ → ℕ → List Grip → List Lock → List Node → List ℕ
section_lines t i u part set g = codes "section " ++ decimal i ++ codes " thread " ++ decimal u ++ codes "\n"
    ++ flat_map grip_line part ++ flat_map (path_line t) set ++ graph_lines t u (codes "node") (codes "exit") g

abbrev pub thread_listed : CompiledView → ℕ → TextView → List ℕ
thread_listed c u text = thread_lines c.scheme.program.source u (flow_nodes text)

abbrev pub section_listed : CompiledView → ℕ → SectionView → List ℕ
section_listed c i s = section_lines c.scheme.program.source i s.thread (slice_index_or c.parts i [])
    (slice_index_or c.sets i []) (flow_nodes s.body)

-- the threads, and then the sections
abbrev pub listing_text : CompiledView → List ℕ
listing_text c = by_number (thread_listed c) 0 c.scheme.program.texts
    ++ by_number (section_listed c) 0 (sections_of c.scheme.program.texts)
