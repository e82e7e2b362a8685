-- Graphs in C can be read back.
use Rattle.std.proofs.Common.{◌≡◌, ◌<◌, ◌≤◌, ◌+◌, ℕ, true, List, [], ◌∷◌, ◌++◌, refl, codes, length, map}
use Rattle.std.proofs.Common.{sym, ap, ◌∙◌, arith, append_assoc}
use Rattle.std.specs.{List.{AllByRecursion}, Fmt.{decimal}}
use Rattle.sect_front.specs.Words.{is_digit}
use Rattle.sect_types.specs.Programs.{ProgramView}
use Rattle.sect_emit.specs.Labels.{label_text}
use Rattle.sect_c.specs.Told.{AreNames, NamesTell, DeclareAlike}
use Rattle.sect_c.specs.Statements.{place_c, successors_c, deed_c, fuel_c, node_c}
use Rattle.sect_c.specs.Said.{node_said}
use Rattle.sect_types.specs.declared.expansion.action.Field.{Field}
use Rattle.sect_types.specs.declared.expansion.action.Label.{Label}
use Rattle.sect_types.specs.declared.expansion.action.Label.TheVariants.{Act, Test, Section}
use Rattle.sect_graph.specs.declared.flow.Node.{Node}
use Rattle.sect_emit.specs.declared.graphs.GraphOf.{GraphOf}
use Rattle.sect_c.specs.declared.context.Standing.{Standing}
use Rattle.sect_front.proofs.shared.Numerals.{decimal_digits}
use Rattle.sect_c.proofs.Reading.{Reads, Stops, told, behind, spelled}
use Rattle.sect_c.proofs.Reading.{parted, differ, stops_more}
use Rattle.sect_c.specs.Back.{standing, LinesTellNodes, LinesTellGraphs}
use Rattle.sect_c.proofs.Lines.{NoElse}
use Rattle.sect_c.specs.Pairs.{EachFrom, PairsFrom}
use Rattle.sect_c.proofs.Lists.{NoneHere, listed}
use Rattle.sect_emit.specs.Listing.{by_number}
use Rattle.sect_c.specs.Fits.{FitsNode}
use Rattle.sect_c.proofs.Nodes.{node_read}
use Rattle.sect_emit.specs.declared.graphs.GraphOf.TheVariants as graph

node_begins : (r : ProgramView) (looks : List Field) (g : GraphOf) (u k n : ℕ) (x : Node) (xs : List ℕ)
    → NoElse (node_c r looks (standing g u k) n x ++ xs)
node_begins r looks (graph.Thread t) u k n x xs ys e =
    parted (node_c r looks (standing (graph.Thread t) u k) n x) (codes "  else ") xs ys refl e
node_begins r looks (graph.Section i) u k n x xs ys e =
    parted (node_c r looks (standing (graph.Section i) u k) n x) (codes "  else ") xs ys refl e

-- the number of a node, and the node
abbrev pub IsNode : ProgramView → ℕ → ℕ → Node → Type 0
IsNode p u n x = (n < 65536) × FitsNode p u x

-- a node does what its line says
said_list : (n : ℕ) (xs ys : List Node) → PairsFrom (λ i x y. node_said x ≡ node_said y) n xs ys
    → map node_said xs ≡ map node_said ys
said_list n [] [] h = refl
said_list n [] (y ∷ ys) h = absurd h
said_list n (x ∷ xs) [] h = absurd h
said_list n (x ∷ xs) (y ∷ ys) h =
    ap (λ z. z ∷ map node_said xs) h.0 ∙ ap (λ zs. node_said y ∷ zs) (said_list (n + 1) xs ys h.1)

-- how a node's line goes on behind its label
line_parts : (a b c d e f h i j xs : List ℕ) → (a ++ b ++ c ++ d ++ e ++ f ++ h ++ i ++ j) ++ xs
    ≡ (a ++ b) ++ ((c ++ d) ++ (e ++ (f ++ (h ++ (i ++ (j ++ xs))))))
line_parts a b c d e f h i j xs = simp append_assoc

three_parts : (a b c xs : List ℕ) → (a ++ b ++ c) ++ xs ≡ (a ++ b) ++ (c ++ xs)
three_parts a b c xs = simp append_assoc

labelled : (g : GraphOf) (n m : ℕ) → n < 65536 → m < 65536
    → Reads (Stops is_digit) (codes " " ++ place_c g n) (codes " " ++ place_c g m) (decimal n ≡ decimal m)
labelled (graph.Thread u) n m a b =
    behind (codes " ") (behind (codes "n") (spelled is_digit (decimal n) (decimal m) (decimal_digits n (omega arith))
    (decimal_digits m (omega arith))))
labelled (graph.Section i) n m a b =
    behind (codes " ") (behind (codes "s" ++ decimal i ++ codes "_") (spelled is_digit (decimal n) (decimal m)
    (decimal_digits n (omega arith)) (decimal_digits m (omega arith))))

-- what stands behind the label of an exit
abbrev pub IsExit : List ℕ → Type 0
IsExit w = (s : Standing) (x : Label) → differ w (codes ": " ++ fuel_c s x) ≡ true

pub node_or_exit : (r : ProgramView) (looks : List Field) (g : GraphOf) (u k m n : ℕ) (x : Node) (w xs ys : List ℕ)
    → m < 65536 → n < 65536 → Stops is_digit w → IsExit w
    → (codes " " ++ place_c g m ++ w) ++ xs ≡ node_c r looks (standing g u k) n x ++ ys → ⊥
node_or_exit r looks g u k m n x w xs ys a b stop is e =
    let s = standing g u k in
    let line = line_parts (codes " ") (place_c g n) (codes ": ") (fuel_c s x.label) (codes "; /* ")
    (label_text r.source u x.label) (codes " */\n") (deed_c r looks s x.label) (successors_c g x.next) ys in
    let rest = codes "; /* " ++ (label_text r.source u x.label ++ (codes " */\n" ++ (deed_c r looks s x.label
    ++ (successors_c g x.next ++ ys)))) in
    let one = (labelled g m n a b).read (w ++ xs) ((codes ": " ++ fuel_c s x.label) ++ rest)
    (stops_more is_digit w xs stop) refl
    (sym (three_parts (codes " ") (place_c g m) w xs) ∙ (e ∙ line)) in
    parted w (codes ": " ++ fuel_c s x.label) xs rest (is s x.label) one.1

pub thread_exit : IsExit (codes ": me->end = end;\n  return;\n")
thread_exit s (Act a) = refl
thread_exit s (Test c) = refl
thread_exit s (Section i) = refl

pub section_exit : (w : List ℕ) → IsExit (codes ": sect_ticket(me);\n  sect_give(me);\n  goto s" ++ w)
section_exit w s (Act a) = refl
section_exit w s (Test c) = refl
section_exit w s (Section i) = refl

module _ (p q : ProgramView) (np : AreNames p.source) (nq : AreNames q.source) (u : ℕ)
    (alike : DeclareAlike p q u) (tell : NamesTell p) (g : GraphOf) (k l : ℕ) (ck : k < 65536) (cl : l < 65536)
    (looked also : List Field) where
  -- no node stands here, of either program
  abbrev pub NoNode : List ℕ → Type 0
  NoNode xs = NoneHere (IsNode p u) (node_c p looked (standing g u k)) xs
      × NoneHere (IsNode q u) (node_c q also (standing g u l)) xs × NoElse xs

  pub graph_read : (xs ys : List Node) → EachFrom (IsNode p u) 0 xs → EachFrom (IsNode q u) 0 ys
      → Reads NoNode (by_number (node_c p looked (standing g u k)) 0 xs)
      (by_number (node_c q also (standing g u l)) 0 ys) (map node_said xs ≡ map node_said ys)
  graph_read xs ys a b =
      told (listed NoElse (λ n x y. node_said x ≡ node_said y) (IsNode p u) (IsNode q u)
      (node_c p looked (standing g u k)) (node_c q also (standing g u l))
      (λ n x zs is. node_begins p looked g u k n x zs) (λ n x zs is. node_begins q also g u l n x zs)
      (λ n x y c d. node_read p q np nq u alike tell g k l ck cl looked also n x y c.1 d.1) 0 xs ys a b)
      (said_list 0 xs ys)

node_alone : (r : ProgramView) (looks : List Field) (g : GraphOf) (u k n : ℕ) (x : Node) (ys : List ℕ)
    → [] ≡ node_c r looks (standing g u k) n x ++ ys → ⊥
node_alone r looks g u k n x ys e = absurd cc

no_else : NoElse []
no_else ys e = absurd cc

pub each_fits : (p : ProgramView) (u n : ℕ) (xs : List Node) → n + length xs ≤ 65536 → AllByRecursion (FitsNode p u) xs
    → EachFrom (IsNode p u) n xs
each_fits p u n [] h all = tt
each_fits p u n (x ∷ xs) h all = ((omega arith, all.0), each_fits p u (n + 1) xs (omega arith) all.1)

pub graphs_tell : LinesTellGraphs
graphs_tell p q u np nq tell alike g k l ck cl looked also xs ys a b fx fy e =
    ((graph_read p q np nq u alike tell g k l ck cl looked also xs ys (each_fits p u 0 xs (omega arith) fx)
    (each_fits q u 0 ys (omega arith) fy)).read [] []
    ((λ n x zs is h. node_alone p looked g u k n x zs h), (λ n x zs is h. node_alone q also g u l n x zs h), no_else)
    ((λ n x zs is h. node_alone p looked g u k n x zs h), (λ n x zs is h. node_alone q also g u l n x zs h), no_else)
    (ap (λ t. t ++ []) e)).0

pub nodes_tell : LinesTellNodes
nodes_tell p q u np nq tell alike g k l ck cl looked also n x y fx fy e =
    ((node_read p q np nq u alike tell g k l ck cl looked also n x y fx fy).read [] [] no_else no_else
    (ap (λ t. t ++ []) e)).0
