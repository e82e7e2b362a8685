-- The graphs of a program are those of its texts.
use Rattle.std.proofs.Common.{◌≡◌, ℕ, zero, suc, ◌+◌, ◌<◌, ◌≤◌, List, [], ◌∷◌, ◌++◌, map, drop, length, get_or, refl}
use Rattle.std.proofs.Common.{sym, ap, ◌∙◌, subst, arith, Some, append_assoc}
use Rattle.std.proofs.lemmas.List.{append-nil, map-append, length-map, drop_all}
use Rattle.std.proofs.lemmas.Option.{slice_get_within, get_or_from_slice_get}
use Rattle.std.specs.Prelude.{slice_get}
use Rattle.sect_lemmas.proofs.Elements.{drop_next}
use Rattle.sect_types.specs.{Programs.{total_statements}, Texts.{step_then, statements_of}}
use Rattle.sect_types.specs.declared.expansion.text.Step.{Step}
use Rattle.sect_types.specs.Statements.{TextView, Stop, Do, Choose, Loop, Section, section_bodies, statement_count}
use Rattle.sect_types.specs.{Sections.{SectionView, sections_of, sections_from}, Traces.{node_count}}
use Rattle.sect_graph.specs.{declared.flow.Node.{Node}, Layout.{flow_nodes}, Graphs.{IsGraphOf, GraphView, AreGraphs}}
use Rattle.sect_graph.proofs.{Paths.{length-nodes_of, paths_from_zero, is_connected}, Bounds.{leads_within}}
use Rattle.sect_graph.proofs.{Rests.{paths_are_rests}, Running.{runs_rests}}
use Rattle.sect_types.specs.declared.expansion.text.Step.TheVariants as step

pub is_graph : (text : TextView) (g : List Node) → g ≡ flow_nodes text → IsGraphOf text g
is_graph text g is = record {
  nodes = is;
  paths = paths_from_zero text g is;
  rests = paths_are_rests text g is;
  connected = is_connected text g is;
  running = runs_rests text g is;
  count = ap length is ∙ length-nodes_of text 0 (node_count text);
  within = leads_within text g is;
}

-- a statement is a node at least
pub nodes_few : (c : TextView) → node_count c ≤ statement_count c
nodes_few Stop = omega arith
nodes_few (Do a r) = omega (arith, nodes_few r)
nodes_few (Choose t p q r) = omega (arith, nodes_few p, nodes_few q, nodes_few r)
nodes_few (Loop t p r) = omega (arith, nodes_few p, nodes_few r)
nodes_few (Section i p r) = omega (arith, nodes_few r)

statements_front : (s : Step) (rest : TextView)
    → statement_count (step_then s rest) ≡ statement_count (step_then s Stop) + statement_count rest
statements_front (step.Do a) rest = omega arith
statements_front (step.If t p q) rest = omega arith
statements_front (step.While t p) rest = omega arith
statements_front (step.Section i p) rest = omega arith

pub statements_at : (xs : List Step) (i : ℕ) (d : Step) → i < length xs
    → statement_count (step_then (get_or xs i d) Stop) ≤ statement_count (statements_of xs)
statements_at [] i d h = absurd (omega arith)
statements_at (s ∷ xs) zero d h = omega (arith, statements_front s (statements_of xs))
statements_at (s ∷ xs) (suc i) d h =
    omega (arith, statements_front s (statements_of xs), statements_at xs i d (omega arith))

-- the bodies of all sections
abbrev pub all_bodies : List TextView → List TextView
all_bodies [] = []
all_bodies (p ∷ ps) = section_bodies p ++ all_bodies ps

bodies_are : (t : ℕ) (texts : List TextView)
    → map (λ (s : SectionView). s.body) (sections_from t texts) ≡ all_bodies texts
bodies_are t [] = refl
bodies_are t (p ∷ ps) =
    map-append (λ (s : SectionView). s.body)
    (map (λ (b : TextView). record { thread = t; body = b }) (section_bodies p)) (sections_from (t + 1) ps)
    ∙ ap (λ l. l ++ map (λ (s : SectionView). s.body) (sections_from (t + 1) ps)) (same t (section_bodies p))
    ∙ ap (λ l. section_bodies p ++ l) (bodies_are (t + 1) ps)
  where
    same : (t : ℕ) (bs : List TextView)
        → map (λ (s : SectionView). s.body) (map (λ (b : TextView). record { thread = t; body = b }) bs) ≡ bs
    same t [] = refl
    same t (b ∷ bs) = ap (λ l. b ∷ l) (same t bs)

slice_map : {X Y : Type 0} (f : X → Y) (xs : List X) (i : ℕ) (x : X) (y : Y) → slice_get xs i ≡ Some x
    → slice_get (map f xs) i ≡ Some y → y ≡ f x
slice_map f [] i x y e g = absurd cc
slice_map f (z ∷ xs) zero x y e g = let h : z ≡ x = cc in sym (let k : f z ≡ y = cc in sym (ap f h) ∙ k)
slice_map f (z ∷ xs) (suc i) x y e g = slice_map f xs i x y e g

pub are_graphs : (texts : List TextView) (g : GraphView) → g.threads ≡ map flow_nodes texts
    → g.sections ≡ map flow_nodes (all_bodies texts) → AreGraphs texts g
are_graphs texts g is_threads is_sections =
    let bodies = bodies_are 0 texts in
    let sections : g.sections ≡ map flow_nodes (map (λ (s : SectionView). s.body) (sections_of texts)) =
    is_sections ∙ ap (map flow_nodes) (sym bodies) in
    record {
      thread_count = ap length is_threads ∙ length-map texts flow_nodes;
      section_count = ap length sections ∙ length-map (map (λ (s : SectionView). s.body) (sections_of texts)) flow_nodes
          ∙ length-map (sections_of texts) (λ (s : SectionView). s.body);
      threads = λ t text flow at here. is_graph text flow
          (slice_map flow_nodes texts t text flow at (subst (λ l. slice_get l t ≡ Some flow) is_threads here));
      sections = λ i s flow at here.
          let both : slice_get (map (λ (s : SectionView). flow_nodes s.body) (sections_of texts)) i ≡ Some flow =
          subst (λ l. slice_get l i ≡ Some flow)
          (sections ∙ map_map (λ (s : SectionView). s.body) flow_nodes (sections_of texts)) here in
          is_graph s.body flow (slice_map (λ (s : SectionView). flow_nodes s.body) (sections_of texts) i s flow at
          both);
    }
  where
    map_map : {X Y Z : Type 0} (f : X → Y) (g : Y → Z) (xs : List X) → map g (map f xs) ≡ map (λ x. g (f x)) xs
    map_map f g [] = refl
    map_map f g (x ∷ xs) = ap (λ l. g (f x) ∷ l) (map_map f g xs)

-- the text of a thread comes first of those that are left
text_next : (texts : List TextView) (t : ℕ) (text : TextView) → slice_get texts t ≡ Some text
    → drop t texts ≡ text ∷ drop (t + 1) texts
text_next texts t text at = drop_next texts t text (slice_get_within texts t text at)
    (sym (get_or_from_slice_get texts t text text at))

pub count_at : (texts : List TextView) (t : ℕ) (text : TextView) → slice_get texts t ≡ Some text
    → statement_count text ≤ total_statements texts
count_at [] t text e = absurd cc
count_at (p ∷ ps) zero text e = let h : p ≡ text = cc in omega (arith, ap statement_count h)
count_at (p ∷ ps) (suc t) text e = omega (arith, count_at ps t text e)

-- the graphs that are there and those to come, after one thread more
pub thread_more : (texts : List TextView) (t : ℕ) (text : TextView) (old new init : List (List Node))
    → slice_get texts t ≡ Some text → new ≡ old ++ flow_nodes text ∷ []
    → old ++ map flow_nodes (drop t texts) ≡ init → new ++ map flow_nodes (drop (t + 1) texts) ≡ init
thread_more texts t text old new init at is before =
    let e : drop t texts ≡ text ∷ drop (t + 1) texts = text_next texts t text at in
    ap (λ l. l ++ map flow_nodes (drop (t + 1) texts)) is
    ∙ append_assoc old (flow_nodes text ∷ []) (map flow_nodes (drop (t + 1) texts))
    ∙ ap (λ l. old ++ map flow_nodes l) (sym e) ∙ before

pub sections_more : (texts : List TextView) (t : ℕ) (text : TextView) (old new init : List (List Node))
    → slice_get texts t ≡ Some text → new ≡ old ++ map flow_nodes (section_bodies text)
    → old ++ map flow_nodes (all_bodies (drop t texts)) ≡ init
    → new ++ map flow_nodes (all_bodies (drop (t + 1) texts)) ≡ init
sections_more texts t text old new init at is before =
    let rest = all_bodies (drop (t + 1) texts) in
    let e : all_bodies (drop t texts) ≡ section_bodies text ++ rest = ap all_bodies (text_next texts t text at) in
    let split : map flow_nodes (all_bodies (drop t texts)) ≡ map flow_nodes (section_bodies text)
    ++ map flow_nodes rest = ap (map flow_nodes) e ∙ map-append flow_nodes (section_bodies text) rest in
    ap (λ l. l ++ map flow_nodes rest) is
    ∙ append_assoc old (map flow_nodes (section_bodies text)) (map flow_nodes rest) ∙ ap (λ l. old ++ l) (sym split)
    ∙ before

-- past the last thread nothing is to come
pub ends : (texts : List TextView) (t : ℕ) → length texts ≤ t
    → ((now all : List (List Node)) → now ++ map flow_nodes (drop t texts) ≡ all → now ≡ all)
    × ((now all : List (List Node)) → now ++ map flow_nodes (all_bodies (drop t texts)) ≡ all → now ≡ all)
ends texts t past =
    let e : drop t texts ≡ [] = drop_all t texts past in (
      λ now all h. sym (append-nil now) ∙ ap (λ l. now ++ map flow_nodes l) (sym e) ∙ h,
      λ now all h. sym (append-nil now) ∙ ap (λ l. now ++ map flow_nodes (all_bodies l)) (sym e) ∙ h,
    )
