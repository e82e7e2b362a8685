-- Sections as they are written.
use Rattle.std.proofs.Common.{◌≡◌, ℕ, ◌+◌, List, [], ◌∷◌, ◌++◌, Some, map, drop, codes, append_assoc, sym, ap, ◌∙◌}
use Rattle.std.specs.Prelude.{slice_get, slice_index_or}
use Rattle.serde_json.specs.{Data.{Data, string}, Written.{compact_text}}
use Rattle.sect_front.specs.declared.tree.Locking.TheVariants.{Inferred}
use Rattle.sect_names.specs.{declared.link.Link.{Link}, declared.lock.Lock.{Lock}}
use Rattle.sect_places.specs.{NodeSpans.{NodeSpansView}, Spans.{no_span}}
use Rattle.sect_lint.specs.Json.{span_json}
use Rattle.sect_emit.specs.{Compiled.{CompiledView, program_of}, Explaining.{section_at}, Graphed.{graphed_deed}}
use Rattle.sect_json.specs.{Values.{count, list, by_place}, Compiling.{set_json, plan_json}, Explaining.{chain_json}}
use Rattle.sect_json.specs.Inspecting.{origin_json, spans_at, thread_node_with, section_node_json, is_all, section_json}
use Rattle.sect_json.specs.{Locks.{lock_json}, Nodes.{next_at}}
use Rattle.sect_json.specs.steps.Sectioned.{section_end}
use Rattle.sect_json.specs.steps.Writes.{name_text, member_text, tail_text, comma_before, elements_from}
use Rattle.sect_json.proofs.{Rows.{rest_next}, Texts.{record_written, members_written, head_and_tail}}
use Rattle.sect_emit.specs.declared.graphs.GraphOf.TheVariants as graphed

-- the node at a place behind those before it
pub place_next : {A : Type 0} (of : ℕ → A → Data) (xs : List A) (n : ℕ) (x : A) → slice_get xs n ≡ Some x
    → (old behind new all : List ℕ) → old ++ elements_from n (by_place of n (drop n xs)) ≡ all
    → behind ≡ old ++ comma_before n → new ≡ behind ++ compact_text (of n x)
    → new ++ elements_from (n + 1) (by_place of (n + 1) (drop (n + 1) xs)) ≡ all
place_next of xs n x at old behind new all had comma put =
    let rest = elements_from (n + 1) (by_place of (n + 1) (drop (n + 1) xs)) in
    ap (λ r. r ++ rest) (put ∙ ap (λ r. r ++ compact_text (of n x)) comma)
    ∙ (append_assoc (old ++ comma_before n) (compact_text (of n x)) rest
    ∙ (append_assoc old (comma_before n) (compact_text (of n x) ++ rest)
    ∙ (ap (λ ds. old ++ elements_from n ds) (sym (rest_next xs n x at of)) ∙ had)))

module _ (c : CompiledView) (source : List ℕ) (v : NodeSpansView) (i : ℕ) where
  -- a node behind what is needed there
  pub node_written : (n : ℕ) (needed : List Lock) (old needs new : List ℕ)
      → needs ≡ old ++ (name_text 123 (codes "needs")
      ++ compact_text (list (map (lock_json (program_of c).source) needed)))
      → new ≡ needs ++ tail_text (thread_node_with (next_at c (graphed.Section i) n) n
      (origin_json source (spans_at v (graphed.Section i)) n) (graphed_deed c (graphed.Section i) n))
      → new ≡ old ++ compact_text (section_node_json c source v i n needed)
  node_written n needed old needs new e f =
      let of = graphed.Section i in
      let locks = list (map (lock_json (program_of c).source) needed) in
      let rest = tail_text (thread_node_with (next_at c of n) n (origin_json source (spans_at v of) n)
      (graphed_deed c of n)) in
      f ∙ (ap (λ r. r ++ rest) e
      ∙ (append_assoc old (name_text 123 (codes "needs") ++ compact_text locks) rest
      ∙ ap (λ r. old ++ r) (append_assoc (name_text 123 (codes "needs")) (compact_text locks) rest
      ∙ sym (head_and_tail (codes "needs") (codes "next") locks (next_at c of n)
      ((codes "node", count n) ∷ (codes "place", origin_json source (spans_at v of) n)
      ∷ (codes "text", string (graphed_deed c of n)) ∷ [])))))

  -- a section, part by part
  pub section_written : (needed : List (List Lock)) (chains : List (List Link))
      → compact_text (section_json c source v i needed chains)
      ≡ member_text 123 (codes "all") (is_all (slice_index_or (program_of c).lockings i Inferred))
      ++ (name_text 44 (codes "chains") ++ (compact_text (list (map (chain_json c i) chains))
      ++ (member_text 44 (codes "locks") (set_json c i)
      ++ (name_text 44 (codes "nodes") ++ (compact_text (list (by_place (section_node_json c source v i) 0 needed))
      ++ tail_text (section_end c source v i))))))
  section_written needed chains =
      let all = is_all (slice_index_or (program_of c).lockings i Inferred) in
      let why = list (map (chain_json c i) chains) in
      let nodes = list (by_place (section_node_json c source v i) 0 needed) in
      let end : List (List ℕ × Data) = (codes "place", span_json source (slice_index_or v.heads i no_span))
      ∷ (codes "plan", plan_json c i) ∷ (codes "section", count i)
      ∷ (codes "thread", count (section_at c i).thread) ∷ [] in
      record_written (codes "all") all
      ((codes "chains", why) ∷ (codes "locks", set_json c i) ∷ (codes "nodes", nodes) ∷ end)
      ∙ ap (λ r. member_text 123 (codes "all") all ++ r)
      (append_assoc (member_text 44 (codes "chains") why) _ (125 ∷ [])
      ∙ (append_assoc (name_text 44 (codes "chains")) (compact_text why) _
      ∙ ap (λ r. name_text 44 (codes "chains") ++ (compact_text why ++ r))
      (append_assoc (member_text 44 (codes "locks") (set_json c i)) _ (125 ∷ [])
      ∙ ap (λ r. member_text 44 (codes "locks") (set_json c i) ++ r)
      (append_assoc (member_text 44 (codes "nodes") nodes) _ (125 ∷ [])
      ∙ (append_assoc (name_text 44 (codes "nodes")) (compact_text nodes) _
      ∙ ap (λ r. name_text 44 (codes "nodes") ++ (compact_text nodes ++ r)) (sym (members_written end)))))))

-- seven parts, one behind the other
pub seven_written : (a b d e f g h old o1 o2 o3 o4 o5 o6 new : List ℕ) → o1 ≡ old ++ a → o2 ≡ o1 ++ b → o3 ≡ o2 ++ d
    → o4 ≡ o3 ++ e → o5 ≡ o4 ++ f → o6 ≡ o5 ++ g → new ≡ o6 ++ h
    → new ≡ old ++ (a ++ (b ++ (d ++ (e ++ (f ++ (g ++ h))))))
seven_written a b d e f g h old o1 o2 o3 o4 o5 o6 new p1 p2 p3 p4 p5 p6 p7 =
    p7 ∙ (ap (λ r. r ++ h) p6 ∙ (append_assoc o5 g h
    ∙ (ap (λ r. r ++ (g ++ h)) p5 ∙ (append_assoc o4 f (g ++ h)
    ∙ (ap (λ r. r ++ (f ++ (g ++ h))) p4 ∙ (append_assoc o3 e (f ++ (g ++ h))
    ∙ (ap (λ r. r ++ (e ++ (f ++ (g ++ h)))) p3 ∙ (append_assoc o2 d (e ++ (f ++ (g ++ h)))
    ∙ (ap (λ r. r ++ (d ++ (e ++ (f ++ (g ++ h))))) p2 ∙ (append_assoc o1 b (d ++ (e ++ (f ++ (g ++ h))))
    ∙ (ap (λ r. r ++ (b ++ (d ++ (e ++ (f ++ (g ++ h)))))) p1
    ∙ append_assoc old a (b ++ (d ++ (e ++ (f ++ (g ++ h))))))))))))))))
