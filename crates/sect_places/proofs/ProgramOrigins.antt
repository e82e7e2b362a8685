-- Where the nodes of a whole program come from.
use Rattle.std.proofs.Common.{◌≡◌, ℕ, zero, suc, ◌+◌, ◌<◌, List, [], ◌∷◌, ◌++◌, length, drop, map, Some, None}
use Rattle.std.proofs.{Common.{slice_get, refl, sym, ap, ◌∙◌, subst, arith, false}, lemmas.List.{length-map}}
use Rattle.std.proofs.{lemmas.List.Elements.{All-nil, All-cons}, lemmas.Option.{slice_get_within}}
use Rattle.std.specs.Prelude.{All}
use Rattle.sect_lemmas.proofs.Options.{none_or_some, some_injective}
use Rattle.sect_front.specs.{TreeView.{TreeView}, declared.tree.Thread.{Thread}}
use Rattle.sect_types.specs.{declared.rules.place.Place.TheVariants.{InThread}, declared.expansion.action.Label.{Label}}
use Rattle.sect_types.specs.{Items.{items, thread_items}, Sums.{sums}}
use Rattle.sect_types.specs.Statements.{TextView, Stop, Do, Choose, Loop, Section, section_bodies}
use Rattle.sect_types.specs.{Sections.{SectionView, sections_of}, Traces.{node_count}, Programs.{ProgramView, IsOfTree}}
use Rattle.sect_types.specs.Expanded.{NextNumbers, expand_within, expanded_thread, expanded_threads, past_thread}
use Rattle.sect_places.specs.{declared.origin.Origin.{Origin}, ItemCounts.{items_in_thread}}
use Rattle.sect_places.specs.Origins.{expansion, expanded_sections, threads_origins, threads_sections, first_thread}
use Rattle.sect_places.specs.Origins.{thread_origins_of, section_origins_of}
use Rattle.sect_places.specs.NodeOrigins.{labels, AreFrom, AreOriginsOf, AreOrigins, OriginsView}
use Rattle.sect_places.proofs.{ItemPast.{past_own, tree_threads_at}, Parts.{both_parts}}
use Rattle.sect_places.proofs.Coming.{block_from, calls_from}
use Rattle.sect_places.proofs.ComingSections.{AllFrom, bodies, bodies_are, block_sections_from, sections_from}
use Rattle.sect_types.specs.Sections as numbered

abbrev all_bodies : List TextView → List TextView
all_bodies [] = []
all_bodies (x ∷ xs) = bodies x (all_bodies xs)

module _ (t : TreeView) where
  threads_from : (a : NextNumbers) (hs : List Thread) (texts : List TextView) (n : ℕ) (before : List (List ℕ))
      → expanded_threads t a hs ≡ Some texts → drop n (items t) ≡ thread_items before hs []
      → AllFrom t texts (threads_origins t.procedures (expansion t) n hs [])
  threads_from a [] texts n before e h =
      subst (λ xs. AllFrom t xs []) (some_injective [] texts e) tt
  threads_from a (x ∷ hs) texts n before e h =
      let r = both_parts (λ y ys. y ∷ ys) (expanded_thread t a x) (expanded_threads t (past_thread t a x) hs) texts e in
      let own = past_own (items t) n x before hs [] h in
      subst (λ ys. AllFrom t ys (threads_origins t.procedures (expansion t) n (x ∷ hs) [])) r.4 (
        block_from t (sums t.procedures)
            (expand_within (length t.procedures) t.records t.globals t.procedures) (expansion t)
            (calls_from t (length t.procedures)) x.locals 0 (record a { fresh = length x.locals }) x.body
            (InThread false 1) (n + 1 + length x.locals) (thread_items (before ++ x.name ∷ []) hs []) r.0 None [] []
            r.2 own.0 tt tt,
        threads_from (past_thread t a x) hs r.1 (n + items_in_thread x) (before ++ x.name ∷ []) r.3 own.1,
      )

  threads_sections_from : (a : NextNumbers) (hs : List Thread) (texts : List TextView) (n : ℕ)
      (before : List (List ℕ)) → expanded_threads t a hs ≡ Some texts → drop n (items t) ≡ thread_items before hs []
      → AllFrom t (all_bodies texts) (threads_sections t.procedures (expansion t) (expanded_sections t) n hs [])
  threads_sections_from a [] texts n before e h =
      subst (λ xs. AllFrom t (all_bodies xs) []) (some_injective [] texts e) tt
  threads_sections_from a (x ∷ hs) texts n before e h =
      let r = both_parts (λ y ys. y ∷ ys) (expanded_thread t a x) (expanded_threads t (past_thread t a x) hs) texts e in
      let own = past_own (items t) n x before hs [] h in
      let rest : List (List Origin) = threads_sections t.procedures (expansion t) (expanded_sections t)
      (n + items_in_thread x) hs [] in
      subst (λ ys. AllFrom t (all_bodies ys)
      (threads_sections t.procedures (expansion t) (expanded_sections t) n (x ∷ hs) [])) r.4
      (block_sections_from t (sums t.procedures)
      (expand_within (length t.procedures) t.records t.globals t.procedures) (expansion t) (expanded_sections t)
      (calls_from t (length t.procedures)) (sections_from t (length t.procedures)) x.locals 0
      (record a { fresh = length x.locals }) x.body (InThread false 1) (n + 1 + length x.locals)
      (thread_items (before ++ x.name ∷ []) hs []) r.0 None (all_bodies r.1) rest r.2 own.0 tt
      (threads_sections_from (past_thread t a x) hs r.1 (n + items_in_thread x) (before ++ x.name ∷ []) r.3 own.1))

  found : (xs : List TextView) (ls : List (List Origin)) (i : ℕ) (x : TextView) (l : List Origin) → AllFrom t xs ls
      → slice_get xs i ≡ Some x → slice_get ls i ≡ Some l → AreFrom t (labels x []) l
  found [] ls i x l h e f = absurd (none_or_some x e)
  found (y ∷ xs) [] i x l h e f = absurd h
  found (y ∷ xs) (m ∷ ls) zero x l h e f =
      subst (λ z. AreFrom t (labels z []) l) (some_injective y x e)
      (subst (AreFrom t (labels y [])) (some_injective m l f) h.0)
  found (y ∷ xs) (m ∷ ls) (suc i) x l h e f = found xs ls i x l h.1 e f

  as_many : (xs : List TextView) (ls : List (List Origin)) → AllFrom t xs ls → length ls ≡ length xs
  as_many [] [] h = refl
  as_many [] (m ∷ ls) h = absurd h
  as_many (y ∷ xs) [] h = absurd h
  as_many (y ∷ xs) (m ∷ ls) h = ap suc (as_many xs ls h.1)

  from_many : (ls : List Label) (os : List Origin) → AreFrom t ls os → length os ≡ length ls
  from_many [] [] h = refl
  from_many [] (o ∷ os) h = absurd h
  from_many (l ∷ ls) [] h = absurd h
  from_many (l ∷ ls) (o ∷ os) h = ap suc (from_many ls os h.1)

  from_within : (ls : List Label) (os : List Origin) → AreFrom t ls os
      → All (λ (o : Origin). o.item < length (items t)) os
  from_within [] [] h = All-nil (λ (o : Origin). o.item < length (items t))
  from_within [] (o ∷ os) h = absurd h
  from_within (l ∷ ls) [] h = absurd h
  from_within (l ∷ ls) (o ∷ os) h =
      All-cons (λ (x : Origin). x.item < length (items t)) o os
      (slice_get_within (items t) o.item h.0.item h.0.there) (from_within ls os h.1)

  labels_many : (x : TextView) (w : List Label) → length (labels x w) ≡ node_count x + length w
  labels_many Stop w = omega arith
  labels_many (Do a k) w = omega (arith, labels_many k w)
  labels_many (Choose c p q k) w =
      omega (arith, labels_many p (labels q (labels k w)), labels_many q (labels k w), labels_many k w)
  labels_many (Loop c p k) w = omega (arith, labels_many p (labels k w), labels_many k w)
  labels_many (Section i p k) w = omega (arith, labels_many k w)

  origins_from : (x : TextView) (l : List Origin) → AreFrom t (labels x []) l → AreOriginsOf t x l
  origins_from x l h = record {
    from = h;
    many = omega (arith, from_many (labels x []) l h, labels_many x []);
    within = from_within (labels x []) l h;
  }

abbrev body_of : SectionView → TextView
body_of s = s.body

rows : (k : ℕ) (bs : List TextView) (rest : List SectionView)
    → map body_of (map (λ (b : TextView). record { thread = k; body = b }) bs ++ rest) ≡ bs ++ map body_of rest
rows k [] rest = refl
rows k (b ∷ bs) rest = ap (λ l. b ∷ l) (rows k bs rest)

section_rows : (k : ℕ) (texts : List TextView) → map body_of (numbered.sections_from k texts) ≡ all_bodies texts
section_rows k [] = refl
section_rows k (x ∷ xs) =
    rows k (section_bodies x) (numbered.sections_from (k + 1) xs)
    ∙ ap (λ l. section_bodies x ++ l) (section_rows (k + 1) xs) ∙ sym (bodies_are x (all_bodies xs))

row_at : (ss : List SectionView) (i : ℕ) (s : SectionView) → slice_get ss i ≡ Some s
    → slice_get (map body_of ss) i ≡ Some s.body
row_at [] i s e = absurd (none_or_some s e)
row_at (x ∷ ss) zero s e = ap (λ (y : SectionView). Some y.body) (some_injective x s e)
row_at (x ∷ ss) (suc i) s e = row_at ss i s e

pub program_origins : (p : ProgramView) (o : OriginsView) → IsOfTree p → o.threads ≡ thread_origins_of p.source
    → o.sections ≡ section_origins_of p.source → AreOrigins p o
program_origins p o of ts ss =
    let t = p.source in
    let start : NextNumbers = record { sites = length t.globals; sections = 0; fresh = 0 } in
    let threads = subst (AllFrom t p.texts) (sym ts)
    (threads_from t start t.threads p.texts (first_thread t) [] of.texts_are (tree_threads_at t)) in
    let same = section_rows 0 p.texts in
    let sections = subst (λ xs. AllFrom t xs o.sections) (sym same) (subst (AllFrom t (all_bodies p.texts)) (sym ss)
    (threads_sections_from t start t.threads p.texts (first_thread t) [] of.texts_are (tree_threads_at t))) in
    record {
      threads_are = ts;
      sections_are = ss;
      thread_count = as_many t p.texts o.threads threads;
      section_count = as_many t (map body_of (sections_of p.texts)) o.sections sections
          ∙ length-map (sections_of p.texts) body_of;
      threads = λ i text list e f. origins_from t text list (found t p.texts o.threads i text list threads e f);
      sections = λ i s list e f. origins_from t s.body list (found t (map body_of (sections_of p.texts)) o.sections i
          s.body list sections (row_at (sections_of p.texts) i s e) f);
    }
