-- Sections in C can be read back.
use Rattle.std.proofs.Common.{◌≡◌, ◌<◌, ◌+◌, ℕ, List, [], ◌∷◌, ◌++◌, refl, codes, length, map}
use Rattle.std.proofs.Common.{sym, ap, ◌∙◌, arith, subst, append_assoc, slice_index_or}
use Rattle.std.specs.{List.{AllByRecursion, flat_map}, Fmt.{decimal}}
use Rattle.std.proofs.lemmas.List.Concat.{flat_map-cons}
use Rattle.sect_modes.specs.Mode.{mode_text}
use Rattle.sect_types.specs.Programs.{ProgramView}
use Rattle.sect_emit.specs.Listing.{by_number}
use Rattle.sect_names.specs.Printing.{path_text, lock_text, locks_text, right_text}
use Rattle.sect_emit.specs.Plan.{object_mode}
use Rattle.sect_c.specs.Told.{AreNames, NamesTell, DeclareAlike}
use Rattle.sect_c.specs.Fits.{FitsNode}
use Rattle.sect_c.specs.Said.{node_said}
use Rattle.sect_c.specs.Statements.{node_c, place_c}
use Rattle.sect_c.specs.Back.{standing, FitsVariable, FitsPath, FitsLock, IsShown}
use Rattle.sect_c.specs.Naming.{type_c, variable_c, field_c, field_type, variable_type}
use Rattle.sect_c.specs.Sections.{first_c, follow_c, walk_c, second_look_by, second_look_c, entry_c, end_c}
use Rattle.sect_types.specs.declared.expansion.action.Field.{Field}
use Rattle.sect_graph.specs.declared.flow.Node.{Node}
use Rattle.sect_points.specs.declared.holders.Variable.{Variable}
use Rattle.sect_points.specs.declared.holders.Variable.TheVariants.{Global, Local}
use Rattle.sect_types.specs.declared.declarations.types.ValueType.{ValueType}
use Rattle.sect_types.specs.declared.declarations.types.ValueType.TheVariants.{Int, Refers}
use Rattle.sect_names.specs.declared.lock.Effect.{Effect}
use Rattle.sect_names.specs.declared.lock.Right.{Right}
use Rattle.sect_names.specs.declared.lock.Lock.{Lock}
use Rattle.sect_points.specs.Paths.{PathView, base_of, fields_of}
use Rattle.sect_c.proofs.Reading.{Reads, Any, told, next, until, ends, after, behind, only}
use Rattle.sect_c.proofs.Reading.{parted}
use Rattle.sect_c.proofs.Lists.{number_cons}
use Rattle.sect_c.proofs.Comments.{Within, within_append, digits_within, comment_read}
use Rattle.sect_c.proofs.Lines.{place_read, NoElse}
use Rattle.sect_c.proofs.Paths.{looks_read, look_or_line, path_within}
use Rattle.sect_c.proofs.Graphs.{IsNode, node_or_exit, section_exit, graph_read, each_fits}
use Rattle.sect_emit.specs.declared.graphs.GraphOf.TheVariants as graph
use Rattle.sect_names.specs.declared.lock.Effect.TheVariants as effect
use Rattle.sect_names.specs.declared.lock.Right.TheVariants as right
use Rattle.sect_names.specs.declared.lock.Lock.TheVariants as lock

module _ (r : ProgramView) (names : AreNames r.source) where
  right_within : (d : Right) → Within (right_text d)
  right_within right.Read = refl
  right_within right.Write = refl
  right_within right.Make = refl

  effect_within : (e : Effect) (x : PathView) → Within (lock_text r.source (lock.Path x e))
  effect_within effect.Read x = within_append (codes "R ") (path_text r.source x) refl (path_within r x names)
  effect_within effect.Write x = within_append (codes "W ") (path_text r.source x) refl (path_within r x names)

  lock_within : (l : Lock) → IsShown l → Within (lock_text r.source l)
  lock_within lock.All h = refl
  lock_within (lock.Class c d) h =
      within_append (right_text d ++ codes " class ") (decimal c)
      (within_append (right_text d) (codes " class ") (right_within d) refl) (digits_within c (omega arith))
  lock_within (lock.Path x e) h = effect_within e x

  more_within : (locks : List Lock) → AllByRecursion IsShown locks
      → Within (flat_map (λ m. codes ", " ++ lock_text r.source m) locks)
  more_within [] h = refl
  more_within (l ∷ locks) h =
      subst Within (sym (flat_map-cons (λ m. codes ", " ++ lock_text r.source m) l locks))
      (within_append (codes ", " ++ lock_text r.source l) (flat_map (λ m. codes ", " ++ lock_text r.source m) locks)
      (within_append (codes ", ") (lock_text r.source l) refl (lock_within l h.0)) (more_within locks h.1))

  pub locks_within : (locks : List Lock) → AllByRecursion IsShown locks → Within (locks_text r.source locks)
  locks_within [] h = refl
  locks_within (l ∷ locks) h =
      within_append (lock_text r.source l) (flat_map (λ m. codes ", " ++ lock_text r.source m) locks)
      (lock_within l h.0) (more_within locks h.1)

module _ (p q : ProgramView) (u : ℕ) (alike : DeclareAlike p q u) where
  type_same : (t : ValueType) → type_c p.source t ≡ type_c q.source t
  type_same Int = refl
  type_same (Refers r) = ap (λ n. codes "struct r_" ++ n ++ codes " *") (alike.record_names r)

  variable_same : (v : Variable) → FitsVariable q u v → variable_c p.source v ≡ variable_c q.source v
  variable_same (Global g) h = ap (λ n. codes "&" ++ (codes "g_" ++ n)) (alike.global_names g)
  variable_same (Local t x) h =
      ap (λ s. variable_c p.source (Local s x)) h.0
      ∙ (ap (λ n. codes "l" ++ decimal x ++ codes "_" ++ n) (alike.local_names x h.2)
      ∙ ap (λ s. variable_c q.source (Local s x)) (sym h.0))

  typed_same : (s t : ValueType) → s ≡ t → type_c p.source s ≡ type_c q.source t
  typed_same s t e = ap (type_c p.source) e ∙ type_same t

  follow_same : (read : List ℕ) (n : ℕ) (f : Field) → follow_c p read n f ≡ follow_c q read n f
  follow_same read n f =
      ap (λ t. codes " " ++ t ++ codes "p" ++ decimal (n + 1) ++ codes " = p" ++ decimal n ++ codes " == NULL ? NULL : "
      ++ read ++ codes "(&p" ++ decimal n ++ codes "->" ++ field_c p.source f ++ codes ");")
      (typed_same (field_type p f) (field_type q f) (type_back f))
      ∙ ap (λ m. codes " " ++ type_c q.source (field_type q f) ++ codes "p" ++ decimal (n + 1) ++ codes " = p"
      ++ decimal n
      ++ codes " == NULL ? NULL : " ++ read ++ codes "(&p" ++ decimal n ++ codes "->" ++ (codes "f_" ++ m)
      ++ codes ");")
      (alike.field_names f)
    where
      type_back : (f : Field) → field_type p f ≡ field_type q f
      type_back f = ap (λ rs. slice_index_or (slice_index_or rs f.of []) f.number Int) alike.records

  follows_same : (read : List ℕ) (n : ℕ) (fs : List Field)
      → by_number (follow_c p read) n fs ≡ by_number (follow_c q read) n fs
  follows_same read n [] = refl
  follows_same read n (f ∷ fs) =
      number_cons (follow_c p read) n f fs
      ∙ (ap (λ z. z ++ by_number (follow_c p read) (n + 1) fs) (follow_same read n f)
      ∙ (ap (λ z. follow_c q read n f ++ z) (follows_same read (n + 1) fs)
      ∙ sym (number_cons (follow_c q read) n f fs)))

  base_same : (v : Variable) → FitsVariable q u v → variable_type p v ≡ variable_type q v
  base_same (Global g) h = ap (λ gs. Refers (slice_index_or gs g 0)) alike.globals
  base_same (Local t x) h =
      ap (λ s. slice_index_or (slice_index_or p.locals s []) x Int) h.0
      ∙ (ap (λ ls. slice_index_or ls x Int) alike.locals
      ∙ ap (λ s. slice_index_or (slice_index_or q.locals s []) x Int) (sym h.0))

  first_same : (v : Variable) → FitsVariable q u v → first_c p v ≡ first_c q v
  first_same v h =
      ap (λ t. codes "  { " ++ t ++ codes "p0 = " ++ variable_c p.source v ++ codes ";")
      (typed_same (variable_type p v) (variable_type q v) (base_same v h))
      ∙ ap (λ z. codes "  { " ++ type_c q.source (variable_type q v) ++ codes "p0 = " ++ z ++ codes ";")
      (variable_same v h)

  walk_same : (read : List ℕ) (x : PathView) → FitsPath q u x → walk_c p read x ≡ walk_c q read x
  walk_same read x h =
      ap (λ z. z ++ by_number (follow_c p read) 0 (fields_of x) ++ codes " if (p" ++ decimal (length (fields_of x))
      ++ codes " != NULL") (first_same (base_of x) h.base)
      ∙ ap (λ z. first_c q (base_of x) ++ z ++ codes " if (p" ++ decimal (length (fields_of x)) ++ codes " != NULL")
      (follows_same read 0 (fields_of x))

  second_same : (i : ℕ) (l : Lock) → FitsLock q u l → second_look_c p i l ≡ second_look_c q i l
  second_same i lock.All h = absurd h
  second_same i (lock.Class c d) h = absurd h
  second_same i (lock.Path x e) h = go (fields_of x)
    where
      go : (fs : List Field) → second_look_by p i x e fs ≡ second_look_by q i x e fs
      go [] = refl
      go (f ∷ fs) =
          ap (λ z. z ++ codes " && !sect_holds(me, &p" ++ decimal (length (fields_of x)) ++ codes "->head, SECT_"
          ++ mode_text (object_mode e) ++ codes ")) { sect_give(me); goto s" ++ decimal i ++ codes "; } }\n")
          (walk_same (codes "SECT_GET") x h)

  pub seconds_same : (i : ℕ) (ls : List Lock) → AllByRecursion (FitsLock q u) ls
      → flat_map (second_look_c p i) ls ≡ flat_map (second_look_c q i) ls
  seconds_same i [] h = refl
  seconds_same i (l ∷ ls) h =
      flat_map-cons (second_look_c p i) l ls
      ∙ (ap (λ z. z ++ flat_map (second_look_c p i) ls) (second_same i l h.0)
      ∙ (ap (λ z. second_look_c q i l ++ z) (seconds_same i ls h.1) ∙ sym (flat_map-cons (second_look_c q i) l ls)))

exit_parts : (a b c d xs : List ℕ) → (a ++ b ++ c ++ d) ++ xs ≡ (a ++ (b ++ c ++ d)) ++ xs
exit_parts a b c d xs = simp append_assoc

pub end_read : (i k l : ℕ) → k < 65536 → l < 65536 → Reads Any (end_c i k) (end_c i l) (k ≡ l)
end_read i k l a b =
    let x = ends (behind (codes " ") (place_read (graph.Section i) k l a b))
    (codes ": sect_ticket(me);\n  sect_give(me);\n  goto s") (λ xs. refl) in
    ends (ends x (decimal i) (λ xs. tt)) (codes "_left;\n") (λ xs. tt)

-- the exit is no node
end_or_node : (r : ProgramView) (looks : List Field) (i u k m n : ℕ) (x : Node) (xs ys : List ℕ) → m < 65536
    → IsNode r u n x → end_c i m ++ xs ≡ node_c r looks (standing (graph.Section i) u k) n x ++ ys → ⊥
end_or_node r looks i u k m n x xs ys a is e =
    node_or_exit r looks (graph.Section i) u k m n x
    (codes ": sect_ticket(me);\n  sect_give(me);\n  goto s" ++ decimal i ++ codes "_left;\n") xs ys a is.0 refl
    (section_exit (decimal i ++ codes "_left;\n"))
    (sym (exit_parts (codes " " ++ place_c (graph.Section i) m) (codes ": sect_ticket(me);\n  sect_give(me);\n  goto s")
    (decimal i) (codes "_left;\n") xs) ∙ e)

end_or_else : (i k : ℕ) (xs : List ℕ) → NoElse (end_c i k ++ xs)
end_or_else i k xs ys e = parted (end_c i k) (codes "  else ") xs ys refl e

module _ (p q : ProgramView) (np : AreNames p.source) (nq : AreNames q.source) (u : ℕ)
    (alike : DeclareAlike p q u) (tell : NamesTell p) where
  pub entry_read : (i : ℕ) (locks others paths mores : List Lock) → AllByRecursion IsShown locks
      → AllByRecursion IsShown others → AllByRecursion (FitsLock p u) paths → AllByRecursion (FitsLock q u) mores
      → Reads Any (entry_c p i locks paths) (entry_c q i others mores) (paths ≡ mores)
  entry_read i locks others paths mores a b c d =
      let head = codes " s" ++ decimal i ++ codes ": sect_plan(me, plan_" ++ decimal i ++ codes "); /* section "
      ++ decimal i
      ++ codes ": " in
      let x = comment_read head head (locks_text p.source locks) (locks_text q.source others) (only head)
      (locks_within p np locks a) (locks_within q nq others b) in
      let y = ends (next x (looks_read p q np nq u alike tell paths mores c d)) (codes "  sect_take(me);\n")
      (λ xs. (
        (λ n l zs is e. look_or_line p u (codes "  sect_take(me);\n") refl xs n l zs is e),
        (λ n l zs is e. look_or_line q u (codes "  sect_take(me);\n") refl xs n l zs is e),
      )) in
      let z = after y (λ h. ap (flat_map (second_look_c p i)) h.1 ∙ seconds_same p q u alike i mores d) in
      let goes = ends (ends z (codes "  goto s") (λ xs. tt)) (decimal i) (λ xs. tt) in
      told (ends goes (codes "_0;\n") (λ xs. tt)) (λ h. h.1)

  pub section_read : (looked also : List Field) (i : ℕ) (locks others paths mores : List Lock) (xs ys : List Node)
      → AllByRecursion IsShown locks → AllByRecursion IsShown others → AllByRecursion (FitsLock p u) paths
      → AllByRecursion (FitsLock q u) mores → length xs < 65536 → length ys < 65536 → AllByRecursion (FitsNode p u) xs
      → AllByRecursion (FitsNode q u) ys
      → Reads Any
      (entry_c p i locks paths ++ by_number (node_c p looked (standing (graph.Section i) u (length xs))) 0 xs
      ++ end_c i (length xs))
      (entry_c q i others mores ++ by_number (node_c q also (standing (graph.Section i) u (length ys))) 0 ys
      ++ end_c i (length ys))
      ((paths ≡ mores) × (map node_said xs ≡ map node_said ys))
  section_read looked also i locks others paths mores xs ys a b c d k l f g =
      let nodes = graph_read p q np nq u alike tell (graph.Section i) (length xs) (length ys) k l looked also xs ys
      (each_fits p u 0 xs (omega arith) f) (each_fits q u 0 ys (omega arith) g) in
      told {Q = (paths ≡ mores) × (map node_said xs ≡ map node_said ys)}
      (until (next (entry_read i locks others paths mores a b c d) nodes)
      (λ zs t. (
        (λ n x ws is e. end_or_node p looked i u (length xs) (length xs) n x zs ws k is e),
        (λ n x ws is e. end_or_node q also i u (length ys) (length xs) n x zs ws k is e),
        end_or_else i (length xs) zs,
      ))
      (λ zs t. (
        (λ n x ws is e. end_or_node p looked i u (length xs) (length ys) n x zs ws l is e),
        (λ n x ws is e. end_or_node q also i u (length ys) (length ys) n x zs ws l is e),
        end_or_else i (length ys) zs,
      ))
      (end_read i (length xs) (length ys) k l)) (λ h. (h.0.0, h.0.1))
