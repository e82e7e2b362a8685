-- The sections of a thread in C can be read back.
use Rattle.std.proofs.Common.{◌≡◌, ◌<◌, ◌+◌, ℕ, Bool, true, false, List, [], ◌∷◌, ◌++◌, refl, codes, length, map}
use Rattle.std.proofs.Common.{sym, ap, ◌∙◌, arith, subst, append_assoc, slice_index_or, eqb-true, eq-eqb, true≢false}
use Rattle.std.proofs.lemmas.List.{append_cancel_left}
use Rattle.std.specs.{Prelude.{nat_eq, if◌then◌else◌}, List.{AllByRecursion, flat_map}, Fmt.{decimal}}
use Rattle.sect_types.specs.Programs.{ProgramView}
use Rattle.sect_emit.specs.Listing.{by_number}
use Rattle.sect_graph.specs.Layout.{flow_nodes}
use Rattle.sect_names.specs.Printing.{locks_text}
use Rattle.sect_types.specs.Sections.{SectionView}
use Rattle.sect_emit.specs.Compiled.{CompiledView, program_of}
use Rattle.sect_conflicts.specs.Taken.{TakenView, looked_of}
use Rattle.sect_c.specs.Told.{AreNames, NamesTell, DeclareAlike}
use Rattle.sect_c.specs.Said.{node_said}
use Rattle.sect_c.specs.Pairs.{EachFrom, PairsFrom}
use Rattle.sect_c.specs.Statements.{node_c}
use Rattle.sect_c.specs.Back.{standing, FitsLock}
use Rattle.sect_c.specs.Whole.{IsOneSection}
use Rattle.sect_c.proofs.Premises.{FitsGraph, FitsSection}
use Rattle.sect_c.specs.Sections.{entry_c, own_section_c, section_c, look_c, second_look_c, end_c, standing_in}
use Rattle.sect_c.proofs.Reading.{Reads, Any, behind, number, parted, moved}
use Rattle.sect_c.proofs.Lists.{number_cons}
use Rattle.sect_c.proofs.Entries.{section_read}
use Rattle.sect_emit.specs.declared.graphs.GraphOf.TheVariants as graph

-- a section, as one of a thread
abbrev section_by : CompiledView → TakenView → ℕ → SectionView → ℕ → List ℕ
section_by c taken i s u =
    entry_c (program_of c) i (slice_index_or c.sets i []) (slice_index_or taken.paths i [])
    ++ by_number (node_c (program_of c) (looked_of taken) (standing (graph.Section i) u (length (flow_nodes s.body)))) 0
    (flow_nodes s.body)
    ++ end_c i (length (flow_nodes s.body))

-- how a section begins
pieces : (a b c d e f g h i j k l m n o : List ℕ)
    → a ++ b ++ c ++ d ++ e ++ f ++ g ++ h ++ i ++ j ++ k ++ l ++ m ++ n ++ o
    ≡ (a ++ b) ++ (c ++ (d ++ e ++ f ++ g ++ h ++ i ++ j ++ k ++ l ++ m ++ n ++ o))
pieces a b c d e f g h i j k l m n o = simp append_assoc

outer : (a b c : List ℕ) (x y z : List ℕ) → a ≡ (x ++ y) ++ (z ++ b) → a ++ c ≡ (x ++ y) ++ (z ++ (b ++ c))
outer a b c x y z e = ap (λ t. t ++ c) e
    ∙ (append_assoc (x ++ y) (z ++ b) c ∙ ap (λ t. (x ++ y) ++ t) (append_assoc z b c))

pub section_begins : (c : CompiledView) (taken : TakenView) (i : ℕ) (s : SectionView)
    → (rest : List ℕ) × (section_c c taken i s ≡ (codes " s" ++ decimal i) ++ (codes ": sect_plan(me, plan_" ++ rest))
section_begins c taken i s =
    let p = program_of c in
    let locks = slice_index_or c.sets i [] in
    let paths = slice_index_or taken.paths i [] in
    let nodes = by_number (node_c p (looked_of taken) (standing_in s i)) 0 (flow_nodes s.body) in
    let end = end_c i (length (flow_nodes s.body)) in
    let rest = decimal i ++ codes "); /* section " ++ decimal i ++ codes ": " ++ locks_text p.source locks
    ++ codes " */\n"
    ++ flat_map (look_c p) paths ++ codes "  sect_take(me);\n" ++ flat_map (second_look_c p i) paths
    ++ codes "  goto s" ++ decimal i ++ codes "_0;\n" in
    let first = pieces (codes " s") (decimal i) (codes ": sect_plan(me, plan_") (decimal i) (codes "); /* section ")
    (decimal i) (codes ": ") (locks_text p.source locks) (codes " */\n") (flat_map (look_c p) paths)
    (codes "  sect_take(me);\n") (flat_map (second_look_c p i) paths) (codes "  goto s") (decimal i) (codes "_0;\n")
    in (
      rest ++ nodes ++ end,
      outer _ (rest ++ nodes) end (codes " s") (decimal i) (codes ": sect_plan(me, plan_")
          (outer _ rest nodes (codes " s") (decimal i) (codes ": sect_plan(me, plan_") first),
    )

-- two sections that begin with one text have one number
one_number : (c d : CompiledView) (taken given : TakenView) (i j : ℕ) (s t : SectionView) (xs ys : List ℕ) → i < 65536
    → j < 65536 → section_c c taken i s ++ xs ≡ section_c d given j t ++ ys → i ≡ j
one_number c d taken given i j s t xs ys a b e =
    let x = section_begins c taken i s in
    let y = section_begins d given j t in
    ((behind (codes " s") (number i j (omega arith) (omega arith))).read
    ((codes ": sect_plan(me, plan_" ++ x.0) ++ xs) ((codes ": sect_plan(me, plan_" ++ y.0) ++ ys) refl refl
    (sym (append_assoc (codes " s" ++ decimal i) (codes ": sect_plan(me, plan_" ++ x.0) xs)
    ∙ (sym (ap (λ z. z ++ xs) x.1) ∙ (e ∙ (ap (λ z. z ++ ys) y.1
    ∙ append_assoc (codes " s" ++ decimal j) (codes ": sect_plan(me, plan_" ++ y.0) ys))))).0

-- a section isn't the end of a thread
section_or_end : (c : CompiledView) (taken : TakenView) (i : ℕ) (s : SectionView) (xs ys : List ℕ)
    → codes "}\n" ++ xs ≡ section_c c taken i s ++ ys → ⊥
section_or_end c taken i s xs ys e =
    let x = section_begins c taken i s in
    parted (codes "}\n") (codes " s" ++ decimal i) xs ((codes ": sect_plan(me, plan_" ++ x.0) ++ ys) refl
    (e ∙ (ap (λ z. z ++ ys) x.1 ∙ append_assoc (codes " s" ++ decimal i) (codes ": sect_plan(me, plan_" ++ x.0) ys))

chosen : {A : Type 0} (b : Bool) (x y : A) → b ≡ true → (if b then x else y) ≡ x
chosen true x y e = refl
chosen false x y e = absurd (true≢false (sym e))

other : {A : Type 0} (b : Bool) (x y : A) → b ≡ false → (if b then x else y) ≡ y
other false x y e = refl
other true x y e = absurd (true≢false e)

-- later sections of thread u, behind which its text ends, don't begin as this one
later : (c d : CompiledView) (taken given : TakenView) (u i m : ℕ) (s : SectionView) (ts : List SectionView)
    (xs ys : List ℕ) → i < 65536 → i < m → EachFrom (FitsSection d given) m ts
    → section_c c taken i s ++ xs ≡ by_number (own_section_c d given u) m ts ++ (codes "}\n" ++ ys) → ⊥
later c d taken given u i m s [] xs ys a b fits e = section_or_end c taken i s ys xs (sym e)
later c d taken given u i m s (t ∷ ts) xs ys a b fits e =
    go (nat_eq t.thread u) refl (λ f. later c d taken given u i (m + 1) s ts xs ys a (omega arith) fits.1 f)
  where
    opened : section_c c taken i s ++ xs ≡ own_section_c d given u m t
        ++ (by_number (own_section_c d given u) (m + 1) ts ++ (codes "}\n" ++ ys))
    opened = e ∙ (ap (λ z. z ++ (codes "}\n" ++ ys)) (number_cons (own_section_c d given u) m t ts)
        ∙ append_assoc (own_section_c d given u m t) (by_number (own_section_c d given u) (m + 1) ts)
        (codes "}\n" ++ ys))

    go : (b : Bool) → nat_eq t.thread u ≡ b
        → (section_c c taken i s ++ xs ≡ by_number (own_section_c d given u) (m + 1) ts ++ (codes "}\n" ++ ys) → ⊥) → ⊥
    go true h f =
        let same = one_number c d taken given i m s t xs (by_number (own_section_c d given u) (m + 1) ts
        ++ (codes "}\n" ++ ys)) a fits.0.number
        (opened ∙ ap (λ z. z ++ (by_number (own_section_c d given u) (m + 1) ts ++ (codes "}\n" ++ ys)))
        (chosen (nat_eq t.thread u) (section_c d given m t) [] h)) in
        omega (arith, same)
    go false h f =
        f (opened ∙ ap (λ z. z ++ (by_number (own_section_c d given u) (m + 1) ts ++ (codes "}\n" ++ ys)))
        (other (nat_eq t.thread u) (section_c d given m t) [] h))

module _ (c d : CompiledView) (taken given : TakenView) (np : AreNames (program_of c).source)
    (nq : AreNames (program_of d).source) (tell : NamesTell (program_of c)) (u : ℕ)
    (alike : DeclareAlike (program_of c) (program_of d) u) where
  abbrev p : ProgramView
  p = program_of c

  abbrev q : ProgramView
  q = program_of d

  -- both are thread u's
  own_both : (n : ℕ) (s t : SectionView) → FitsSection c taken n s → FitsSection d given n t → s.thread ≡ u
      → t.thread ≡ u → Reads Any (section_c c taken n s) (section_c d given n t)
      ((slice_index_or taken.paths n [] ≡ slice_index_or given.paths n [])
      × (map node_said (flow_nodes s.body) ≡ map node_said (flow_nodes t.body)))
  own_both n s t f g e h =
      let x = subst (λ v. AllByRecursion (FitsLock p v) (slice_index_or taken.paths n [])) e f.paths in
      let y = subst (λ v. AllByRecursion (FitsLock q v) (slice_index_or given.paths n [])) h g.paths in
      let i = subst (λ v. FitsGraph p v (flow_nodes s.body)) e f.graph in
      let j = subst (λ v. FitsGraph q v (flow_nodes t.body)) h g.graph in
      moved (ap (λ v. section_by c taken n s v) e) (ap (λ v. section_by d given n t v) h)
      (section_read p q np nq u alike tell (looked_of taken) (looked_of given) n (slice_index_or c.sets n [])
      (slice_index_or d.sets n []) (slice_index_or taken.paths n []) (slice_index_or given.paths n [])
      (flow_nodes s.body) (flow_nodes t.body) f.locks g.locks x y i.few j.few i.each j.each)

  own_pair : (n : ℕ) (s t : SectionView) → nat_eq s.thread u ≡ true → nat_eq t.thread u ≡ true
      → slice_index_or taken.paths n [] ≡ slice_index_or given.paths n []
      → map node_said (flow_nodes s.body) ≡ map node_said (flow_nodes t.body) → IsOneSection taken given u n s t
  own_pair n s t a b e f = record { of = a ∙ sym b; paths = λ h. e; graph = λ h. f }

  own_none : (n : ℕ) (s t : SectionView) → nat_eq s.thread u ≡ false → nat_eq t.thread u ≡ false
      → IsOneSection taken given u n s t
  own_none n s t a b = record {
    of = a ∙ sym b;
    paths = λ h. absurd (true≢false (sym (eq-eqb s.thread u h) ∙ a));
    graph = λ h. absurd (true≢false (sym (eq-eqb s.thread u h) ∙ a));
  }

  pub own_read : (n : ℕ) (ss ts : List SectionView) → length ss ≡ length ts → EachFrom (FitsSection c taken) n ss
      → EachFrom (FitsSection d given) n ts → (xs ys : List ℕ)
      → by_number (own_section_c c taken u) n ss ++ (codes "}\n" ++ xs)
      ≡ by_number (own_section_c d given u) n ts ++ (codes "}\n" ++ ys)
      → PairsFrom (IsOneSection taken given u) n ss ts × (xs ≡ ys)
  own_read n [] [] l f g xs ys e = (tt, append_cancel_left (codes "}\n") xs ys e)
  own_read n [] (t ∷ ts) l f g xs ys e = absurd (omega (arith, l))
  own_read n (s ∷ ss) [] l f g xs ys e = absurd (omega (arith, l))
  own_read n (s ∷ ss) (t ∷ ts) l f g xs ys e =
      go (nat_eq s.thread u) (nat_eq t.thread u) refl refl (own_read (n + 1) ss ts (omega (arith, l)) f.1 g.1 xs ys)
    where
      opened : own_section_c c taken u n s ++ (by_number (own_section_c c taken u) (n + 1) ss ++ (codes "}\n" ++ xs))
          ≡ own_section_c d given u n t ++ (by_number (own_section_c d given u) (n + 1) ts ++ (codes "}\n" ++ ys))
      opened =
          sym (append_assoc (own_section_c c taken u n s) (by_number (own_section_c c taken u) (n + 1) ss)
          (codes "}\n" ++ xs))
          ∙ (sym (ap (λ z. z ++ (codes "}\n" ++ xs)) (number_cons (own_section_c c taken u) n s ss))
          ∙ (e ∙ (ap (λ z. z ++ (codes "}\n" ++ ys)) (number_cons (own_section_c d given u) n t ts)
          ∙ append_assoc (own_section_c d given u n t) (by_number (own_section_c d given u) (n + 1) ts)
          (codes "}\n" ++ ys))))

      go : (a b : Bool) → nat_eq s.thread u ≡ a → nat_eq t.thread u ≡ b
          → (by_number (own_section_c c taken u) (n + 1) ss ++ (codes "}\n" ++ xs)
          ≡ by_number (own_section_c d given u) (n + 1) ts ++ (codes "}\n" ++ ys)
          → PairsFrom (IsOneSection taken given u) (n + 1) ss ts × (xs ≡ ys))
          → PairsFrom (IsOneSection taken given u) n (s ∷ ss) (t ∷ ts) × (xs ≡ ys)
      go true true a b more =
          let one = (own_both n s t f.0 g.0 (eqb-true s.thread u a) (eqb-true t.thread u b)).read
          (by_number (own_section_c c taken u) (n + 1) ss ++ (codes "}\n" ++ xs))
          (by_number (own_section_c d given u) (n + 1) ts ++ (codes "}\n" ++ ys)) tt tt
          (sym (ap (λ z. z ++ (by_number (own_section_c c taken u) (n + 1) ss ++ (codes "}\n" ++ xs)))
          (chosen (nat_eq s.thread u) (section_c c taken n s) [] a))
          ∙ (opened ∙ ap (λ z. z ++ (by_number (own_section_c d given u) (n + 1) ts ++ (codes "}\n" ++ ys)))
          (chosen (nat_eq t.thread u) (section_c d given n t) [] b))) in
          let rest = more one.1 in
          ((own_pair n s t a b one.0.0 one.0.1, rest.0), rest.1)
      go false false a b more =
          let rest = more (sym (ap (λ z. z ++ (by_number (own_section_c c taken u) (n + 1) ss ++ (codes "}\n" ++ xs)))
          (other (nat_eq s.thread u) (section_c c taken n s) [] a))
          ∙ (opened ∙ ap (λ z. z ++ (by_number (own_section_c d given u) (n + 1) ts ++ (codes "}\n" ++ ys)))
          (other (nat_eq t.thread u) (section_c d given n t) [] b))) in
          ((own_none n s t a b, rest.0), rest.1)
      go true false a b more =
          absurd (later c d taken given u n (n + 1) s ts
          (by_number (own_section_c c taken u) (n + 1) ss ++ (codes "}\n" ++ xs)) ys f.0.number (omega arith) g.1
          (sym (ap (λ z. z ++ (by_number (own_section_c c taken u) (n + 1) ss ++ (codes "}\n" ++ xs)))
          (chosen (nat_eq s.thread u) (section_c c taken n s) [] a))
          ∙ (opened ∙ ap (λ z. z ++ (by_number (own_section_c d given u) (n + 1) ts ++ (codes "}\n" ++ ys)))
          (other (nat_eq t.thread u) (section_c d given n t) [] b))))
      go false true a b more =
          absurd (later d c given taken u n (n + 1) t ss
          (by_number (own_section_c d given u) (n + 1) ts ++ (codes "}\n" ++ ys)) xs f.0.number (omega arith) f.1
          (sym (ap (λ z. z ++ (by_number (own_section_c d given u) (n + 1) ts ++ (codes "}\n" ++ ys)))
          (chosen (nat_eq t.thread u) (section_c d given n t) [] b))
          ∙ (sym opened ∙ ap (λ z. z ++ (by_number (own_section_c c taken u) (n + 1) ss ++ (codes "}\n" ++ xs)))
          (other (nat_eq s.thread u) (section_c c taken n s) [] a))))
