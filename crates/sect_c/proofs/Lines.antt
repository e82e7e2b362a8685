-- Jumps, tests for null and sides of assignments in C can be read back.
use Rattle.std.proofs.Common.{◌≡◌, ◌<◌, ℕ, Bool, true, false, List, ◌++◌, refl, codes}
use Rattle.std.proofs.Common.{sym, ap, ◌∙◌, arith, append_assoc}
use Rattle.std.specs.{Prelude.{if◌then◌else◌}, Fmt.{decimal}}
use Rattle.sect_front.specs.Words.{is_digit, is_name_byte}
use Rattle.sect_types.specs.Programs.{ProgramView}
use Rattle.sect_c.specs.Told.{AreNames, NamesTell, DeclareAlike}
use Rattle.sect_c.specs.Naming.{member_c, base_c, field_c}
use Rattle.sect_c.specs.Statements.{place_c, jump_c, fault_c, null_test_c, target_c, load_c, successors_c, is_looked}
use Rattle.sect_types.specs.declared.expansion.action.Field.{Field}
use Rattle.sect_types.specs.declared.expansion.action.Base.{Base}
use Rattle.sect_c.specs.declared.context.Member.{Member}
use Rattle.sect_emit.specs.declared.graphs.GraphOf.{GraphOf}
use Rattle.sect_c.specs.declared.context.Standing.{Standing}
use Rattle.sect_graph.specs.declared.flow.Successors.{Successors}
use Rattle.sect_graph.specs.declared.flow.Successors.TheVariants.{Next, Branch}
use Rattle.sect_c.proofs.Reading.{Reads, Any, Stops, told, next, ends, behind, closed, apart, number}
use Rattle.sect_c.specs.Back.{standing}
use Rattle.sect_c.specs.Fits.{FitsMember, FitsNext}
use Rattle.sect_c.proofs.Values.{local_read, member_read}
use Rattle.sect_types.specs.declared.expansion.action.Base.TheVariants as base
use Rattle.sect_emit.specs.declared.graphs.GraphOf.TheVariants as graph

pub place_read : (g : GraphOf) (n m : ℕ) → n < 65536 → m < 65536
    → Reads (Stops is_digit) (place_c g n) (place_c g m) (n ≡ m)
place_read (graph.Thread u) n m a b = behind (codes "n") (number n m (omega arith) (omega arith))
place_read (graph.Section i) n m a b =
    behind (codes "s" ++ decimal i ++ codes "_") (number n m (omega arith) (omega arith))

pub jump_read : (g : GraphOf) (n m : ℕ) → n < 65536 → m < 65536 → Reads Any (jump_c g n) (jump_c g m) (n ≡ m)
jump_read g n m a b = ends (behind (codes "goto ") (place_read g n m a b)) (codes ";") (λ xs. refl)

pub fault_read : (g : GraphOf) (u k l : ℕ) (fault : List ℕ) → k < 65536 → l < 65536
    → Reads Any (fault_c (standing g u k) fault) (fault_c (standing g u l) fault) (k ≡ l)
fault_read g u k l fault a b =
    ends (behind (codes " { end = " ++ fault ++ codes "; ") (jump_read g k l a b)) (codes " }\n") (λ xs. tt)

-- no line goes on so
abbrev pub NoElse : List ℕ → Type 0
NoElse xs = (ys : List ℕ) → xs ≡ codes "  else " ++ ys → ⊥

next_read : (g : GraphOf) (n m : ℕ) → n < 65536 → m < 65536
    → Reads Any (successors_c g (Next n)) (codes "  " ++ jump_c g m ++ codes "\n") (n ≡ m)
next_read g n m a b = ends (behind (codes "  ") (jump_read g n m a b)) (codes "\n") (λ xs. tt)

branch_parts : (a b c xs : List ℕ) → ((a ++ codes "\n  else " ++ b) ++ c) ++ xs
    ≡ (a ++ codes "\n") ++ (codes "  else " ++ (b ++ (c ++ xs)))
branch_parts a b c xs =
    append_assoc (a ++ codes "\n  else " ++ b) c xs
    ∙ (append_assoc (a ++ codes "\n  else ") b (c ++ xs)
    ∙ (append_assoc a (codes "\n  else ") (b ++ (c ++ xs))
    ∙ sym (append_assoc a (codes "\n") (codes "  else " ++ (b ++ (c ++ xs))))))

pub successors_read : (g : GraphOf) (x y : Successors) → FitsNext x → FitsNext y
    → Reads NoElse (successors_c g x) (successors_c g y) (x ≡ y)
successors_read g (Next n) (Next m) a b = told (closed (next_read g n m a b)) (ap Next)
successors_read g (Next n) (Branch h f) a b = record {
  read = λ xs ys p q e.
      let one = (next_read g n h a b.0).read xs (codes "  else " ++ (jump_c g f ++ (codes "\n" ++ ys))) tt tt
      (e ∙ branch_parts (codes "  " ++ jump_c g h) (jump_c g f) (codes "\n") ys) in
      absurd (p (jump_c g f ++ (codes "\n" ++ ys)) one.1);
}
successors_read g (Branch h f) (Next m) a b = record {
  read = λ xs ys p q e.
      let one = (next_read g m h b a.0).read ys (codes "  else " ++ (jump_c g f ++ (codes "\n" ++ xs))) tt tt
      (sym e ∙ branch_parts (codes "  " ++ jump_c g h) (jump_c g f) (codes "\n") xs) in
      absurd (q (jump_c g f ++ (codes "\n" ++ xs)) one.1);
}
successors_read g (Branch h f) (Branch i k) a b =
    let x = ends (behind (codes "  ") (jump_read g h i a.0 b.0)) (codes "\n  else ") (λ xs. tt) in
    told (closed (ends (next x (jump_read g f k a.1 b.1)) (codes "\n") (λ xs. tt)))
    (λ e. ap (λ n. Branch n f) e.0 ∙ ap (λ n. Branch i n) e.1)

module _ (p q : ProgramView) (np : AreNames p.source) (nq : AreNames q.source) (u : ℕ)
    (alike : DeclareAlike p q u) (tell : NamesTell p) (g : GraphOf) (k l : ℕ) (ck : k < 65536) (cl : l < 65536) where
  abbrev here : Standing
  here = standing g u k

  abbrev there : Standing
  there = standing g u l

  pub null_read : (x y : ℕ) → x < 65536 → y < 65536
      → Reads Any (null_test_c p.source here (base.Local x)) (null_test_c q.source there (base.Local y)) (x ≡ y)
  null_read x y a b =
      let test = ends (behind (codes "  if (") (local_read p q np nq u alike tell x y a b)) (codes " == NULL)")
      (λ xs. refl) in
      told (next test (fault_read g u k l (codes "SECT_NULL") ck cl)) (λ h. h.0)

  pub target_read : (x y : ℕ) → x < 65536 → y < 65536
      → Reads Any (target_c p.source here x) (target_c q.source there y) (x ≡ y)
  target_read x y a b =
      ends (behind (codes "  ") (local_read p q np nq u alike tell x y a b)) (codes " = ") (λ xs. refl)

  get_apart : (m n : Member) → Reads (Stops is_name_byte)
      (codes "SECT_GET(&" ++ member_c p.source u m ++ codes ")") (member_c q.source u n) (m ≡ n)
  get_apart m n = go n.base n.field refl refl
    where
      go : (b : Base) (f : Field) → n.base ≡ b → n.field ≡ f → Reads (Stops is_name_byte)
          (codes "SECT_GET(&" ++ member_c p.source u m ++ codes ")") (base_c q.source u b ++ field_c q.source f) (m ≡ n)
      go (base.Global h) f e i = apart (codes "SECT_GET(&" ++ member_c p.source u m ++ codes ")")
          (base_c q.source u (base.Global h) ++ field_c q.source f) refl
      go (base.Local h) f e i = apart (codes "SECT_GET(&" ++ member_c p.source u m ++ codes ")")
          (base_c q.source u (base.Local h) ++ field_c q.source f) refl

  apart_get : (m n : Member) → Reads (Stops is_name_byte)
      (member_c p.source u m) (codes "SECT_GET(&" ++ member_c q.source u n ++ codes ")") (m ≡ n)
  apart_get m n = go m.base m.field
    where
      go : (b : Base) (f : Field) → Reads (Stops is_name_byte)
          (base_c p.source u b ++ field_c p.source f) (codes "SECT_GET(&" ++ member_c q.source u n ++ codes ")") (m ≡ n)
      go (base.Global h) f = apart (base_c p.source u (base.Global h) ++ field_c p.source f)
          (codes "SECT_GET(&" ++ member_c q.source u n ++ codes ")") refl
      go (base.Local h) f = apart (base_c p.source u (base.Local h) ++ field_c p.source f)
          (codes "SECT_GET(&" ++ member_c q.source u n ++ codes ")") refl

  pub load_read : (looked also : List Field) (m n : Member) → FitsMember p u m → FitsMember q u n
      → Reads (Stops is_name_byte) (load_c p.source looked here m) (load_c q.source also there n) (m ≡ n)
  load_read looked also m n a b = go (is_looked looked m.field) (is_looked also n.field)
    where
      go : (c d : Bool) → Reads (Stops is_name_byte)
          (if c then codes "SECT_GET(&" ++ member_c p.source u m ++ codes ")" else member_c p.source u m)
          (if d then codes "SECT_GET(&" ++ member_c q.source u n ++ codes ")" else member_c q.source u n) (m ≡ n)
      go true true = closed (ends (behind (codes "SECT_GET(&") (member_read p q np nq u alike tell m n a b))
          (codes ")") (λ xs. refl))
      go true false = get_apart m n
      go false true = apart_get m n
      go false false = member_read p q np nq u alike tell m n a b
