-- No typed text has recursion.
use Rattle.std.specs.{Prelude.{true, false, eqb}, List.{list_any}}
use Rattle.std.proofs.Common.{◌≡◌, ◌⊎◌, inl, inr, ℕ, List, [], Option, Some, None, refl, sym, ◌∙◌, subst, slice_get}
use Rattle.std.proofs.lemmas.Bool.{eqb-true, or_cases}
use Rattle.sect_front.specs.declared.tree.Declaration.{Declaration}
use Rattle.sect_front.specs.Syntax.{StatementView, Primitive, If, IfElse, While, Atomic, Call, BlockView, End, Then}
use Rattle.sect_front.specs.{declared.tree.Procedure.{Procedure}, TreeView.{TreeView}}
use Rattle.sect_types.specs.{declared.rules.place.Place.TheVariants.{InProcedure}, Items.{variables}}
use Rattle.sect_types.specs.Sums.{number_of, prepend, statement_calls, block_calls, calls_in}
use Rattle.sect_types.specs.{Rules.{Declared, declared_in}, First.{IsTyped}}
use Rattle.sect_types.specs.steps.{Search.{returns, returns_to}, Clean.{IsCleanStatement, IsCleanBlock}}
use Rattle.sect_types.proofs.{EnoughLaws.{IsAcyclic}, SiteLaws.{AreClean, typed_clean}}

-- a call is of a procedure that doesn't return
called_ends : (ps : List Procedure) (i : ℕ) (q : Option ℕ) (w : List ℕ) (s : ℕ)
    → returns_to ps (InProcedure i) q ≡ false
    → list_any (eqb s) (prepend q w) ≡ true → (returns ps i s ≡ false) ⊎ (list_any (eqb s) w ≡ true)
called_ends ps i None w s e h = inr h
called_ends ps i (Some q) w s e h = elim (or_cases (eqb s q) (list_any (eqb s) w) h) [
  | inl same ↦ inl (subst (λ x. returns ps i x ≡ false) (sym (eqb-true s q same)) e)
  | inr more ↦ inr more
]

-- of a clean body none of the calls does
mutual
  statement_ends : (d : Declared) (ls : List Declaration) (i : ℕ) (f : StatementView) (w : List ℕ) (s : ℕ)
      → IsCleanStatement d ls (InProcedure i) f → list_any (eqb s) (statement_calls d.procedures f w) ≡ true
      → (returns d.procedures i s ≡ false) ⊎ (list_any (eqb s) w ≡ true)
  statement_ends d ls i (Primitive p) w s c h = inr h
  statement_ends d ls i (If t a) w s c h = block_ends d ls i a w s c.1 h
  statement_ends d ls i (IfElse t a b) w s c h =
      elim (block_ends d ls i a (block_calls d.procedures b w) s c.1 h) [
        | inl e ↦ inl e
        | inr e ↦ block_ends d ls i b w s c.2 e
      ]
  statement_ends d ls i (While t a) w s c h = block_ends d ls i a w s c.1 h
  statement_ends d ls i (Atomic lock a) w s c h = block_ends d ls i a w s c.1 h
  statement_ends d ls i (Call f vs) w s c h = called_ends d.procedures i (number_of d.procedures f) w s c.ends h

  block_ends : (d : Declared) (ls : List Declaration) (i : ℕ) (b : BlockView) (w : List ℕ) (s : ℕ)
      → IsCleanBlock d ls (InProcedure i) b → list_any (eqb s) (block_calls d.procedures b w) ≡ true
      → (returns d.procedures i s ≡ false) ⊎ (list_any (eqb s) w ≡ true)
  block_ends d ls i End w s c h = inr h
  block_ends d ls i (Then f b) w s c h = elim (statement_ends d ls i f (block_calls d.procedures b w) s c.0 h) [
    | inl e ↦ inl e
    | inr e ↦ block_ends d ls i b w s c.1 e
  ]

calls_end : (d : Declared) (i : ℕ) (o : Option Procedure) (s : ℕ)
    → ((p : Procedure) → o ≡ Some p → IsCleanBlock d (variables p) (InProcedure i) p.body)
    → list_any (eqb s) (calls_in d.procedures o) ≡ true → returns d.procedures i s ≡ true → ⊥
calls_end d i None s c h e = let off : false ≡ true = h in cc
calls_end d i (Some p) s c h e = elim (block_ends d (variables p) i p.body [] s (c p refl) h) [
  | inl g ↦ (let off : false ≡ true = sym g ∙ e in cc)
  | inr g ↦ (let off : false ≡ true = g in cc)
]

-- where the bodies are clean, no procedure calls one that is it or reaches it
pub clean_acyclic : (d : Declared) → AreClean d d.procedures → IsAcyclic d.procedures
clean_acyclic d c p s h e = calls_end d p (slice_get d.procedures p) s (c p) h e

-- so in a typed text
pub typed_acyclic : (t : TreeView) → IsTyped t → IsAcyclic t.procedures
typed_acyclic t h = clean_acyclic (declared_in t) (typed_clean t h)
