-- What `==` says of the parts of a tree.
use Rattle.std.proofs.Common.{◌≡◌, ◌∙◌, ◌<◌, ◌+◌, ◌∷◌, [], ℕ, zero, suc, List, length, take, get_or, refl, sym, ap}
use Rattle.std.proofs.Common.{arith, rules}
use native.Mathlib.Numerals.{unary_clauses}
use Rattle.std.proofs.{Math.Seq.{take-suc}, lemmas.Slice.Eq.{slice_eq-Decides}}
use Rattle.std.specs.{Bool.{Decides}, Cmp.{unsigned_Decides}, Cmp.Lexicographic.{pointwise}, Prelude.{nat_eq}}
use Rattle.sect_front.specs.{Syntax.{StatementView, BlockView, End, Then}, Trees.{statement_of, block_of, append}}
use Rattle.sect_front.specs.{declared.tree.Statement.{Statement}, declared.tree.Operand.{Operand}}
use Rattle.sect_front.specs.{declared.tree.Declaration.{Declaration}, declared.tree.GlobalObject.{GlobalObject}}
use Rattle.sect_front.proofs.Bodies.{body_of_push}
use Rattle.sect_front.specs.contracts.tree.OperandPartialEq.TheImpl as operand
use Rattle.sect_front.specs.contracts.tree.DeclarationPartialEq.TheImpl as declaration
use Rattle.sect_front.specs.contracts.tree.GlobalObjectPartialEq.TheImpl as global

pub name_tells : (a b : List ℕ) → Decides (pointwise nat_eq a b) (a ≡ b)
name_tells a b = slice_eq-Decides unsigned_Decides a b _ refl

pub operand_tells : (a b : Operand) → Decides ((operand.eq-value).it a b) (a ≡ b)
operand_tells a b = search rules

pub declaration_tells : (a b : Declaration) → Decides ((declaration.eq-value).it a b) (a ≡ b)
declaration_tells a b = search rules

pub global_tells : (a b : GlobalObject) → Decides ((global.eq-value).it a b) (a ≡ b)
global_tells a b = search rules

-- how many statements a block has
abbrev count : BlockView → ℕ
count End = 0
count (Then s b) = suc (count b)

counted : (ss : List Statement) → count (block_of ss) ≡ length ss
counted [] = refl
counted (s ∷ ss) = ap suc (counted ss)

pub same_length : (xs ys : List Statement) → block_of xs ≡ block_of ys → length xs ≡ length ys
same_length xs ys e = sym (counted xs) ∙ ap count e ∙ counted ys

-- the statement at a place of a block
abbrev nth : StatementView → BlockView → ℕ → StatementView
nth x End i = x
nth x (Then s b) zero = s
nth x (Then s b) (suc i) = nth x b i

nth_of : (ss : List Statement) (i : ℕ) (x : StatementView) (d : Statement) → i < length ss
    → nth x (block_of ss) i ≡ statement_of (get_or ss i d)
nth_of [] i x d h = absurd (omega arith)
nth_of (s ∷ ss) zero x d h = refl
nth_of (s ∷ ss) (suc i) x d h = nth_of ss i x d (omega arith)

-- blocks that are the same have the same statement at each place
pub same_at : (xs ys : List Statement) (i : ℕ) (d e : Statement) → i < length xs → i < length ys
    → block_of xs ≡ block_of ys → statement_of (get_or xs i d) ≡ statement_of (get_or ys i e)
same_at xs ys i d e h k same =
    let x = statement_of d in
    sym (nth_of xs i x d h) ∙ ap (λ b. nth x b i) same ∙ nth_of ys i x e k

-- the same up to a place, and at that place
pub same_so_far : (xs ys : List Statement) (i : ℕ) (d e : Statement) → i < length xs → i < length ys
    → block_of (take i xs) ≡ block_of (take i ys) → statement_of (get_or xs i d) ≡ statement_of (get_or ys i e)
    → block_of (take (i + 1) xs) ≡ block_of (take (i + 1) ys)
same_so_far xs ys i d e h k so_far here =
    simp unary_clauses
    (ap block_of (take-suc xs i d h) ∙ body_of_push (take i xs) (get_or xs i d)
    ∙ (λ j. append (so_far j) (here j))
    ∙ sym (body_of_push (take i ys) (get_or ys i e)) ∙ ap block_of (sym (take-suc ys i e k)))
