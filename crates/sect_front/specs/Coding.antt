-- Statements as trees of numbers, by which a proof tells them apart: the checker wants it of a type that contracts see
-- as such data.
use Rattle.std.specs.{Prelude.{◌≡◌, ℕ, List, refl}, Coded.{Coded, coded_ℕ, coded_list}}
use Rattle.std.proofs.Common.{ap, arith}
use base.Stored.{Gv, gnil, gnum, gcons}
use Rattle.sect_front.specs.Syntax.{StatementView, BlockView, Primitive, If, IfElse, While, Atomic, Call, End, Then}
use Rattle.sect_front.specs.{declared.tree.Operand.{Operand}, contracts.tree.Operand.{the_row as operand_row}}
use Rattle.sect_front.specs.contracts.tree.Primitive.{the_row as primitive_row}
use Rattle.sect_front.specs.{contracts.tree.Test.{the_row as test_row}, contracts.tree.Locking.{the_row as locking_row}}

-- the same of a name and of operands
name_code : Coded (List ℕ)
name_code = coded_list coded_ℕ

operands_code : Coded (List Operand)
operands_code = coded_list operand_row.coded

-- a tree of numbers for each, by which a proof tells them apart
abbrev mutual
  code_statement : StatementView → Gv
  code_statement (Primitive p) = gcons (gnum 0) (primitive_row.coded.code p)
  code_statement (If v a) = gcons (gnum 1) (gcons (test_row.coded.code v) (code_block a))
  code_statement (IfElse v a b) = gcons (gnum 2) (gcons (test_row.coded.code v) (gcons (code_block a) (code_block b)))
  code_statement (While v a) = gcons (gnum 4) (gcons (test_row.coded.code v) (code_block a))
  code_statement (Atomic l a) = gcons (gnum 3) (gcons (locking_row.coded.code l) (code_block a))
  code_statement (Call f vs) = gcons (gnum 5) (gcons (name_code.code f) (operands_code.code vs))

  code_block : BlockView → Gv
  code_block End = gnil
  code_block (Then s b) = gcons (code_statement s) (code_block b)

-- the parts of a tree of numbers
abbrev pub head : Gv → Gv
head (gcons a b) = a
head _ = gnil

abbrev pub tail : Gv → Gv
tail (gcons a b) = b
tail _ = gnil

abbrev pub number : Gv → ℕ
number (gnum n) = n
number _ = 0

abbrev pub has_two : Gv → ℕ
has_two (gcons a b) = 1
has_two _ = 0

mutual
  same_statement : (s t : StatementView) → code_statement s ≡ code_statement t → s ≡ t
  same_statement (Primitive p) (Primitive q) e = ap Primitive (primitive_row.coded.inj p q (ap tail e))
  same_statement (If v a) (If w b) e =
      λ i. If (test_row.coded.inj v w (ap (λ g. head (tail g)) e) i) (same_block a b (ap (λ g. tail (tail g)) e) i)
  same_statement (IfElse v a c) (IfElse w b d) e =
      λ i. IfElse (test_row.coded.inj v w (ap (λ g. head (tail g)) e) i)
      (same_block a b (ap (λ g. head (tail (tail g))) e) i) (same_block c d (ap (λ g. tail (tail (tail g))) e) i)
  same_statement (While v a) (While w b) e =
      λ i. While (test_row.coded.inj v w (ap (λ g. head (tail g)) e) i) (same_block a b (ap (λ g. tail (tail g)) e) i)
  same_statement (Atomic l a) (Atomic m b) e =
      λ i. Atomic (locking_row.coded.inj l m (ap (λ g. head (tail g)) e) i)
      (same_block a b (ap (λ g. tail (tail g)) e) i)
  same_statement (Call f vs) (Call g ws) e =
      λ i. Call (name_code.inj f g (ap (λ g. head (tail g)) e) i)
      (operands_code.inj vs ws (ap (λ g. tail (tail g)) e) i)
  same_statement _ _ e = absurd (omega (arith, ap (λ g. number (head g)) e))

  same_block : (a b : BlockView) → code_block a ≡ code_block b → a ≡ b
  same_block End End e = refl
  same_block (Then s a) (Then t b) e = λ i. Then (same_statement s t (ap head e) i) (same_block a b (ap tail e) i)
  same_block _ _ e = absurd (omega (arith, ap has_two e))

pub block_code : Coded BlockView
block_code = record { code = code_block; inj = same_block }
