-- Counting that stops one past each limit says the same.
use Rattle.std.proofs.Common.{◌≡◌, ℕ, zero, suc, ◌+◌, List, [], ◌∷◌, Option, Some, None, refl, sym, ◌∙◌, ap, arith, map}
use Rattle.std.proofs.Common.{length, min, max, slice_get}
use Rattle.sect_front.specs.declared.tree.Procedure.{Procedure}
use Rattle.sect_front.specs.Syntax.{StatementView, Primitive, If, IfElse, While, Atomic, Call, BlockView, End, Then}
use Rattle.sect_types.specs.declared.counting.sums.Sums.{Sums}
use Rattle.sect_types.specs.Sums.{both, around, call_sums, or_nothing, number_of, sums_at, statement_sums, block_sums}
use Rattle.sect_types.specs.Sums.{procedure_sums, sums_within}
use Rattle.sect_types.specs.steps.Capped.{capped}

-- sums are the same by their parts
pub same_sums : {a b : Sums} → a.statements ≡ b.statements → a.sites ≡ b.sites → a.calls ≡ b.calls → a.fresh ≡ b.fresh
    → a.deep ≡ b.deep → a ≡ b
same_sums statements sites calls fresh deep i = record {
  statements = statements i;
  sites = sites i;
  calls = calls i;
  fresh = fresh i;
  deep = deep i;
}

cap_both : (a b : Sums) → capped (both (capped a) (capped b)) ≡ capped (both a b)
cap_both a b =
    let the_statements : min (min a.statements 4097 + min b.statements 4097) 4097 ≡ min (a.statements + b.statements)
    4097 = omega arith in
    let the_sites : min (min a.sites 1025 + min b.sites 1025) 1025 ≡ min (a.sites + b.sites) 1025 = omega arith in
    let the_calls : min (min a.calls 4097 + min b.calls 4097) 4097 ≡ min (a.calls + b.calls) 4097 = omega arith in
    let the_fresh : min (min a.fresh 4097 + min b.fresh 4097) 4097 ≡ min (a.fresh + b.fresh) 4097 = omega arith in
    let the_deep : min (max (min a.deep 33) (min b.deep 33)) 33 ≡ min (max a.deep b.deep) 33 = omega arith in
    same_sums the_statements the_sites the_calls the_fresh the_deep

cap_around : (a : Sums) → capped (around (capped a)) ≡ capped (around a)
cap_around a =
    let the_statements : min (1 + min a.statements 4097) 4097 ≡ min (1 + a.statements) 4097 = omega arith in
    let the_sites : min (min a.sites 1025) 1025 ≡ min a.sites 1025 = omega arith in
    let the_calls : min (min a.calls 4097) 4097 ≡ min a.calls 4097 = omega arith in
    let the_fresh : min (min a.fresh 4097) 4097 ≡ min a.fresh 4097 = omega arith in
    let the_deep : min (1 + min a.deep 33) 33 ≡ min (1 + a.deep) 33 = omega arith in
    same_sums the_statements the_sites the_calls the_fresh the_deep

cap_call : (n : ℕ) (a : Sums) → capped (call_sums n (capped a)) ≡ capped (call_sums n a)
cap_call n a =
    let the_statements : min (n + min a.statements 4097) 4097 ≡ min (n + a.statements) 4097 = omega arith in
    let the_sites : min (min a.sites 1025) 1025 ≡ min a.sites 1025 = omega arith in
    let the_calls : min (1 + min a.calls 4097) 4097 ≡ min (1 + a.calls) 4097 = omega arith in
    let the_fresh : min (n + min a.fresh 4097) 4097 ≡ min (n + a.fresh) 4097 = omega arith in
    let the_deep : min (min a.deep 33) 33 ≡ min a.deep 33 = omega arith in
    same_sums the_statements the_sites the_calls the_fresh the_deep

cap_get : (table : List Sums) (q : ℕ)
    → or_nothing (slice_get (map capped table) q) ≡ capped (or_nothing (slice_get table q))
cap_get [] q = refl
cap_get (s ∷ table) zero = refl
cap_get (s ∷ table) (suc q) = cap_get table q

cap_cap : (s : Sums) → capped (capped s) ≡ capped s
cap_cap s =
    let the_statements : min (min s.statements 4097) 4097 ≡ min s.statements 4097 = omega arith in
    let the_sites : min (min s.sites 1025) 1025 ≡ min s.sites 1025 = omega arith in
    let the_calls : min (min s.calls 4097) 4097 ≡ min s.calls 4097 = omega arith in
    let the_fresh : min (min s.fresh 4097) 4097 ≡ min s.fresh 4097 = omega arith in
    let the_deep : min (min s.deep 33) 33 ≡ min s.deep 33 = omega arith in
    same_sums the_statements the_sites the_calls the_fresh the_deep

cap_at : (table : List Sums) (q : Option ℕ) → capped (sums_at (map capped table) q) ≡ capped (sums_at table q)
cap_at table None = refl
cap_at table (Some q) = ap capped (cap_get table q) ∙ cap_cap (or_nothing (slice_get table q))

-- two that are the same once stopped are the same in what is around them
around_same : (a b : Sums) → capped a ≡ capped b → capped (around a) ≡ capped (around b)
around_same a b e = sym (cap_around a) ∙ (ap (λ x. capped (around x)) e ∙ cap_around b)

both_same : (a b x y : Sums) → capped a ≡ capped b → capped x ≡ capped y → capped (both a x) ≡ capped (both b y)
both_same a b x y e f = sym (cap_both a x) ∙ ((λ i. capped (both (e i) (f i))) ∙ cap_both b y)

-- what the table says more than one past a limit makes no difference
mutual
  cap_statement : (ps : List Procedure) (table : List Sums) (s : StatementView)
      → capped (statement_sums ps (map capped table) s) ≡ capped (statement_sums ps table s)
  cap_statement ps table (Primitive p) = refl
  cap_statement ps table (If t a) =
      around_same (block_sums ps (map capped table) a) (block_sums ps table a) (cap_block ps table a)
  cap_statement ps table (IfElse t a b) =
      around_same (both (block_sums ps (map capped table) a) (block_sums ps (map capped table) b))
      (both (block_sums ps table a) (block_sums ps table b))
      (both_same (block_sums ps (map capped table) a) (block_sums ps table a) (block_sums ps (map capped table) b)
      (block_sums ps table b) (cap_block ps table a) (cap_block ps table b))
  cap_statement ps table (While t a) =
      around_same (block_sums ps (map capped table) a) (block_sums ps table a) (cap_block ps table a)
  cap_statement ps table (Atomic l a) =
      around_same (block_sums ps (map capped table) a) (block_sums ps table a) (cap_block ps table a)
  cap_statement ps table (Call f vs) = cap_at table (number_of ps f)

  cap_block : (ps : List Procedure) (table : List Sums) (b : BlockView)
      → capped (block_sums ps (map capped table) b) ≡ capped (block_sums ps table b)
  cap_block ps table End = refl
  cap_block ps table (Then s b) =
      both_same (statement_sums ps (map capped table) s) (statement_sums ps table s)
      (block_sums ps (map capped table) b) (block_sums ps table b) (cap_statement ps table s) (cap_block ps table b)

cap_procedure : (ps : List Procedure) (table : List Sums) (p : Procedure)
    → capped (procedure_sums ps (map capped table) p) ≡ capped (procedure_sums ps table p)
cap_procedure ps table p =
    let n : ℕ = length p.parameters + length p.locals in
    sym (cap_call n (block_sums ps (map capped table) p.body))
    ∙ (ap (λ x. capped (call_sums n x)) (cap_block ps table p.body) ∙ cap_call n (block_sums ps table p.body))

-- one round over these procedures
cap_all : (ps all : List Procedure) (table : List Sums)
    → map (λ (p : Procedure). capped (procedure_sums all (map capped table) p)) ps
    ≡ map capped (map (procedure_sums all table) ps)
cap_all [] all table = refl
cap_all (p ∷ ps) all table = λ i. cap_procedure all table p i ∷ cap_all ps all table i

pub one_round : (ps : List Procedure) (n : ℕ) (old next : List Sums) → old ≡ map capped (sums_within n ps)
    → next ≡ map (λ (p : Procedure). capped (procedure_sums ps old p)) ps → next ≡ map capped (sums_within (n + 1) ps)
one_round ps n old next e f =
    f ∙ (ap (λ (t : List Sums). map (λ (p : Procedure). capped (procedure_sums ps t p)) ps) e
    ∙ (cap_all ps ps (sums_within n ps) ∙ ap (λ m. map capped (sums_within m ps)) (next_number n)))
  where
    next_number : (m : ℕ) → suc m ≡ m + 1
    next_number m = omega arith
