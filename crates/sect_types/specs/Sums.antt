-- What the expansion of a call comes to, found without expanding.
use Rattle.std.specs.Prelude.{◌≡◌, ℕ, zero, suc, ◌+◌, List, [], ◌∷◌, map, length, max, Option, Some, None, slice_get}
use Rattle.sect_lemmas.specs.Lists.{Has}
use Rattle.sect_types.specs.{Sight.{place}, declared.counting.sums.Sums.{Sums}}
use Rattle.sect_front.specs.declared.tree.Procedure.{Procedure}
use Rattle.sect_front.specs.Syntax.{StatementView, Primitive, If, IfElse, While, Atomic, Call, BlockView, End, Then}
use Rattle.sect_front.specs.declared.tree.Primitive as leaf
use Rattle.sect_front.specs.declared.tree.Primitive.TheVariants as primitive

abbrev pub nothing : Sums
nothing = record { statements = 0; sites = 0; calls = 0; fresh = 0; deep = 0 }

-- one after another
abbrev pub both : Sums → Sums → Sums
both a b = record {
  statements = a.statements + b.statements;
  sites = a.sites + b.sites;
  calls = a.calls + b.calls;
  fresh = a.fresh + b.fresh;
  deep = max a.deep b.deep;
}

-- a statement whose blocks come to this
abbrev pub around : Sums → Sums
around a = record {
  statements = 1 + a.statements;
  sites = a.sites;
  calls = a.calls;
  fresh = a.fresh;
  deep = 1 + a.deep;
}

abbrev pub primitive_sums : leaf.Primitive → Sums
primitive_sums (primitive.New x r) = record { statements = 1; sites = 1; calls = 0; fresh = 0; deep = 0 }
primitive_sums _ = record { statements = 1; sites = 0; calls = 0; fresh = 0; deep = 0 }

abbrev pub names_of_procedures : List Procedure → List (List ℕ)
names_of_procedures ps = map (λ (p : Procedure). p.name) ps

-- the first procedure of that name
abbrev pub number_of : List Procedure → List ℕ → Option ℕ
number_of ps f = place f (names_of_procedures ps)

abbrev pub or_nothing : Option Sums → Sums
or_nothing None = nothing
or_nothing (Some s) = s

abbrev pub sums_at : List Sums → Option ℕ → Sums
sums_at table None = nothing
sums_at table (Some q) = or_nothing (slice_get table q)

abbrev mutual
  -- of a statement, where the table has what each call comes to
  pub statement_sums : List Procedure → List Sums → StatementView → Sums
  statement_sums ps table (Primitive p) = primitive_sums p
  statement_sums ps table (If t a) = around (block_sums ps table a)
  statement_sums ps table (IfElse t a b) = around (both (block_sums ps table a) (block_sums ps table b))
  statement_sums ps table (While t a) = around (block_sums ps table a)
  statement_sums ps table (Atomic l a) = around (block_sums ps table a)
  statement_sums ps table (Call f vs) = sums_at table (number_of ps f)

  pub block_sums : List Procedure → List Sums → BlockView → Sums
  block_sums ps table End = nothing
  block_sums ps table (Then s b) = both (statement_sums ps table s) (block_sums ps table b)

-- a call: an assignment for each parameter and local, and the body
abbrev pub call_sums : ℕ → Sums → Sums
call_sums variables b =
    record {
      statements = variables + b.statements;
      sites = b.sites;
      calls = 1 + b.calls;
      fresh = variables + b.fresh;
      deep = b.deep;
    }

abbrev pub procedure_sums : List Procedure → List Sums → Procedure → Sums
procedure_sums ps table p = call_sums (length p.parameters + length p.locals) (block_sums ps table p.body)

-- of a call of that procedure, where there is one
abbrev pub sums_of : List Procedure → List Sums → Option Procedure → Sums
sums_of ps table None = nothing
sums_of ps table (Some p) = procedure_sums ps table p

-- of each procedure, where calls stand in one another at most n deep
abbrev pub sums_within : ℕ → List Procedure → List Sums
sums_within zero ps = []
sums_within (suc n) ps = map (procedure_sums ps (sums_within n ps)) ps

-- of each procedure: without recursion no chain of calls is longer than there are procedures
abbrev pub sums : List Procedure → List Sums
sums ps = sums_within (length ps) ps

abbrev pub prepend : Option ℕ → List ℕ → List ℕ
prepend None w = w
prepend (Some q) w = q ∷ w

abbrev mutual
  -- the procedures that a statement calls, before those of what follows
  pub statement_calls : List Procedure → StatementView → List ℕ → List ℕ
  statement_calls ps (Primitive p) w = w
  statement_calls ps (If t a) w = block_calls ps a w
  statement_calls ps (IfElse t a b) w = block_calls ps a (block_calls ps b w)
  statement_calls ps (While t a) w = block_calls ps a w
  statement_calls ps (Atomic l a) w = block_calls ps a w
  statement_calls ps (Call f vs) w = prepend (number_of ps f) w

  pub block_calls : List Procedure → BlockView → List ℕ → List ℕ
  block_calls ps End w = w
  block_calls ps (Then s b) w = statement_calls ps s (block_calls ps b w)

abbrev pub calls_in : List Procedure → Option Procedure → List ℕ
calls_in ps None = []
calls_in ps (Some p) = block_calls ps p.body []

-- calls lead from procedure q to procedure p by way of these: each is called by the one before it
abbrev pub IsWay : List Procedure → ℕ → List ℕ → ℕ → Type 0
IsWay ps q [] p = q ≡ p
IsWay ps q (r ∷ way) p = Has (calls_in ps (slice_get ps q)) r × IsWay ps r way p

-- q is p or reaches it by calls
abbrev pub Returns : List Procedure → ℕ → ℕ → Type 0
Returns ps p q = (way : List ℕ) × IsWay ps q way p
