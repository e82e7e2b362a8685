-- Summaries of procedures, and what is added to them.
use Rattle.std.proofs.Common.{◌≡◌, ℕ, ◌+◌, ◌≤◌, List, [], ◌∷◌, ◌++◌, Some, sym, ◌∙◌, ap, arith, map, length, max, drop}
use Rattle.std.proofs.{Common.{subst}, lemmas.List.{drop_all, append-nil, length-map}}
use Rattle.sect_front.specs.{declared.tree.Procedure.{Procedure}, declared.tree.Statement.{Statement}, Trees.{block_of}}
use Rattle.sect_types.specs.{declared.counting.sums.Sums.{Sums}, declared.counting.sums.Met.{Met}}
use Rattle.sect_types.specs.{declared.counting.sums.Summary.{Summary}, Sums.{both, sums_at, block_sums}}
use Rattle.sect_types.specs.steps.Capped.{capped, IsSmall}
use Rattle.sect_types.specs.steps.Summaries.{deeper, met_sums, summary_sums, HasMore, AreSummaries}
use Rattle.sect_types.proofs.Capping.{same_sums}

both_assoc : (a b c : Sums) → both (both a b) c ≡ both a (both b c)
both_assoc a b c =
    let the_statements : (a.statements + b.statements) + c.statements ≡ a.statements + (b.statements + c.statements) =
    omega arith in
    let the_sites : (a.sites + b.sites) + c.sites ≡ a.sites + (b.sites + c.sites) = omega arith in
    let the_calls : (a.calls + b.calls) + c.calls ≡ a.calls + (b.calls + c.calls) = omega arith in
    let the_fresh : (a.fresh + b.fresh) + c.fresh ≡ a.fresh + (b.fresh + c.fresh) = omega arith in
    let the_deep : max (max a.deep b.deep) c.deep ≡ max a.deep (max b.deep c.deep) = omega arith in
    same_sums the_statements the_sites the_calls the_fresh the_deep

-- one more call that was met
met_more : (table : List Sums) (ms : List Met) (m : Met)
    → met_sums table (ms ++ m ∷ []) ≡ both (met_sums table ms) (deeper m.depth (sums_at table (Some m.callee)))
met_more table [] m =
    let x : Sums = deeper m.depth (sums_at table (Some m.callee)) in
    let the_statements : x.statements + 0 ≡ 0 + x.statements = omega arith in
    let the_sites : x.sites + 0 ≡ 0 + x.sites = omega arith in
    let the_calls : x.calls + 0 ≡ 0 + x.calls = omega arith in
    let the_fresh : x.fresh + 0 ≡ 0 + x.fresh = omega arith in
    let the_deep : max x.deep 0 ≡ max 0 x.deep = omega arith in
    same_sums the_statements the_sites the_calls the_fresh the_deep
met_more table (k ∷ ms) m =
    ap (λ s. both (deeper k.depth (sums_at table (Some k.callee))) s) (met_more table ms m)
    ∙ sym (both_assoc (deeper k.depth (sums_at table (Some k.callee))) (met_sums table ms)
    (deeper m.depth (sums_at table (Some m.callee))))

pub one_call : (old new : Summary) (m : Met) → IsSmall old.own → new.own ≡ old.own
    → new.calls.items ≡ old.calls.items ++ m ∷ []
    → HasMore old new (λ table. deeper m.depth (sums_at table (Some m.callee)))
one_call old new m h e f = record {
  small = subst IsSmall (sym e) h;
  sums = λ table. ap capped ((λ i. both (e i) (met_sums table (f i)))
      ∙ (ap (λ s. both old.own s) (met_more table old.calls.items m)
      ∙ sym (both_assoc old.own (met_sums table old.calls.items) (deeper m.depth (sums_at table (Some m.callee))))));
}

-- the first i statements of a block were added
pub record AreAdded (ps : List Procedure) (ss : List Statement) (n : ℕ) (old : Summary) (i : ℕ) (new : Summary)
    : Type 0 where
  pub small : IsSmall new.own
  pub sums : (table : List Sums)
      → capped (both (summary_sums table new) (deeper n (block_sums ps table (block_of (drop i ss)))))
      ≡ capped (both (summary_sums table old) (deeper n (block_sums ps table (block_of ss))))

-- the first i calls come to this beside their own
pub record AreCounted (table : List Sums) (ms : List Met) (own : Sums) (i : ℕ) (s : Sums) : Type 0 where
  pub small : IsSmall s
  pub sums : capped (both s (met_sums table (drop i ms))) ≡ capped (both own (met_sums table ms))

-- once none is left, this is what was found of all procedures
pub all_summaries : (ps : List Procedure) (xs ys : List Sums) (i : ℕ) (g : Procedure → Sums) → length ps ≤ i
    → xs ++ map g (drop i ps) ≡ ys → xs ≡ ys
all_summaries ps xs ys i g le e =
    sym (append-nil xs) ∙ (ap (λ l. xs ++ map g l) (sym (drop_all i ps le)) ∙ e)

pub as_many_summaries : (ps : List Procedure) (ss : List Summary) → AreSummaries ps ss → length ss ≡ length ps
as_many_summaries ps ss h = simp length-map at (ap length (h.sums []))
