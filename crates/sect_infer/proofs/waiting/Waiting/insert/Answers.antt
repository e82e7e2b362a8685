use Rattle.std.proofs.Common.{◌↔◌, ◌⊎◌, inl, inr, ◌≡◌, ◌++◌, ℕ, subst, sym, arith}
use Rattle.std.specs.List.{range_with_len}
use Rattle.sect_lemmas.specs.Lists.{Has}
use Rattle.sect_lemmas.proofs.Membership.{Has-left}
use Rattle.sect_infer.proofs.{Queueing.{in_range, put_behind, put_node}, waiting.Waiting.insert.Goals.{In_ok-insert}}
use Rattle.sect_infer.proofs.waiting.Waiting.insert.Goals as goal

-- one node more is among the others
more : (c : In_ok-insert) → (i : ℕ)
    → Has c.insert.new.self.keys i ↔ (Has c.self.inside.others.keys i ⊎ (i ≡ c.args.node))
more c i = subst (λ ks. Has ks i ↔ (Has c.self.inside.others.keys i ⊎ (i ≡ c.args.node)))
    (sym c.in_ok-insert.ensures.keys) (put_node c.self.inside.others.keys c.args.node i)

pub invariant_of-self : goal.invariant_of-self
invariant_of-self c =
    let x = (goal.at.invariant_of-self c).In_ok-insert in
    record {
      ordered = c.in_ok-insert.ensures.ordered;
      from = λ i h. elim ((more x i).0 h) [
        | inl k ↦ c.self.invariant.from i k
        | inr e ↦ omega (arith, e, c.if-self-node.true)
      ];
    }

pub returns-in_ok-insert : goal.returns-in_ok-insert
returns-in_ok-insert c =
    let x = (goal.at.returns-in_ok-insert c).In_ok-insert in
    subst (λ xs. (i : ℕ) → Has (range_with_len 0 c.self.inside.below ++ c.insert.new.self.keys) i
    ↔ (Has xs i ⊎ (i ≡ c.args.node))) c.self.view_is
    (put_behind c.self.inside.below c.args.node c.self.inside.others.keys c.insert.new.self.keys (more x))

pub returns-else-self-node : goal.returns-else-self-node
returns-else-self-node c = λ i. (
  λ h. inl h,
  λ h. elim h [
    | inl k ↦ k
    | inr e ↦
        let there = (in_range 0 c.self.inside.below i).1 (omega arith, omega (arith, e, c.if-self-node.false)) in
        subst (λ xs. Has xs i) c.self.view_is
        (Has-left (range_with_len 0 c.self.inside.below) c.self.inside.others.keys i there)
  ],
)
