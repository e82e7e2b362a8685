use Rattle.std.proofs.Common.{◌≡◌, ◌∙◌, ◌-◌, ◌++◌, [], set, length, take, drop, arith, sym, ap, subst}
use Rattle.std.specs.Prelude.{slice_index_or}
use Rattle.std.proofs.lemmas.Result.{IfOk-weaker}
use Rattle.sect_infer.specs.{Numbers.{with_numbers}, Numberings.{IsFinding, fresh_from}, steps.Working.{IsFreshPut}}
use Rattle.sect_infer.proofs.Visiting.{begun_finding, new_within, visit_is}
use Rattle.sect_infer.proofs.work.visit.Goals.{After-members-known, After-members}
use Rattle.sect_infer.proofs.work.visit.Goals as goal

-- the search begins with the numbers that the node had
starts : (c : After-members-known)
    → c.insert_all.new.self ≡ with_numbers [] (slice_index_or c.args.solution.now.lists c.args.node [])
starts c = c.in_ok-insert_all.ensures ∙ ap (λ ns. with_numbers ns c.of.result.now) c.clear.ensures
    ∙ ap (with_numbers []) c.of.ensures

-- the lists are still those of before
lists_stay : (c : After-members) → c.find_own.new.solution.lists ≡ c.args.solution.now.lists
lists_stay c = c.in_ok-find_own.ensures.lists ∙ c.in_ok-find_after.ensures.lists

pub find_after-requires-clause-finding : goal.find_after-requires-clause-finding
find_after-requires-clause-finding c =
    let a = c.args.solution.now.numbering in
    subst (IsFinding c.args.section.scheme.now a)
    (sym (starts (goal.at.find_after-requires-clause-finding c).After-members-known))
    (begun_finding c.args.section.scheme.now c.args.section.thread c.args.section.flow.now c.args.node a a a
    c.args.solution.now.lists [] [] c.requires.numbered)

pub put_fresh-requires-clause-numbers : goal.put_fresh-requires-clause-numbers
put_fresh-requires-clause-numbers c =
    new_within _ _ _ _ _ _ _ _ _ _ c.requires.numbered _ _ _
    (starts (goal.at.put_fresh-requires-clause-numbers c).After-members-known) c.members.ensures
    c.members-known.ensures c.in_ok-find_after.ensures.found c.in_ok-find_own.ensures.found

pub put_fresh-requires-clause-node : goal.put_fresh-requires-clause-node
put_fresh-requires-clause-node c = omega (
  arith,
  c.requires.node,
  c.requires.numbered.count,
  ap length (lists_stay (goal.at.put_fresh-requires-clause-node c).After-members),
)

pub returns : goal.returns
returns c =
    let j = c.args.node in
    let lists = c.args.solution.now.lists in
    let mid = c.find_own.new.solution.lists in
    let stay = lists_stay (goal.at.returns c).After-members in
    let found = c.members.result.now in
    let known = length c.members-known.result.now in
    let fresh = fresh_from c.find_own.new.solution.numbering.above c.find_own.new.solution.found
    (take (length found - known) (drop known found)) in
    IfOk-weaker c.put_fresh.result (IsFreshPut mid c.put_fresh.new.lists j fresh) _
    (λ any put. visit_is _ _ _ _ _ _ _ _ _ _ c.requires.numbered _ _ _
    (starts (goal.at.returns c).After-members-known)
    c.members.ensures c.members-known.ensures c.in_ok-find_after.ensures.found c.in_ok-find_own.ensures.found
    (omega (arith, c.requires.node, c.requires.numbered.count)) c.put_fresh.new.lists any
    (put.changed ∙ ap (λ ls. set ls j (slice_index_or ls j [] ++ fresh)) stay) put.none put.some)
    c.put_fresh.ensures
