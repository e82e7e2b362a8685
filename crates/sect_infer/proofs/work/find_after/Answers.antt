use Rattle.std.proofs.{Common.{◌≡◌, ◌∙◌, List, ℕ, [], sym, subst}, lemmas.Result.{on_ok_weaker}}
use Rattle.std.specs.Prelude.{slice_index_or}
use Rattle.sect_lemmas.proofs.Places.{told_at, told_of}
use Rattle.sect_graph.specs.{declared.flow.Node.{Node}, declared.flow.Successors.TheVariants.{Next, Branch}}
use Rattle.sect_infer.specs.Numberings.{HasLock, AreNumbers, Finds}
use Rattle.sect_infer.proofs.shared.Extending.{extends_numbers, extends_back}
use Rattle.sect_infer.proofs.{Carrying.{CarriedOf}, Visiting.{carried_next_node, carried_branch}}
use Rattle.sect_infer.proofs.work.find_after.Goals as goal

pub carry-requires-clause-numbers : goal.carry-requires-clause-numbers
carry-requires-clause-numbers c =
    subst (AreNumbers c.args.solution.now.numbering.keys) (sym c.of.ensures)
    (c.requires.numbered.numbers c.in-Next.next)

pub carry-requires-clause-lawful : goal.carry-requires-clause-lawful
carry-requires-clause-lawful c =
    λ l h. c.requires.lawful c.in-Next.next l
    (subst (λ ns. HasLock c.args.solution.now.numbering.keys ns l) c.of.ensures h)

pub carry-requires-in-Branch-clause-numbers : goal.carry-requires-in-Branch-clause-numbers
carry-requires-in-Branch-clause-numbers c =
    subst (AreNumbers c.args.solution.now.numbering.keys) (sym c.of-in-Branch.ensures)
    (c.requires.numbered.numbers c.in-Branch.holds)

pub carry-requires-in-Branch-clause-lawful : goal.carry-requires-in-Branch-clause-lawful
carry-requires-in-Branch-clause-lawful c =
    λ l h. c.requires.lawful c.in-Branch.holds l
    (subst (λ ns. HasLock c.args.solution.now.numbering.keys ns l) c.of-in-Branch.ensures h)

pub carry-requires-in-Branch-2-clause-numbers : goal.carry-requires-in-Branch-2-clause-numbers
carry-requires-in-Branch-2-clause-numbers c =
    let a = c.args.solution.now.numbering in
    let b = c.carry-in-Branch.new.numbering in
    let numbers : List ℕ = slice_index_or c.args.solution.now.lists c.in-Branch.fails [] in
    subst (AreNumbers b.keys) (sym c.of-in-Branch-2.ensures)
    (extends_numbers a b c.in_ok-carry-in-Branch.ensures.longer numbers
    (c.requires.numbered.numbers c.in-Branch.fails))

pub carry-requires-in-Branch-2-clause-lawful : goal.carry-requires-in-Branch-2-clause-lawful
carry-requires-in-Branch-2-clause-lawful c = λ l h.
    let a = c.args.solution.now.numbering in
    let b = c.carry-in-Branch.new.numbering in
    let numbers : List ℕ = slice_index_or c.args.solution.now.lists c.in-Branch.fails [] in
    c.requires.lawful c.in-Branch.fails l
    (extends_back a b c.in_ok-carry-in-Branch.ensures.longer numbers (c.requires.numbered.numbers c.in-Branch.fails)
    l (subst (λ ns. HasLock b.keys ns l) c.of-in-Branch-2.ensures h))

pub returns-in-Next-clause-found : goal.returns-in-Next-clause-found
returns-in-Next-clause-found c =
    let s = c.args.section.scheme.now in
    let t = c.args.section.thread in
    let g = c.args.section.flow.now in
    let j = c.args.node in
    let lists = c.args.solution.now.lists in
    let a = c.args.solution.now.numbering in
    let ns = c.args.solution.now.found in
    let node = told_at (λ (y : Node). y.label) g j c.action-label.result c.action-label.ensures in
    let goes : node.0.next ≡ Next c.in-Next.next =
    told_of (λ (y : Node). y.next) g j c.succ.result c.succ.ensures node.0 node.1 ∙ c.in-Next.is in
    on_ok_weaker c.carry.result (λ f. carried_next_node s t g j node.0 node.1 lists a c.carry.new.numbering ns
    c.carry.new.found c.in-Next.next goes
    (subst (λ l. Finds s a ns c.carry.new.numbering c.carry.new.found
    (CarriedOf s t l a.keys (slice_index_or lists c.in-Next.next []))) (sym node.2)
    (subst (λ numbers. Finds s a ns c.carry.new.numbering c.carry.new.found
    (CarriedOf s t c.action-label.result a.keys numbers)) c.of.ensures f))) c.carry.ensures

pub returns-in_ok-carry-in-Branch-clause-found : goal.returns-in_ok-carry-in-Branch-clause-found
returns-in_ok-carry-in-Branch-clause-found c =
    let s = c.args.section.scheme.now in
    let t = c.args.section.thread in
    let g = c.args.section.flow.now in
    let j = c.args.node in
    let lists = c.args.solution.now.lists in
    let a = c.args.solution.now.numbering in
    let b = c.carry-in-Branch.new.numbering in
    let d = c.carry-in-Branch-2.new.numbering in
    let ns = c.args.solution.now.found in
    let ms = c.carry-in-Branch.new.found in
    let os = c.carry-in-Branch-2.new.found in
    let node = told_at (λ (y : Node). y.label) g j c.action-label.result c.action-label.ensures in
    let goes : node.0.next ≡ Branch c.in-Branch.holds c.in-Branch.fails =
    told_of (λ (y : Node). y.next) g j c.succ.result c.succ.ensures node.0 node.1 ∙ c.in-Branch.is in
    let holds : Finds s a ns b ms (CarriedOf s t node.0.label a.keys (slice_index_or lists c.in-Branch.holds [])) =
    subst (λ l. Finds s a ns b ms (CarriedOf s t l a.keys (slice_index_or lists c.in-Branch.holds []))) (sym node.2)
    (subst (λ numbers. Finds s a ns b ms (CarriedOf s t c.action-label.result a.keys numbers)) c.of-in-Branch.ensures
    c.in_ok-carry-in-Branch.ensures) in
    on_ok_weaker c.carry-in-Branch-2.result
    (λ f. carried_branch s t g j node.0 node.1 lists a b d ns ms os c.in-Branch.holds c.in-Branch.fails goes
    (c.requires.numbered.numbers c.in-Branch.fails) holds
    (subst (λ l. Finds s b ms d os (CarriedOf s t l b.keys (slice_index_or lists c.in-Branch.fails []))) (sym node.2)
    (subst (λ numbers. Finds s b ms d os (CarriedOf s t c.action-label.result b.keys numbers)) c.of-in-Branch-2.ensures
    f))) c.carry-in-Branch-2.ensures
