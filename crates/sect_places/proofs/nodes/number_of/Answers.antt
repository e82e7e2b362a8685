use Rattle.std.proofs.Common.{◌≡◌, ◌<◌, List, ℕ, [], false, length, get_or, sym, ap, ◌∙◌, arith}
use Rattle.std.proofs.lemmas.List.{get_or-map, length-map}
use Rattle.std.specs.{Prelude.{nat_eq}, Cmp.Lexicographic.{pointwise}}
use borrow.Author.Count.{below_more}
use Rattle.sect_front.specs.declared.tree.Procedure.{Procedure}
use Rattle.sect_types.specs.Sums.{names_of_procedures}
use Rattle.sect_types.proofs.shared.Naming.{place_found, place_missing}
use Rattle.sect_places.proofs.nodes.number_of.Goals as goal

pub returns-then-eq-clause-number : goal.returns-then-eq-clause-number
returns-then-eq-clause-number c =
    let f : Procedure → List ℕ = λ (p : Procedure). p.name in
    let list = c.args.procedures.now in
    let names = names_of_procedures list in
    let i = c.loop-number.number in
    let here = get_or-map f list i c.index-procedures-number.result [] c.loop-number-test.true in
    let within : i < length names = omega (arith, length-map list f, c.loop-number-test.true) in
    place_found c.args.name.now names i within c.loop-number.invariant
    (ap (pointwise nat_eq c.args.name.now) here ∙ sym c.eq.ensures ∙ c.if-eq.true)

pub loop-number-preserved : goal.loop-number-preserved
loop-number-preserved c =
    let f : Procedure → List ℕ = λ (p : Procedure). p.name in
    let list = c.args.procedures.now in
    let names = names_of_procedures list in
    let i = c.loop-number.number in
    let here = get_or-map f list i c.index-procedures-number.result [] c.loop-number-test.true in
    below_more (λ k. pointwise nat_eq c.args.name.now (get_or names k []) ≡ false) i c.loop-number.invariant
    (ap (pointwise nat_eq c.args.name.now) here ∙ sym c.eq.ensures ∙ c.if-eq.false)

pub returns-clause-number : goal.returns-clause-number
returns-clause-number c =
    let f : Procedure → List ℕ = λ (p : Procedure). p.name in
    let list = c.args.procedures.now in
    place_missing c.args.name.now (names_of_procedures list) c.loop-number.number
    (omega (arith, length-map list f, c.loop-number-test.false, c.loop-number.auto.number-end))
    c.loop-number.invariant
