use Rattle.std.proofs.{Common.{◌<◌, ◌≤◌, [], length, get_or, arith}, lemmas.List.{get_or_default}}
use Rattle.sect_lemmas.proofs.Membership.{Has-get_or}
use Rattle.sect_infer.proofs.shared.Extending.{extends_numbers, extends_back}
use Rattle.sect_infer.proofs.Carrying.{CarriedOf, finds_none, carried_next, carried_done}
use Rattle.sect_infer.proofs.carry.Transfer.carry_each.Goals as goal

pub carry_by-requires-clause-number : goal.carry_by-requires-clause-number
carry_by-requires-clause-number c =
    let numbers = c.args.numbers.now in
    let i = c.loop-number.number-index in
    extends_numbers c.args.numbering.now c.loop-number.numbering c.loop-number.invariant.longer numbers
    c.requires.numbers
    (get_or numbers i 0) (Has-get_or numbers i 0 (omega (arith, c.loop-number-test.true)))

pub carry_by-requires-clause-lawful : goal.carry_by-requires-clause-lawful
carry_by-requires-clause-lawful c = λ l at.
    let numbers = c.args.numbers.now in
    let i = c.loop-number.number-index in
    let there = Has-get_or numbers i 0 (omega (arith, c.loop-number-test.true)) in
    c.requires.lawful l (extends_back c.args.numbering.now c.loop-number.numbering c.loop-number.invariant.longer
    numbers
    c.requires.numbers l (get_or numbers i 0, there, at))

pub loop-number-init : goal.loop-number-init
loop-number-init c =
    let s = c.args.self.scheme.now in
    let a = c.args.numbering.now in
    finds_none s a c.args.found.now (CarriedOf s c.args.self.thread c.args.self.label.now a.keys [])
    c.requires.finding (λ r h. h.1.1)

pub loop-number-preserved : goal.loop-number-preserved
loop-number-preserved c =
    let numbers = c.args.numbers.now in
    let i = c.loop-number.number-index in
    let n = get_or numbers i 0 in
    let within : i < length numbers = omega (arith, c.loop-number-test.true) in
    let x = c.args.self in
    carried_next x.scheme.now x.thread x.label.now c.args.numbering.now c.loop-number.numbering
    c.carry_by.new.numbering c.args.found.now c.loop-number.found c.carry_by.new.found numbers i n
    within (get_or_default numbers i 0 n within) c.requires.numbers c.loop-number.invariant c.in_ok-carry_by.ensures

pub returns : goal.returns
returns c =
    let numbers = c.args.numbers.now in
    let past : length numbers ≤ c.loop-number.number-index = omega (arith, c.loop-number-test.false) in
    let x = c.args.self in
    carried_done x.scheme.now x.thread x.label.now c.args.numbering.now c.loop-number.numbering c.args.found.now
    c.loop-number.found numbers c.loop-number.number-index past c.loop-number.invariant
