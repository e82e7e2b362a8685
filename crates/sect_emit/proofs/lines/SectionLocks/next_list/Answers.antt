use Rattle.std.proofs.Common.{◌-◌, ◌∙◌, refl, sym, ap, arith}
use Rattle.std.specs.Prelude.{slice_get}
use Rattle.sect_lemmas.proofs.Places.{at_of}
use Rattle.sect_emit.specs.Words.{list_words}
use Rattle.sect_emit.proofs.lines.SectionLocks.next_list.Goals as goal

pub returns-then-node-eq0 : goal.returns-then-node-eq0
returns-then-node-eq0 c = λ list at.
    let first = c.if-node-eq0.true in
    c.requires.before list (ap (slice_get c.args.self.locks.now.at) (omega (arith, first)) ∙ at)

pub returns-then-are_one : goal.returns-then-are_one
returns-then-are_one c = λ list at. c.requires.before list (sym (c.if-are_one.ensures refl) ∙ at)

pub put_in_place-requires-clause-known : goal.put_in_place-requires-clause-known
put_in_place-requires-clause-known c =
    let before = at_of c.args.self.locks.now.at (c.args.node - 1) (omega (arith, c.requires.there)) in
    let told = c.requires.before before.0 before.1 in
    told.0 ∙ ap (list_words c.args.self.program.now.source) (sym told.1)

pub put_in_place-requires-clause-good : goal.put_in_place-requires-clause-good
put_in_place-requires-clause-good c =
    let before = at_of c.args.self.locks.now.at (c.args.node - 1) (omega (arith, c.requires.there)) in
    (c.requires.before before.0 before.1).3
