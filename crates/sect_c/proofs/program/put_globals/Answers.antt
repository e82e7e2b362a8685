use Rattle.std.proofs.{Common.{◌≡◌, ◌<◌, ℕ, ◌++◌, length, get_or, sym, ap, ◌∙◌, subst, arith}}
use Rattle.std.proofs.lemmas.{List.Elements.{All-get_or}, Option.{get_or_from_slice_get}}
use Rattle.std.specs.String.{string_bytes}
use Rattle.sect_lemmas.proofs.Places.{at_of}
use Rattle.sect_emit.specs.Listing.{by_number}
use Rattle.sect_emit.proofs.shared.Numbered.{added_on, all_added}
use Rattle.sect_c.specs.Declarations.{global_line}
use Rattle.sect_c.proofs.program.put_globals.Goals as goal

pub overflow_cast-global : goal.overflow_cast-global
overflow_cast-global c =
    omega (arith, c.loop-global-test.true, ap length c.globals-globals.ensures, c.facts.ensures.limits.few_globals)

pub put_global_line-requires-clause-of : goal.put_global_line-requires-clause-of
put_global_line-requires-clause-of c =
    let p = c.args.program.now in
    let n = c.loop-global.global in
    subst (λ l. get_or l n 0 < length p.records) (sym c.globals-globals.ensures)
    (All-get_or (λ (r : ℕ). r < length p.records) p.globals n 0
    (omega (arith, c.loop-global-test.true, ap length c.globals-globals.ensures)) c.facts.ensures.records_there.of_globals)

pub loop-global-preserved : goal.loop-global-preserved
loop-global-preserved c =
    let p = c.args.program.now in
    let line = global_line p in
    let of = at_of p.globals c.loop-global.global (omega (arith, c.loop-global-test.true, ap length c.globals-globals.ensures)) in
    added_on line p.globals c.loop-global.global of.0 (string_bytes c.loop-global.text) (string_bytes c.put_global_line.new.text)
    (string_bytes c.args.text.now ++ by_number line 0 p.globals) of.1 (c.in_ok-put_global_line.ensures
    ∙ ap (λ (r : ℕ). string_bytes c.loop-global.text ++ line c.loop-global.global r)
    (ap (λ l. get_or l c.loop-global.global 0) c.globals-globals.ensures
    ∙ get_or_from_slice_get p.globals c.loop-global.global of.0 0 of.1)) c.loop-global.invariant

pub returns : goal.returns
returns c =
    let p = c.args.program.now in
    let line = global_line p in
    all_added line p.globals c.loop-global.global (string_bytes c.loop-global.text)
    (string_bytes c.args.text.now ++ by_number line 0 p.globals)
    (omega (arith, c.loop-global-test.false, c.loop-global.auto.global-end, ap length c.globals-globals.ensures))
    c.loop-global.invariant
