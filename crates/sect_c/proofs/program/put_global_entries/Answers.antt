use Rattle.std.proofs.Common.{◌≡◌, ◌++◌, length, ap, arith}
use Rattle.std.specs.String.{string_bytes}
use Rattle.sect_lemmas.proofs.Places.{at_of}
use Rattle.sect_emit.specs.Listing.{by_number}
use Rattle.sect_emit.proofs.shared.Numbered.{added_on, all_added}
use Rattle.sect_c.specs.Programs.{global_entry}
use Rattle.sect_c.proofs.program.put_global_entries.Goals as goal

pub overflow_cast-global : goal.overflow_cast-global
overflow_cast-global c =
    omega (arith, c.loop-global-test.true, ap length c.globals-globals.ensures, c.facts.ensures.limits.few_globals)

pub put_global_entry-requires : goal.put_global_entry-requires
put_global_entry-requires c = omega (arith, c.loop-global-test.true, ap length c.globals-globals.ensures)

pub loop-global-preserved : goal.loop-global-preserved
loop-global-preserved c =
    let p = c.args.program.now in
    let line = global_entry p.source in
    let of = at_of p.globals c.loop-global.global (omega (arith, c.loop-global-test.true, ap length c.globals-globals.ensures)) in
    added_on line p.globals c.loop-global.global of.0 (string_bytes c.loop-global.text) (string_bytes c.put_global_entry.new.text)
    (string_bytes c.args.text.now ++ by_number line 0 p.globals) of.1 (c.in_ok-put_global_entry.ensures of.0) c.loop-global.invariant

pub returns : goal.returns
returns c =
    let p = c.args.program.now in
    let line = global_entry p.source in
    all_added line p.globals c.loop-global.global (string_bytes c.loop-global.text)
    (string_bytes c.args.text.now ++ by_number line 0 p.globals)
    (omega (arith, c.loop-global-test.false, c.loop-global.auto.global-end, ap length c.globals-globals.ensures))
    c.loop-global.invariant
