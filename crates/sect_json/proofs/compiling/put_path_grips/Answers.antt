use Rattle.std.proofs.{Common.{◌++◌, take, map, ap, ◌∙◌, sym, subst, arith}, lemmas.List.{append_assoc, take_all}}
use Rattle.std.specs.List.{flat_map}
use Rattle.serde_json.specs.View.{view}
use Rattle.sect_lemmas.specs.Lists.{Has}
use Rattle.sect_lemmas.proofs.Membership.{Has-get_or}
use Rattle.sect_json.specs.Compiling.{path_grips_json}
use Rattle.sect_json.proofs.Calling.{flat_taken}
use Rattle.sect_json.proofs.compiling.put_path_grips.Goals as goal

pub put_path_grip-requires : goal.put_path_grip-requires
put_path_grip-requires c =
    let locks = c.args.locks.now in
    let x = c.lock-item.result in
    c.requires x
    (subst (Has locks) (sym c.lock-item.is) (Has-get_or locks c.loop-lock.lock-index x c.loop-lock-test.true))

pub loop-lock-preserved : goal.loop-lock-preserved
loop-lock-preserved c =
    let of = path_grips_json c.args.program.now in
    let locks = c.args.locks.now in
    let x = c.lock-item.result in
    let n = c.loop-lock.lock-index in
    let old = map view c.args.values.now.items in
    c.in_ok-put_path_grip.ensures
    ∙ (ap (λ ds. ds ++ of x) c.loop-lock.invariant
    ∙ (append_assoc old (flat_map of (take n locks)) (of x)
    ∙ ap (λ ds. old ++ ds) (sym (flat_taken of locks n x c.loop-lock-test.true c.lock-item.is))))

pub returns : goal.returns
returns c =
    c.loop-lock.invariant
    ∙ ap (λ locks. map view c.args.values.now.items ++ flat_map (path_grips_json c.args.program.now) locks)
    (take_all c.loop-lock.lock-index c.args.locks.now (omega (arith, c.loop-lock-test.false)))
