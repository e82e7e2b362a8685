-- The parts at the start are the first world.
use Rattle.std.proofs.Common.{length, ap, ◌∙◌, subst, arith}
use Rattle.sect_types.specs.{Programs.{ProgramView}, Whole.{first_store}}
use Rattle.sect_names.specs.Schemes.{SchemeView}
use Rattle.sect_table.specs.{Contents.{IsEmptyFor}, Granted.{Granted}}
use Rattle.sect_world.proofs.Opening.{opens, opened}
use Rattle.sect_world.proofs.world.World.start.Goals as goal

pub invariant_of-result : goal.invariant_of-result
invariant_of-result c =
    let same = c.program-program.ensures ∙ ap (λ (s : SchemeView). s.program) c.scheme.ensures in
    let count = c.thread_count-threads.ensures.count ∙ ap (λ (p : ProgramView). length p.texts) same in
    let stored = c.in_ok-first.ensures ∙ ap first_store same in
    let empty = subst (λ n. IsEmptyFor n c.in_ok-with_threads.field-0) count c.in_ok-with_threads.ensures.empty in
    let e = c.in_ok-first_runners.ensures in
    let world = opens c.args.compiled.now c.args.fuel c.in_ok-first_runners.field-0.items c.in_ok-with_threads.field-0
    c.facts.ensures.compiled e.count e.first empty c.in_ok-with_threads.ensures.kept in
    let many = world.as_many_held in
    let grants = ap (λ (g : Granted). g.threads) c.in_ok-with_threads-2.ensures in (
      rw (c.new.ensures, c.new-2.ensures.items, c.new-3.ensures.items, stored) world,
      (
        omega (arith, many, count, grants),
        omega (arith, many, count, c.in_ok-with_capacity.ensures.capacity),
        omega (arith, many, count, c.in_ok-with_capacity-2.ensures.capacity),
      ),
      c.in_ok-with_capacity-2.ensures.items,
    )

pub returns : goal.returns
returns c =
    let same = c.program-program.ensures ∙ ap (λ (s : SchemeView). s.program) c.scheme.ensures in
    let count = c.thread_count-threads.ensures.count ∙ ap (λ (p : ProgramView). length p.texts) same in
    let stored = c.in_ok-first.ensures ∙ ap first_store same in
    let empty = subst (λ n. IsEmptyFor n c.in_ok-with_threads.field-0) count c.in_ok-with_threads.ensures.empty in
    let e = c.in_ok-first_runners.ensures in
    rw (c.new.ensures, c.new-2.ensures.items, c.new-3.ensures.items, stored, c.in_ok-with_capacity.ensures.items)
    (opened c.args.compiled.now c.args.fuel c.in_ok-first_runners.field-0.items c.in_ok-with_threads.field-0 e.count
    e.first empty)
