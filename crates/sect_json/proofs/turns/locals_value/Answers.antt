use Rattle.std.proofs.Common.{ap, ◌∙◌}
use Rattle.sect_types.specs.Programs.{ProgramView}
use Rattle.sect_names.specs.Schemes.{SchemeView}
use Rattle.sect_emit.specs.Compiled.{program_of}
use Rattle.sect_json.specs.Turns.{local_json}
use Rattle.sect_json.proofs.Rows.{range_more}
use Rattle.sect_json.proofs.turns.locals_value.Goals as goal

pub loop-local-preserved : goal.loop-local-preserved
loop-local-preserved c =
    let w = c.args.work.now in
    let u = c.args.thread in
    let program = c.program-program.ensures ∙ ap (λ (s : SchemeView). s.program) c.scheme.ensures in
    range_more (local_json (program_of c.args.compiled.now) w u) c.loop-local.local c.loop-local.values.items
    c.push.new.self.items c.in_ok-local_value.field-0 c.loop-local.invariant c.in_ok-push.ensures.items
    (c.in_ok-local_value.ensures ∙ ap (λ (p : ProgramView). local_json p w u c.loop-local.local) program)
