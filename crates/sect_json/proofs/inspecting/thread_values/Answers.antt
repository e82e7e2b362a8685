use Rattle.std.proofs.Common.{◌≡◌, length, map, ap, ◌∙◌, arith}
use Rattle.std.specs.List.{range_with_len}
use Rattle.sect_types.specs.Programs.{ProgramView}
use Rattle.sect_names.specs.Schemes.{SchemeView}
use Rattle.sect_json.specs.Inspecting.{thread_json}
use Rattle.sect_json.proofs.Rows.{range_more}
use Rattle.sect_json.proofs.inspecting.thread_values.Goals as goal

pub loop-thread-preserved : goal.loop-thread-preserved
loop-thread-preserved c =
    let of = c.args.of.now in
    range_more (thread_json of.compiled.now of.source.now of.spans.now of.names.now) c.loop-thread.thread
    c.loop-thread.values.items c.push.new.self.items c.in_ok-thread_value.field-0 c.loop-thread.invariant
    c.in_ok-push.ensures.items
    c.in_ok-thread_value.ensures

pub returns : goal.returns
returns c =
    let of = c.args.of.now in
    let v = of.compiled.now in
    let program = c.program.ensures ∙ ap (λ (s : SchemeView). s.program) c.scheme.ensures in
    let count = c.thread_count-thread-end.ensures.count ∙ ap (λ (p : ProgramView). length p.texts) program in
    let all : c.loop-thread.thread ≡ length v.scheme.program.texts =
    omega (arith, c.loop-thread-test.false, c.loop-thread.auto.thread-end, count) in
    c.loop-thread.invariant
    ∙ ap (λ n. map (thread_json v of.source.now of.spans.now of.names.now) (range_with_len 0 n)) all
