use Rattle.std.proofs.Common.{◌++◌, ◌∙◌, ap}
use Rattle.serde_json.specs.Written.{compact_text}
use Rattle.sect_types.specs.Programs.{ProgramView}
use Rattle.sect_names.specs.Schemes.{SchemeView}
use Rattle.sect_json.specs.Locks.{lock_json}
use Rattle.sect_json.proofs.Stepped.{step_written, tail_told}
use Rattle.sect_json.proofs.step_texts.put_step.Goals as goal

pub returns-clause-text : goal.returns-clause-text
returns-clause-text c =
    let v = c.args.of.compiled.now in
    let a = c.args.link.now in
    let program = c.program.ensures ∙ ap (λ (s : SchemeView). s.program) c.scheme.ensures in
    step_written v c.args.of.section a c.as_slice.result.now c.args.out.now.items c.extend_from_slice.new.self.items
    c.put.new.out.items c.extend_from_slice-2.new.self.items c.in_ok-extend_from_slice.ensures.items
    (c.in_ok-put.ensures.text
    ∙ ap (λ (p : ProgramView). c.extend_from_slice.new.self.items ++ compact_text (lock_json p.source a.lock)) program)
    c.in_ok-extend_from_slice-2.ensures.items
    (c.as_slice.ensures.value ∙ tail_told v c.args.of.section c.args.of.tails.now a.node c.index-of-link.result
    c.requires.stepped.tails c.requires.there)
