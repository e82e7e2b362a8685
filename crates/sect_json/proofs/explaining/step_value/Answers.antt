use Rattle.std.proofs.{Common.{◌≡◌, ◌++◌, ap, sym, subst, ◌∙◌}, lemmas.Result.{IfOk-weaker}}
use Rattle.std.specs.String.{string_bytes}
use Rattle.sect_types.specs.Programs.{ProgramView}
use Rattle.sect_names.specs.{Schemes.{SchemeView}, Printing.{IsNamed}}
use Rattle.sect_emit.specs.Explaining.{section_deed}
use Rattle.sect_json.specs.{Locks.{lock_json}, Explaining.{step_with}}
use Rattle.sect_json.proofs.explaining.step_value.Goals as goal

pub lock_value-requires : goal.lock_value-requires
lock_value-requires c =
    subst (λ (p : ProgramView). IsNamed p c.args.link.now.lock)
    (sym (c.program.ensures ∙ ap (λ (s : SchemeView). s.program) c.scheme.ensures)) c.requires.named

pub returns : goal.returns
returns c =
    let v = c.args.compiled.now in
    let a = c.args.link.now in
    let program = c.program.ensures ∙ ap (λ (s : SchemeView). s.program) c.scheme.ensures in
    let deed = section_deed v c.args.section a.node in
    let lock = c.in_ok-lock.ensures ∙ ap (λ (p : ProgramView). lock_json p.source a.lock) program in
    let text : string_bytes c.put_section_node.new.text ≡ deed =
    c.in_ok-put_section_node.ensures ∙ ap (λ bs. bs ++ deed) c.new-text.ensures.bytes in
    IfOk-weaker c.told_step.result _ _
    (λ value h. h ∙ (ap (λ l. step_with l a.node (string_bytes c.put_section_node.new.text)) lock
    ∙ ap (λ t. step_with (lock_json v.scheme.program.source a.lock) a.node t) text)) c.told_step.ensures
