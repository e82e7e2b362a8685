use Rattle.std.proofs.Common.{◌∙◌, ◌<◌, ◌++◌, ap, length, subst, sym}
use Rattle.std.proofs.lemmas.Result.{on_ok_weaker}
use Rattle.std.specs.String.{string_bytes}
use Rattle.sect_types.specs.Programs.{ProgramView}
use Rattle.sect_names.specs.Schemes.{SchemeView}
use Rattle.sect_emit.specs.Labels.{thread_name}
use Rattle.sect_legend.proofs.sections.put_thread.Goals as goal

pub put_thread_name-requires : goal.put_thread_name-requires
put_thread_name-requires c =
    subst (λ (p : ProgramView). c.thread_of-thread.result < length p.texts)
    (sym (c.program.ensures ∙ ap (λ (s : SchemeView). s.program) c.scheme.ensures)) c.thread_of-thread.ensures.within

pub returns : goal.returns
returns c =
    let old = string_bytes c.args.text.now in
    let v = c.args.compiled.now in
    on_ok_weaker c.put_thread_name.result
    (λ put. put ∙ (ap (λ (p : ProgramView). old ++ thread_name p.source c.thread_of-thread.result)
    (c.program.ensures ∙ ap (λ (s : SchemeView). s.program) c.scheme.ensures)
    ∙ ap (λ u. old ++ thread_name v.scheme.program.source u) c.thread_of-thread.ensures.thread))
    c.put_thread_name.ensures
