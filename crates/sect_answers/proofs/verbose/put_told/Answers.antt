use Rattle.std.proofs.Common.{◌++◌, ap, ◌∙◌, sym, subst}
use Rattle.std.proofs.lemmas.Result.{on_ok_weaker}
use Rattle.std.specs.String.{string_bytes}
use Rattle.sect_types.specs.Programs.{ProgramView}
use Rattle.sect_names.specs.Schemes.{SchemeView}
use Rattle.sect_conflicts.specs.Naming.{IsConflictNamed}
use Rattle.sect_answers.specs.Conflicting.{conflict_text}
use Rattle.sect_answers.proofs.verbose.put_told.Goals as goal

pub put_conflict-requires : goal.put_conflict-requires
put_conflict-requires c =
    subst (λ (p : ProgramView). IsConflictNamed p c.args.conflict.now)
    (sym (c.program.ensures ∙ ap (λ (s : SchemeView). s.program) c.scheme.ensures)) c.requires

pub returns : goal.returns
returns c =
    let old = string_bytes c.args.text.now in
    on_ok_weaker c.put_conflict.result
    (λ put. put ∙ ap (λ (p : ProgramView). old ++ conflict_text p c.args.conflict.now)
    (c.program.ensures ∙ ap (λ (s : SchemeView). s.program) c.scheme.ensures)) c.put_conflict.ensures
