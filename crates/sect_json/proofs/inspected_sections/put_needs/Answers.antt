use Rattle.std.proofs.{Common.{◌++◌, map, codes, append_assoc, sym, ap, ◌∙◌}, lemmas.Result.{on_ok_weaker}}
use Rattle.serde_json.specs.Written.{compact_text}
use Rattle.sect_json.specs.{Locks.{lock_json}, Values.{list}}
use Rattle.sect_json.proofs.Texts.{needs_begins}
use Rattle.sect_json.proofs.inspected_sections.put_needs.Goals as goal

pub returns-clause-text : goal.returns-clause-text
returns-clause-text c =
    let out = c.args.out.now.items in
    let locks = compact_text (list (map (lock_json c.args.program.now.source) c.args.needed.now)) in
    on_ok_weaker c.put_all.result (λ h. h ∙ (ap (λ r. r ++ locks) c.in_ok-extend_from_slice.ensures.items
    ∙ (append_assoc out (codes "{\"needs\":") locks ∙ ap (λ r. out ++ (r ++ locks)) (sym needs_begins))))
    c.put_all.ensures.text
