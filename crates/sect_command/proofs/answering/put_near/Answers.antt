use Rattle.std.proofs.Common.{◌++◌, ◌∙◌, ap, append_assoc, codes}
use Rattle.std.specs.String.{string_bytes}
use Rattle.sect_command.proofs.answering.put_near.Goals as goal

pub returns : goal.returns
returns c =
    let old = string_bytes c.args.text.now in
    let near = c.args.near.now in
    let before = c.in_ok-push_str-2.ensures.bytes ∙ ap (λ l. l ++ near) c.in_ok-push_str.ensures.bytes in
    c.in_ok-push_str-3.ensures.bytes ∙ ap (λ l. l ++ codes "`?") before
    ∙ append_assoc (old ++ codes "did you mean `") near (codes "`?")
    ∙ append_assoc old (codes "did you mean `") (near ++ codes "`?")
