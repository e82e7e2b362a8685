use Rattle.std.proofs.Common.{◌++◌, ap, ◌∙◌, append_assoc}
use Rattle.std.specs.String.{string_bytes}
use Rattle.sect_lint.specs.Details.{place_text}
use Rattle.sect_lint.proofs.report.put_earlier.Goals as goal

pub returns : goal.returns
returns c =
    c.in_ok-put_place.ensures
    ∙ ap (λ l. l ++ place_text c.args.source.now c.args.at) c.in_ok-push_str.ensures.bytes
    ∙ append_assoc (string_bytes c.args.text.now) _ (place_text c.args.source.now c.args.at)
