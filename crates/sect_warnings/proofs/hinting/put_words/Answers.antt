use Rattle.std.proofs.Common.{◌++◌, ◌∙◌, ap, codes}
use Rattle.std.specs.String.{string_bytes}
use Rattle.sect_warnings.proofs.Hints.{five_behind}
use Rattle.sect_warnings.proofs.hinting.put_words.Goals as goal

pub returns : goal.returns
returns c =
    let name = c.args.name.now in
    let guard = c.args.guard.now in
    c.in_ok-push_str-4.ensures.bytes ∙ ap (λ t. t ++ codes "`")
    (c.in_ok-push_str-3.ensures.bytes ∙ ap (λ t. t ++ guard)
    (c.in_ok-push_str-2.ensures.bytes ∙ ap (λ t. t ++ codes " protected_by ")
    (c.in_ok-write.ensures.bytes ∙ ap (λ t. t ++ name) c.in_ok-push_str.ensures.bytes)))
    ∙ five_behind (string_bytes c.args.text.now) (codes "; `record ") name (codes " protected_by ") guard (codes "`")
