use Rattle.std.proofs.{Common.{◌++◌, ◌∙◌, ap, take, drop, codes}, lemmas.List.{take_rest}}
use Rattle.sect_warnings.proofs.hinting.hinted.Goals as goal

pub returns : goal.returns
returns c =
    let source = c.args.source.now in
    let at = c.args.named.now.span.end in
    c.in_ok-extend_from_slice-4.ensures.items
    ∙ ap (λ d. c.extend_from_slice-3.new.self.items ++ d) (take_rest source at)
    ∙ ap (λ t. t ++ drop at source)
    (c.in_ok-extend_from_slice-3.ensures.items ∙ ap (λ t. t ++ c.as_bytes.result.now)
    (c.in_ok-extend_from_slice-2.ensures.items ∙ ap (λ t. t ++ codes " protected_by ")
    (c.in_ok-extend_from_slice.ensures.items ∙ ap (λ t. t ++ take at source) c.new-text.ensures.items)))
    ∙ ap (λ g. take at source ++ codes " protected_by " ++ g ++ drop at source) c.as_bytes.ensures.value
