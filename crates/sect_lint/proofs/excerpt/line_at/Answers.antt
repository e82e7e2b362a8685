use Rattle.std.proofs.Common.{◌∙◌, ◌+◌, ◌-◌, take, drop, length, ap, subst, sym, ◌≡◌}
use Rattle.std.specs.Prelude.{take_while}
use Rattle.sect_lint.specs.Excerpts.{in_line, most_shown, line_text}
use Rattle.sect_lint.proofs.Clipping.{line_near}
use Rattle.sect_lint.proofs.excerpt.line_at.Goals as goal

pub returns : goal.returns
returns c =
    let text = c.args.source.now in
    let at = c.args.at in
    let near = line_near text at c.requires.within in
    let count = c.line_length.ensures.is ∙ ap (λ l. length (take_while in_line l))
    (c.first_of.ensures ∙ ap (take (most_shown + 1)) c.split_at-2.ensures.back) in
    c.first_of-2.ensures ∙ ap (take (c.args.column - 1 + c.line_length.result)) c.split_at.ensures.back
    ∙ ap (λ n. take (c.args.column - 1 + n) (drop (at + 1 - c.args.column) text)) count
    ∙ subst (λ column. take (column - 1 + length (take_while in_line (take (most_shown + 1) (drop at text))))
    (drop (at + 1 - column) text) ≡ take (column + most_shown) (line_text text at)) (sym c.requires.column) near
