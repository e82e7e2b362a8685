use Rattle.std.proofs.Common.{◌≡◌, ◌≤◌, ◌+◌, ◌-◌, ◌++◌, ◌∙◌, OnOk, arith, length, sym, ap, subst}
use Rattle.std.specs.{Fmt.{decimal}, String.{string_bytes}}
use Rattle.sect_front.specs.Front.{line_of}
use Rattle.sect_places.proofs.shared.Bounds.{column_least, column_most}
use Rattle.sect_lint.specs.Excerpts.{excerpt_of, excerpt, line_text}
use Rattle.sect_lint.proofs.Clipping.{cut_alike}
use Rattle.sect_lint.proofs.excerpt.put_excerpt.Goals as goal

pub line_at-line-requires-clause-least : goal.line_at-line-requires-clause-least
line_at-line-requires-clause-least c =
    subst (λ n. 1 ≤ n) (sym c.requires.column) (column_least c.args.source.now c.args.span.start)

pub line_at-line-requires-clause-most : goal.line_at-line-requires-clause-most
line_at-line-requires-clause-most c =
    let within : c.args.span.start ≤ length c.args.source.now =
    omega (arith, c.requires.within.0, c.requires.within.1) in
    subst (λ n. n ≤ c.args.span.start + 1) (sym c.requires.column)
    (column_most c.args.source.now c.args.span.start within)

pub put_marked_line-requires : goal.put_marked_line-requires
put_marked_line-requires c =
    subst (λ n. 1 ≤ n) (sym c.requires.column) (column_least c.args.source.now c.args.span.start)

pub returns : goal.returns
returns c =
    let source = c.args.source.now in
    let span = c.args.span in
    let number = c.args.number.now in
    let count = span.end - span.start in
    let line = line_text source span.start in
    let least : 1 ≤ c.args.column = subst (λ n. 1 ≤ n) (sym c.requires.column) (column_least source span.start) in
    let is : excerpt_of number c.args.column c.line_at-line.result.now count ≡ excerpt source span =
    ap (λ l. excerpt_of number c.args.column l count) c.line_at-line.ensures
    ∙ cut_alike number c.args.column line count least
    ∙ ap (λ n. excerpt_of n c.args.column line count) c.requires.number
    ∙ ap (λ column. excerpt_of (decimal (line_of source span.start)) column line count) c.requires.column in
    subst (λ shown. OnOk c.put_marked_line.result (string_bytes c.put_marked_line.new.text
    ≡ string_bytes c.args.text.now ++ shown)) is c.put_marked_line.ensures
