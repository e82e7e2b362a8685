use Rattle.std.proofs.Common.{◌≡◌, ◌-◌, ◌++◌, ◌∙◌, OnOk, ℕ, List, codes, length, ap, refl, subst}
use Rattle.std.proofs.lemmas.List.{append_assoc}
use Rattle.std.specs.String.{string_bytes}
use Rattle.sect_lint.specs.Excerpts.{blanks_under, excerpt_of, left_out, marked_line, numbered_line}
use Rattle.sect_lint.proofs.excerpt.put_marked_line.Goals as goal

-- four pieces behind one another
joined : (old a b k d : List ℕ) → old ++ a ++ b ++ k ++ d ≡ old ++ (a ++ b ++ k ++ d)
joined old a b k d =
    ap (λ t. t ++ d) (ap (λ t. t ++ k) (append_assoc old a b) ∙ append_assoc old (a ++ b) k)
    ∙ append_assoc old (a ++ b ++ k) d

-- a line and what stands under it, from the byte that is shown first
abbrev pieces : List ℕ → ℕ → List ℕ → ℕ → ℕ → List ℕ
pieces number column line count from =
    numbered_line number line from ++ blanks_under number ++ codes "| " ++ marked_line line from (column - 1) count

shown_so : (number : List ℕ) (column : ℕ) (line : List ℕ) (count : ℕ)
    → pieces number column line count (left_out (length line) (column - 1)) ≡ excerpt_of number column line count
unfolding excerpt_of
shown_so number column line count = refl

pub returns : goal.returns
returns c =
    let number = c.args.number.now in
    let line = c.args.line.now in
    let column = c.args.column in
    let count = c.args.count in
    let from = c.left_out-from.result in
    let old = string_bytes c.args.text.now in
    let marked = marked_line line from (column - 1) count in
    let before = c.in_ok-push_str.ensures.bytes
    ∙ ap (λ t. t ++ codes "| ") (c.in_ok-put_margin.ensures
    ∙ ap (λ t. t ++ blanks_under number) c.in_ok-put_numbered_line.ensures) in
    let all = joined old (numbered_line number line from) (blanks_under number) (codes "| ") marked
    ∙ ap (λ t. old ++ t) (ap (pieces number column line count) c.left_out-from.ensures.is
    ∙ shown_so number column line count) in
    subst (λ t. OnOk c.put_marked.result (string_bytes c.put_marked.new.text ≡ t)) all
    (subst (λ base. OnOk c.put_marked.result (string_bytes c.put_marked.new.text ≡ base ++ marked)) before
    c.put_marked.ensures)
