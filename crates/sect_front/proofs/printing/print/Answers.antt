use Rattle.std.proofs.Common.{◌++◌, ◌∙◌, ap, sym}
use Rattle.std.specs.List.{list_all}
use Rattle.sect_front.specs.Spelling.{is_proper}
use Rattle.sect_front.specs.steps.Spread.{spread}
use Rattle.sect_front.proofs.{Printed.{IsPrinted, printed}, printing.print.Goals.{In_ok-put_tokens}}
use Rattle.sect_front.proofs.printing.print.Goals as goal

-- what is put there are the tree's tokens
put : (c : In_ok-put_tokens) → IsPrinted c.args.tree.now c.put_tokens.new.text.items
put c =
    let list = c.as_slice.ensures.value ∙ c.in_ok-tokens.ensures in
    printed c.args.tree.now c.put_tokens.new.text.items
    (c.in_ok-put_tokens.ensures.ok
    ∙ (ap (λ x. x ++ spread c.as_slice.result.now) c.new-text.ensures.items ∙ ap spread list))
    (ap (list_all is_proper) (sym list) ∙ c.in_ok-put_tokens.ensures.proper) c.is_empty.ensures.shallow

pub returns-clause-layout : goal.returns-clause-layout
returns-clause-layout c = (put (goal.at.returns-clause-layout c).In_ok-put_tokens).layout

pub returns-clause-spells : goal.returns-clause-spells
returns-clause-spells c = (put (goal.at.returns-clause-spells c).In_ok-put_tokens).spells

pub returns-clause-reads_back : goal.returns-clause-reads_back
returns-clause-reads_back c = (put (goal.at.returns-clause-reads_back c).In_ok-put_tokens).reads_back
