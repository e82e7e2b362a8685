use Rattle.std.proofs.Common.{rules, ◌≡◌, length, All, sym, ap, ◌∙◌, subst}
use Rattle.sect_places.specs.SectionItems.{section_items_of, IsAtomicItem}
use Rattle.sect_places.proofs.SectionItems.{as_many, all_atomic}
use Rattle.sect_places.proofs.sections.section_items.Goals as goal

pub returns-clause-many : goal.returns-clause-many
returns-clause-many c =
    let are : c.put_threads.new.found.items ≡ section_items_of c.args.program.now.source = search rules in
    ap length are ∙ as_many c.args.program.now.source ∙ ap length (sym c.tree-tree.ensures.numbers.lockings_are)
    ∙ c.facts.ensures.lockings

pub returns-clause-atomic : goal.returns-clause-atomic
returns-clause-atomic c =
    let are : c.put_threads.new.found.items ≡ section_items_of c.args.program.now.source = search rules in
    subst (All (IsAtomicItem c.args.program.now.source)) (sym are) (all_atomic c.args.program.now.source)
