use Rattle.std.proofs.Common.{◌∙◌}
use Rattle.sect_places.specs.NameUses.{name_uses}
use Rattle.sect_places.specs.steps.Wanting.{behind}
use Rattle.sect_places.proofs.Keeping.{all_gone_by}
use Rattle.sect_places.proofs.uses.kept_uses.Goals as goal

pub returns : goal.returns
returns c =
    all_gone_by c.args.tree.now c.records.result.now c.globals.result.now c.procedures.result.now c.threads.result.now
    c.records.ensures c.globals.ensures c.procedures.ensures c.threads.ensures _ _ _ _ _ _ _ _
    c.in_ok-globals.ensures.next c.in_ok-procedures.ensures.next c.in_ok-threads.ensures.next
    c.in_ok-globals.ensures.uses c.in_ok-procedures.ensures.uses c.in_ok-threads.ensures.uses
    c.in_ok-put_threads.ensures
    ∙ (λ i. behind (record {
      wish = c.args.wish;
      passed = 0;
      numbers = c.new.ensures.items i;
      uses = c.new-2.ensures.items i;
    }) (name_uses c.args.tree.now))
