use Rattle.std.proofs.Common.{arith, ap, refl, length, ◌∙◌}
use Rattle.sect_types.specs.steps.Expanding.{thread_start}
use Rattle.sect_types.specs.Rules.{sight}
use Rattle.sect_types.proofs.{Fronts.{front_same, anew}, WrittenThreads.{thread_written}}
use Rattle.sect_types.proofs.expansion.expand.expand_thread.Goals as goal

pub returns-clause-text : goal.returns-clause-text
returns-clause-text c =
    thread_written c.args.setting.now c.args.sites.now c.args.sections.now c.len.result c.args.thread.now
    c.scope-scope.result _ c.expand_block.new.out c.len.ensures
    (c.scope-scope.ensures ∙ ap (sight c.args.setting.now.records c.args.setting.now.globals) c.as_slice-list.ensures)
    (front_same _ (thread_start c.args.sites.now c.args.sections.now c.args.thread.now) refl refl
    (omega (arith, ap length c.as_slice-list.ensures, ap length c.new.ensures.items)) refl c.new.ensures.items)
    (anew c.in_ok-text.text c.expand_block.new.out _ c.in_ok-text.ensures c.in_ok-expand_block.ensures.text)
