use Rattle.std.proofs.{Common.{length, sym, subst}, lemmas.Result.{IfOk-weaker}}
use Rattle.sect_warnings.specs.Reports.{AreWithin}
use Rattle.sect_warnings.proofs.Filtered.{unnoted_within}
use Rattle.sect_warnings.proofs.format.placed_warnings.Goals as goal

pub returns-clause-told : goal.returns-clause-told
returns-clause-told c =
    IfOk-weaker c.unnoted.result _ _ (λ told is. (c.in_ok-all.all.items, c.in_ok-all.ensures.placed, is))
    c.unnoted.ensures

pub returns-clause-within : goal.returns-clause-within
returns-clause-within c =
    let source = c.args.source.now in
    let total = length source in
    IfOk-weaker c.unnoted.result _ _
    (λ told is. subst (AreWithin total) (sym is)
    (unnoted_within source total c.in_ok-all.all.items c.in_ok-all.ensures.within)) c.unnoted.ensures
