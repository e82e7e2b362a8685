use Rattle.std.proofs.Common.{◌≡◌, false, sym, ap, ◌∙◌, subst, true≢false}
use Rattle.sect_modes.specs.Mode.{are_compatible}
use Rattle.sect_emit.specs.Plan.{object_mode}
use Rattle.sect_conflicts.specs.steps.Profiles.{AreSitesOfLock}
use Rattle.sect_conflicts.proofs.PathPairs.{may_be_one, not_added}
use Rattle.sect_conflicts.proofs.pairs.add_pair.Goals as goal

pub returns-else-share_site : goal.returns-else-share_site
returns-else-share_site c = λ s mine theirs.
    let p = c.in-Path.path in
    let q = c.in-Path-other.other_path in
    let e = c.in-Path.effect in
    let f = c.in-Path-other.other_effect in
    let sites = c.args.sites.now in
    let others = c.args.other_sites.now in
    let apart : are_compatible (object_mode e) (object_mode f) ≡ false = sym (c.compatible.ensures
    ∙ ap (λ m. are_compatible m c.object_mode-2.result) c.object_mode.ensures
    ∙ ap (are_compatible (object_mode e)) c.object_mode-2.ensures) ∙ c.if-compatible.false in
    let one = may_be_one s p q e f sites others (subst (λ l. AreSitesOfLock s l sites) c.in-Path.is mine)
    (subst (λ l. AreSitesOfLock s l others) c.in-Path-other.is theirs) in
    not_added s c.args.lock.now c.args.other.now p q e f c.in-Path.is c.in-Path-other.is apart c.args.found.now.items
    (λ may. true≢false (sym (c.share_site.ensures.1 (one.1 may)) ∙ c.if-share_site.false))
