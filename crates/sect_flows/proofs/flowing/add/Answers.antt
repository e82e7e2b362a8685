use Rattle.std.proofs.Common.{◌≡◌, ap}
use Rattle.sect_flows.specs.declared.point.LocalAt.{LocalAt}
use Rattle.sect_flows.proofs.Adding.{adds_one, adds_as}
use Rattle.sect_flows.proofs.flowing.add.Goals as goal

pub returns : goal.returns
returns c =
    let h : LocalAt = record { point = c.args.point; local = c.args.local } in
    adds_as (λ k. k ≡ h) (λ k. (k.point ≡ h.point) × (k.local ≡ h.local)) c.args.found.now.keys c.insert.new.self.keys
    (λ k. (
      λ e. (ap (λ (x : LocalAt). x.point) e, ap (λ (x : LocalAt). x.local) e),
      λ both. λ i. record { point = both.0 i; local = both.1 i },
    )) (adds_one c.args.found.now.keys c.insert.new.self.keys h c.in_ok-insert.ensures.keys)
