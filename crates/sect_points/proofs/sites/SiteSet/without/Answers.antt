use Rattle.std.proofs.{Common.{◌<◌, ◌^◌, get_or, rules, arith, refl, inl, inr, subst, sym}, lemmas.Bool.{cases_eq}}
use Rattle.sect_points.proofs.SiteLaws.{none_mapped, mapped_more, without, without_sites}
use Rattle.sect_points.proofs.sites.SiteSet.without.Goals as goal

pub loop-i-init : goal.loop-i-init
loop-i-init c = record {
  mapped =
      none_mapped (without c.args.self.now.words c.args.other.now.words) c.args.self.now.words;
  small =
      λ k lt. absurd (omega arith);
}

pub loop-i-preserved : goal.loop-i-preserved
loop-i-preserved c =
    let l = c.loop-i in
    let others = c.args.other.now.words in
    let here : get_or others l.i 0 < 2 ^ 64 = search rules in
    record {
      mapped = mapped_more (without c.args.self.now.words others) l.i _ c.args.self.now.words l.rest.words
          l.invariant.mapped (omega arith) (rw (l.invariant.mapped.left l.i (omega arith)) refl);
      small = λ k lt. elim (cases_eq k l.i) [
        | inl is ↦ subst (λ n. get_or others n 0 < 2 ^ 64) (sym is) here
        | inr apart ↦
            l.invariant.small k (omega arith)
      ];
    }

pub returns : goal.returns
returns c = without_sites c.args.self.now.words c.args.other.now.words c.loop-i.rest.words c.loop-i.i
    c.loop-i.invariant.mapped (omega arith) (omega arith) (λ k lt. c.loop-i.invariant.small k (omega arith))
