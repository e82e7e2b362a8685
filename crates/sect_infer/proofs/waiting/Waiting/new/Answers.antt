use Rattle.std.proofs.{Common.{◌++◌, arith, subst, sym, ap, ◌∙◌}, lemmas.List.{append-nil}}
use Rattle.std.specs.List.{range_with_len}
use Rattle.sect_lemmas.specs.Lists.{Has}
use Rattle.sect_infer.proofs.Queueing.{in_range}
use Rattle.sect_infer.proofs.waiting.Waiting.new.Goals as goal

pub returns : goal.returns
returns c = λ i.
    let range = range_with_len 0 c.args.exit in
    let all = ap (λ ks. range ++ ks) c.new.ensures.empty ∙ append-nil range in
    let is = in_range 0 c.args.exit i in (
      λ h. (let k = is.0 (subst (λ xs. Has xs i) all h) in let below = k.1 in omega (arith, below)),
      λ h. subst (λ xs. Has xs i) (sym all) (is.1 (omega arith, omega (arith, h))),
    )
