use Rattle.std.proofs.Common.{◌∙◌, map, ap, subst}
use Rattle.std.proofs.lemmas.Result.{IfOk-weaker}
use Rattle.sect_lemmas.specs.Lists.{Has}
use Rattle.sect_conflicts.specs.Conflicts.{Selects}
use Rattle.sect_warnings.specs.{Apart.{pair_warning, firsts}, Warnings.{IsDue}}
use Rattle.sect_warnings.proofs.apart.of_pairs.Goals as goal

pub all_of_pairs-requires-clause-pairs : goal.all_of_pairs-requires-clause-pairs
all_of_pairs-requires-clause-pairs c = λ p h.
    c.in_ok-pairs.ensures.each p (subst (λ ps. Has ps p) c.as_slice.ensures.value h)

pub returns : goal.returns
returns c =
    let v = c.args.compiled.now in
    let all = c.in_ok-all.all.items in
    IfOk-weaker c.firsts.result _ _
    (λ list h. (
      c.in_ok-pairs.pairs.items,
      all,
      c.in_ok-pairs.ensures,
      subst (λ ps. Selects (IsDue v) (map (pair_warning v.scheme.program.source) ps) all) c.as_slice.ensures.value
          c.in_ok-all.ensures,
      h ∙ ap firsts c.as_slice-2.ensures.value,
    )) c.firsts.ensures
