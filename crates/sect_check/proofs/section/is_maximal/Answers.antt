use Rattle.std.proofs.Common.{List, sym, ◌∙◌, subst}
use Rattle.std.specs.Cmp.Lexicographic.{pointwise_decides}
use Rattle.sect_lemmas.specs.Lists.{Has}
use Rattle.sect_names.specs.{declared.lock.Lock.{Lock}, Order.{AreMaximal}}
use Rattle.sect_names.proofs.shared.Telling.{lock_tells}
use Rattle.sect_check.proofs.Entries.{kept_when}
use Rattle.sect_check.proofs.section.is_maximal.Goals as goal

pub returns : goal.returns
returns c =
    let s = c.args.scheme.now in
    let keys = c.args.set.now.keys in
    let kept = c.as_slice.result.now in
    let locks = c.args.locks.now in
    let tells = pointwise_decides lock_tells kept locks in
    let maximal = subst (λ (ls : List Lock). AreMaximal s (Has keys) ls) (sym c.as_slice.ensures.value)
    c.in_ok-maximal.ensures in
    let when = kept_when s keys kept locks maximal c.requires in
    (λ t. when.0 (tells.0 (sym c.eq.ensures ∙ t)), λ h. c.eq.ensures ∙ tells.1 (when.1 h))
