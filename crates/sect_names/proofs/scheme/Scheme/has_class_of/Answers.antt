use Rattle.std.proofs.Common.{◌≡◌, true≢false, sym, subst}
use Rattle.sect_lemmas.specs.Lists.{Has}
use Rattle.sect_names.specs.declared.lock.Lock.TheVariants as lock
use Rattle.sect_names.proofs.scheme.Scheme.has_class_of.Goals as goal

pub returns-in-Some : goal.returns-in-Some
returns-in-Some c = (
  λ t. (c.in-Some.class, (c.class_of.ensures c.in-Some.class).0 c.in-Some.is, c.has_class.ensures.0 t),
  λ h.
      let at = (c.class_of.ensures h.0).1 h.1 in
      let is = c.in-Some.is in
      let same : h.0 ≡ c.in-Some.class = cc in
      c.has_class.ensures.1 (h.2.0, h.2.1, subst (λ n. Has c.args.locks.now.keys (lock.Class n h.2.0)) same h.2.2),
)

pub returns-in-None : goal.returns-in-None
returns-in-None c = (
  λ t. absurd (true≢false (sym t)),
  λ h. let at = (c.class_of.ensures h.0).1 h.1 in
      let is = c.in-None.is in absurd cc,
)
