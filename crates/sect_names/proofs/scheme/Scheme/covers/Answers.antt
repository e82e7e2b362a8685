use Rattle.std.proofs.Common.{◌≡◌, sym, ◌∙◌, Some, rules, true≢false}
use Rattle.sect_names.proofs.shared.Telling.{path_tells}
use Rattle.sect_names.proofs.scheme.Scheme.covers.Goals as goal

pub returns-then-eq : goal.returns-then-eq
returns-then-eq c =
    let same = (path_tells c.in-Path.path c.in-Path-small.other).0 (sym c.eq.ensures ∙ c.if-eq.true) in
    rw (c.in-Path.is, c.in-Path-small.is) (λ t. (same, c.allows.ensures.0 t), λ h. c.allows.ensures.1 h.1)

pub returns-else-eq : goal.returns-else-eq
returns-else-eq c =
    rw (c.in-Path.is, c.in-Path-small.is) (
      λ t. absurd (true≢false (sym t ∙ c.if-eq.false)),
      λ h. c.eq.ensures
          ∙ (path_tells c.in-Path.path c.in-Path-small.other).1 h.0,
    )

pub returns-then-eq-2 : goal.returns-then-eq-2
returns-then-eq-2 c =
    let is : c.class_of.result ≡ Some c.in-Class.class = search rules in
    rw (c.in-Class.is, c.in-Path-small-2.is)
    (λ t. ((c.class_of.ensures c.in-Class.class).0 is, c.grants.ensures.0 t), λ h. c.grants.ensures.1 h.1)

pub returns-else-eq-2 : goal.returns-else-eq-2
returns-else-eq-2 c =
    rw (c.in-Class.is, c.in-Path-small-2.is) (
      λ t. absurd (true≢false (sym t ∙ c.if-eq-2.false)),
      λ h. let is =
          (c.class_of.ensures c.in-Class.class).1 h.0 in search rules,
    )
