use Rattle.std.proofs.Common.{refl, ap, ◌∙◌}
use Rattle.sect_lint.specs.{Naming.{found, declared_at}, Limits.{item_limit}}
use Rattle.std.specs.Prelude.{position}
use Rattle.sect_places.specs.NameUses.{name_uses}
use Rattle.sect_lint.specs.steps.Plain.{is_declared_there, use_limit, opened_counts as opened_by}
use Rattle.sect_lint.proofs.Plainly.{own_limit, same_limit, limit_opened, counts_opened}
use Rattle.sect_lint.specs.declared.diagnostic.Detail.TheVariants as detail
use Rattle.sect_lint.proofs.plain.plain_detail.Goals as goal

pub returns-in_ok-uses-in-TooMany : goal.returns-in_ok-uses-in-TooMany
returns-in_ok-uses-in-TooMany c = λ _ tokens spans o names e. rw c.in-TooMany.is (
  ap detail.Limit (c.limit_in-limit.ensures
      ∙ (ap (λ us. use_limit us (position (is_declared_there c.in-TooMany.item) us) c.as_slice-tokens.result.now)
      (c.as_slice.ensures.value ∙ c.in_ok-uses-in-TooMany.ensures)
      ∙ own_limit c.in-TooMany.item (name_uses c.args.tree.now) c.as_slice-tokens.result.now
      ∙ same_limit names (name_uses c.args.tree.now) c.in-TooMany.item c.as_slice-tokens.result.now e
      ∙ (ap (λ ts. item_limit (found names (declared_at names c.in-TooMany.item)) ts)
      (c.as_slice-tokens.ensures.value ∙ o.first)
      ∙ limit_opened (found names (declared_at names c.in-TooMany.item)) tokens))),
  refl,
)

pub returns-in-Arguments : goal.returns-in-Arguments
returns-in-Arguments c = λ _ tokens spans o names e. rw c.in-Arguments.is (
  c.opened_counts.ensures
      ∙ ((λ j. opened_by (c.procedures.ensures j) (o.first j) (o.places j) (o.others j))
      ∙ counts_opened c.args.tree.now.procedures tokens spans),
  refl,
)
