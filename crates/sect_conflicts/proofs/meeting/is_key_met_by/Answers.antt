use Rattle.std.proofs.Common.{◌≡◌, ◌∙◌, sym, subst, true≢false}
use Rattle.sect_conflicts.specs.Taken.{AsksAgainst}
use Rattle.sect_conflicts.proofs.Profiling.{given_at}
use Rattle.sect_conflicts.proofs.meeting.is_key_met_by.Goals as goal

pub returns-then-not-is_of_other : goal.returns-then-not-is_of_other
returns-then-not-is_of_other c = (
  λ t. absurd (true≢false (sym t)),
  λ m. absurd (true≢false (sym (c.is_of_other.ensures.1 m.0) ∙ c.if-not-is_of_other.true)),
)

pub returns : goal.returns
returns c =
    let asks = c.asks_against.ensures in
    let here = given_at c.args.others.now.compiled.now.parts c.args.section c.part.result.now c.part.ensures in (
      λ t. (
        c.is_of_other.ensures.0 c.if-not-is_of_other.false,
        subst (AsksAgainst c.args.wish) (sym here) (asks.0 t),
      ),
      λ m. asks.1 (subst (AsksAgainst c.args.wish) here m.1),
    )
