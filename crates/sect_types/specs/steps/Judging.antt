-- The first item that breaks a rule, found one item after another.
use Rattle.std.specs.Prelude.{◌≤◌, ℕ, Bool, List, [], ◌∷◌, Option, Some, None, if◌then◌else◌}
use Rattle.sect_types.specs.Limits.{most_statements, most_sites, most_sections, most_calls}
use Rattle.sect_types.specs.declared.rules.rule.Rule.{Rule}
use Rattle.sect_types.specs.declared.rules.rule.Rule.TheVariants.{Unknown, Twice, WrongType, SharedOutside, Nested}
use Rattle.sect_types.specs.{declared.rules.rule.Rule.TheVariants.{TooMany, Recursion, Arguments}, Items.{Item}}
use Rattle.sect_types.specs.Rules.{Declared, Counts, after, unknown, twice, mistyped, outside, nested, too_many}
use Rattle.sect_types.specs.Rules.{miscounted}
use Rattle.sect_types.specs.steps.Search.{recursive}

-- rule by rule
abbrev pub breaks : Declared → Counts → Item → Rule → Bool
breaks d c item Unknown = unknown d item
breaks d c item Twice = twice d item
breaks d c item WrongType = mistyped d item
breaks d c item SharedOutside = outside item
breaks d c item Nested = nested item
breaks d c item TooMany = too_many d c item
breaks d c item Recursion = recursive d item
breaks d c item Arguments = miscounted d item

abbrev pub least : (Rule → Bool) → Option Rule
least b =
    if b Unknown then Some Unknown else
    (if b Twice then Some Twice else
    (if b WrongType then Some WrongType else
    (if b SharedOutside then Some SharedOutside else
    (if b Nested then Some Nested else
    (if b TooMany then Some TooMany else
    (if b Recursion then Some Recursion else
    (if b Arguments then Some Arguments else None)))))))

-- the least rule that an item breaks
abbrev pub rule_of : Declared → Counts → Item → Option Rule
rule_of d c item = least (breaks d c item)

-- the first fault of a list of items
pub data Verdict : Type 0 where
  Fine : Counts → Verdict
  Faulty : ℕ → Rule → Verdict

abbrev pub fault_or : Option Rule → ℕ → Verdict → Verdict
fault_or None i rest = rest
fault_or (Some r) i rest = Faulty i r

abbrev pub judge : Declared → Counts → List Item → Verdict
judge d c [] = Fine c
judge d c (item ∷ more) = fault_or (rule_of d c item) c.items (judge d (after d c item) more)

-- what the counts may reach
pub record IsWithin (statements sites sections calls : ℕ) : Type 0 where
  pub few_statements : statements ≤ most_statements
  pub few_sites : sites ≤ most_sites
  pub few_sections : sections ≤ most_sections
  pub few_calls : calls ≤ most_calls
