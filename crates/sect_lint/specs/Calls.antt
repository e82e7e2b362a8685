-- The calls of a text, and those that lead back.
use Rattle.std.specs.Prelude.{◌≡◌, ◌&&◌, ℕ, Bool, true, List, [], ◌∷◌, Option, map, nat_eq, option_map}
use Rattle.sect_lemmas.specs.Lists.{Has}
use Rattle.sect_places.specs.Declarations.{is_call, is_called, is_procedure, procedure_of}
use Rattle.sect_places.specs.declared.name_use.NameSpan.{NameSpan}
use Rattle.sect_lint.specs.{Naming.{found}, declared.diagnostic.Detail.{Detail}}
use Rattle.sect_lint.specs.declared.diagnostic.Detail.TheVariants as detail

-- the name is that of a procedure which is called in the thread or procedure that is this item
abbrev pub is_call_in : ℕ → NameSpan → Bool
is_call_in scope n = nat_eq n.used.scope scope && is_call n.used.role

-- the item in which a name stands, if one is found
abbrev pub item_of : Option NameSpan → Option ℕ
item_of named = option_map (λ n. n.used.item) named

-- the item of the procedure of a name
abbrev pub procedure_item : List NameSpan → List ℕ → Option ℕ
procedure_item names x = item_of (found names (procedure_of names x))

-- these calls lead from one procedure to another, both by the names that declare them: the first stands in the one,
-- each later one in a procedure that the call before it calls, and the last calls the other
abbrev pub Leads : List NameSpan → NameSpan → NameSpan → List NameSpan → Type 0
Leads names from to [] = from ≡ to
Leads names from to (x ∷ xs) = Has names x × (is_call_in from.used.item x ≡ true)
    × ((next : NameSpan) × Has names next × (is_called is_procedure x.used.name next ≡ true) × Leads names next to xs)

-- the calls begin with that of this item, and lead back to the procedure in which it stands
pub record IsCircle (names : List NameSpan) (item : ℕ) (calls : List NameSpan) : Type 0 where
  pub first : NameSpan
  pub others : List NameSpan
  pub are : calls ≡ first ∷ others
  pub stands : first.used.item ≡ item
  pub procedure : NameSpan
  pub leads : Leads names procedure procedure calls

-- of a call that leads back it is told which calls do
abbrev pub IsCircleTold : List NameSpan → ℕ → Detail → Type 0
IsCircleTold names item (detail.Circle spans) =
    (calls : List NameSpan) × IsCircle names item calls × (spans.items ≡ map (λ n. n.span) calls)
IsCircleTold names item told = told ≡ detail.Nothing
