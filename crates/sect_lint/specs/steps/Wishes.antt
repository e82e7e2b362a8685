-- Which names tell of a mistake.
use Rattle.std.specs.{Prelude.{◌≡◌, ◌&&◌, ◌||◌, ◌⊎◌, ℕ, Bool, true, false, not, List, filter, nat_eq}, List.{list_all}}
use Rattle.std.specs.Cmp.Lexicographic.{pointwise}
use Rattle.sect_front.specs.TreeView.{TreeView}
use Rattle.sect_types.specs.declared.rules.rule.TypeFault.{TypeFault}
use Rattle.sect_places.specs.{declared.name_use.NameUse.{NameUse}, declared.name_use.Role.{Role}}
use Rattle.sect_places.specs.{declared.wish.Wish.{Wish}, Declarations.{is_declaration}, NameUses.{name_uses}}
use Rattle.sect_types.specs.declared.rules.rule.TypeFault.TheVariants as types
use Rattle.sect_places.specs.declared.name_use.Role.TheVariants as role
use Rattle.sect_places.specs.declared.wish.Wish.TheVariants as wish

-- it stands behind a dot
abbrev pub is_member : Role → Bool
is_member role.Field = true
is_member _ = false

-- it is declared, or is this name and no field's
abbrev pub is_settled : List ℕ → NameUse → Bool
is_settled x u = is_declaration u.role || (not (is_member u.role) && pointwise nat_eq x u.name)

-- all names of an item are
abbrev pub IsSettled : TreeView → ℕ → List ℕ → Type 0
IsSettled tree item x = list_all (is_settled x) (filter (λ u. nat_eq u.item item) (name_uses tree)) ≡ true

-- of an item with one name alone that isn't declared there those of that name tell, and of any other those that matter
abbrev pub IsKnownBy : TreeView → ℕ → Wish → Type 0
IsKnownBy tree item which =
    (which ≡ wish.Mattering item) ⊎ ((x : List ℕ) × IsSettled tree item x × (which ≡ wish.Known item x))

-- of an item that declares a name again those that are declared up to there tell, of one that calls what leads back
-- those of procedures
abbrev pub IsWish : TreeView → ℕ → TypeFault → Wish → Type 0
IsWish tree item (types.Unknown n) which = IsKnownBy tree item which
IsWish tree item (types.Twice n) which = which ≡ wish.Declared n
IsWish tree item (types.Recursion n) which = which ≡ wish.Procedures
IsWish tree item _ which = which ≡ wish.Mattering item
