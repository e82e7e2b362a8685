-- The names that matter to an item tell of it what all names do.
use Rattle.std.proofs.Common.{◌≡◌, ◌≤◌, ℕ, Bool, true, false, List, [], ◌∷◌, Option, Some, None, refl, sym, ap, ◌∙◌}
use Rattle.std.proofs.Common.{map, filter, inl, inr, subst, cond, true≢false, arith}
use Rattle.std.proofs.lemmas.Bool.{eqb-true, le-ltb, ltb-true, and_from, and_parts, or_left, or_right}
use Rattle.std.specs.Prelude.{◌||◌, ◌&&◌, not, nat_eq, nat_lt, position, find, is_some, option_map}
use Rattle.std.specs.{Option.{option_or, IfSome}, List.{list_all}, Cmp.Lexicographic.{pointwise}}
use Rattle.sect_lemmas.specs.Lists.{Has}
use Rattle.sect_lemmas.proofs.Firsts.{Finds, find_kept, position_finds, position_there, either_there}
use Rattle.sect_front.specs.TreeView.{TreeView}
use Rattle.sect_places.specs.{declared.name_use.NameUse.{NameUse}, declared.name_use.NameSpan.{NameSpan}}
use Rattle.sect_places.specs.{NameUses.{name_uses}, declared.name_use.Thing.{Thing}, declared.name_use.Role.{Role}}
use Rattle.sect_places.specs.Declarations.{is_declaration, is_record, is_field, is_global, is_procedure, is_thread}
use Rattle.sect_places.specs.Declarations.{is_local, is_type, is_base, is_called, is_called_in, does_in, record_of}
use Rattle.sect_places.specs.Declarations.{procedure_of, field_of, variable_of, type_in, base_in}
use Rattle.sect_places.specs.{Mattering.{matters, matters_to_all, is_wanted, wanted}, declared.wish.Wish.{Wish}}
use Rattle.sect_lint.specs.Naming.{found, name_of, type_of, variable, base_by, type_by, base_type, field_by, field_in}
use Rattle.sect_lint.specs.Naming.{member_by, member_of, knows_field, knows, is_unknown_in, unknown_name, clashes}
use Rattle.sect_lint.specs.Naming.{clashes_by, is_earlier, is_declared_in, declared_at, earlier_of, earlier_name}
use Rattle.sect_lint.specs.steps.Wishes.{is_member, is_settled, IsSettled}
use Rattle.sect_lint.proofs.Circling.{filter_has}
use Rattle.sect_places.specs.declared.name_use.Thing.TheVariants as thing
use Rattle.sect_places.specs.declared.name_use.Role.TheVariants as role
use Rattle.sect_places.specs.declared.wish.Wish.TheVariants as wish

-- what does that declares
abbrev DeclaresWhere : (Role → Bool) → Type 0
DeclaresWhere does = (r : Role) → does r ≡ true → is_declaration r ≡ true

record_declares : DeclaresWhere is_record
record_declares (role.Declared what) e = refl
record_declares _ e = absurd (true≢false (sym e))

field_declares : DeclaresWhere is_field
field_declares (role.Declared what) e = refl
field_declares _ e = absurd (true≢false (sym e))

global_declares : DeclaresWhere is_global
global_declares (role.Declared what) e = refl
global_declares _ e = absurd (true≢false (sym e))

procedure_declares : DeclaresWhere is_procedure
procedure_declares (role.Declared what) e = refl
procedure_declares _ e = absurd (true≢false (sym e))

thread_declares : DeclaresWhere is_thread
thread_declares (role.Declared what) e = refl
thread_declares _ e = absurd (true≢false (sym e))

local_declares : DeclaresWhere is_local
local_declares (role.Declared what) e = refl
local_declares _ e = absurd (true≢false (sym e))

local_clash : (r : Role) (here : Bool) → ((here && is_local r) || is_global r) ≡ true → is_declaration r ≡ true
local_clash r true e = by (is_local r) refl e
  where
    by : (b : Bool) → is_local r ≡ b → (b || is_global r) ≡ true → is_declaration r ≡ true
    by true is e = local_declares r is
    by false is e = global_declares r e
local_clash r false e = global_declares r e

clash_declares : (what : Thing) (r : Role) (here : Bool) → clashes what r here ≡ true → is_declaration r ≡ true
clash_declares thing.Record r here e = record_declares r e
clash_declares thing.Field r here e = field_declares r (and_parts here (is_field r) e).1
clash_declares thing.Global r here e = global_declares r e
clash_declares thing.Procedure r here e = procedure_declares r e
clash_declares thing.Thread r here e = thread_declares r e
clash_declares thing.Local r here e = local_clash r here e

earlier_declares : (d r : Role) (here : Bool) → clashes_by d r here ≡ true → is_declaration r ≡ true
earlier_declares (role.Declared what) r here e = clash_declares what r here e
earlier_declares _ r here e = absurd (true≢false (sym e))

-- what a name does then matters to all items
abbrev MattersWhere : (Role → Bool) → Type 0
MattersWhere does = (r : Role) → does r ≡ true → matters_to_all r ≡ true

declaration_matters : MattersWhere is_declaration
declaration_matters (role.Declared what) e = refl
declaration_matters _ e = absurd (true≢false (sym e))

type_matters : MattersWhere is_type
type_matters role.Type e = refl
type_matters _ e = absurd (true≢false (sym e))

-- the name of the first place is the first of the names
found_first : (p : NameSpan → Bool) (names : List NameSpan) → found names (position p names) ≡ find p names
found_first p names = by (position p names) (position_finds p names)
  where
    by : (o : Option ℕ) → Finds p names o → found names o ≡ find p names
    by None e = sym e
    by (Some i) h = h.2 ∙ sym h.1

-- what is found passes the test
find_passes : (p : NameSpan → Bool) (names : List NameSpan)
    → IfSome (find p names) (λ (n : NameSpan). p n ≡ true)
find_passes p [] = tt
find_passes p (x ∷ names) = by (p x) refl (find_passes p names)
  where
    by : (b : Bool) → p x ≡ b → IfSome (find p names) (λ (n : NameSpan). p n ≡ true)
        → IfSome (cond b (Some x) (find p names)) (λ (n : NameSpan). p n ≡ true)
    by true e later = e
    by false e later = later

-- and so where the second is looked for only if there is no first
found_either : (p q : NameSpan → Bool) (names : List NameSpan)
    → found names (option_or (position p names) (position q names)) ≡ option_or (find p names) (find q names)
found_either p q names = by (position p names) (position_finds p names)
  where
    by : (o : Option ℕ) → Finds p names o
        → found names (option_or o (position q names)) ≡ option_or (find p names) (find q names)
    by None e = found_first q names ∙ ap (λ r. option_or r (find q names)) (sym e)
    by (Some i) h = h.2 ∙ ap (λ r. option_or r (find q names)) (sym h.1)

-- what passes the test is wanted
abbrev IsForWish : Wish → (NameSpan → Bool) → Type 0
IsForWish which p = (n : NameSpan) → p n ≡ true → is_wanted which n.used.item n.used.role n.used.name ≡ true

module _ (which : Wish) (names some : List NameSpan) (are : some ≡ wanted which names) where
  find_same : (p : NameSpan → Bool) → IsForWish which p → find p some ≡ find p names
  find_same p mind = ap (find p) are ∙ find_kept p (λ n. is_wanted which n.used.item n.used.role n.used.name) mind names

  pub found_same : (p : NameSpan → Bool) → IsForWish which p
      → found some (position p some) ≡ found names (position p names)
  found_same p mind = found_first p some ∙ find_same p mind ∙ sym (found_first p names)

  there_same : (p : NameSpan → Bool) → IsForWish which p → is_some (position p some) ≡ is_some (position p names)
  there_same p mind = position_there p some ∙ ap is_some (find_same p mind) ∙ sym (position_there p names)

-- the name that an item declares again is found among those that are declared up to there
module _ (item : ℕ) (names some : List NameSpan) (are : some ≡ wanted (wish.Declared item) names) where
  declared_up : (n : NameSpan) → n.used.item ≤ item → is_declaration n.used.role ≡ true
      → is_wanted (wish.Declared item) n.used.item n.used.role n.used.name ≡ true
  declared_up n le e = and_from (not (nat_lt item n.used.item)) (is_declaration n.used.role)
      (ap not (le-ltb item n.used.item le)) e

  declared_here : IsForWish (wish.Declared item) (is_declared_in item)
  declared_here n e =
      let parts = and_parts (nat_eq n.used.item item) (is_declaration n.used.role) e in
      declared_up n (omega (arith, eqb-true n.used.item item parts.0)) parts.1

  declared_before : (d : NameSpan) → d.used.item ≡ item → IsForWish (wish.Declared item) (is_earlier d)
  declared_before d at n e =
      let parts = and_parts (nat_lt n.used.item d.used.item) _ e in
      declared_up n (omega (arith, at, ltb-true n.used.item d.used.item parts.0))
      (earlier_declares d.used.role n.used.role (nat_eq n.used.scope d.used.scope) (and_parts _ _ parts.1).1)

  earlier_of_same : (d : Option NameSpan) → IfSome d (λ (n : NameSpan). is_declared_in item n ≡ true)
      → earlier_of some d ≡ earlier_of names d
  earlier_of_same None h = refl
  earlier_of_same (Some d) h =
      found_same (wish.Declared item) names some are (is_earlier d)
      (declared_before d (eqb-true d.used.item item (and_parts (nat_eq d.used.item item) _ h).0))

  pub earlier_same : earlier_name some item ≡ earlier_name names item
  earlier_same =
      let p : NameSpan → Bool = is_declared_in item in
      ap (earlier_of some) (found_same (wish.Declared item) names some are p declared_here)
      ∙ earlier_of_same (found names (declared_at names item))
      (subst (λ o. IfSome o (λ (n : NameSpan). p n ≡ true)) (sym (found_first p names)) (find_passes p names))

same_name : (x y : List ℕ) → pointwise nat_eq x y ≡ true → y ≡ x
same_name [] [] e = refl
same_name [] (b ∷ y) e = absurd (true≢false (sym e))
same_name (a ∷ x) [] e = absurd (true≢false (sym e))
same_name (a ∷ x) (b ∷ y) e =
    let parts = and_parts (nat_eq a b) (pointwise nat_eq x y) e in
    λ j. sym (eqb-true a b parts.0) j ∷ same_name x y parts.1 j

-- what all pass that are kept of some passes each of these
all_kept : {A B : Type 0} (f : A → B) (p q : B → Bool) (xs : List A) → list_all p (filter q (map f xs)) ≡ true
    → (x : A) → Has xs x → q (f x) ≡ true → p (f x) ≡ true
all_kept f p q [] h x k e = absurd k
all_kept {A} {B} f p q (y ∷ xs) h x k e = elim k [
  | inl same ↦ subst (λ z. p (f z) ≡ true) same
      (first (q (f y)) h (subst (λ z. q (f z) ≡ true) (sym same) e))
  | inr more ↦ all_kept f p q xs (others (q (f y)) h) x more e
]
  where
    first : (b : Bool) → list_all p (cond b (f y ∷ filter q (map f xs)) (filter q (map f xs))) ≡ true → b ≡ true
        → p (f y) ≡ true
    first true h e = (and_parts (p (f y)) (list_all p (filter q (map f xs))) h).0
    first false h e = absurd (true≢false (sym e))

    others : (b : Bool) → list_all p (cond b (f y ∷ filter q (map f xs)) (filter q (map f xs))) ≡ true
        → list_all p (filter q (map f xs)) ≡ true
    others true h = (and_parts (p (f y)) (list_all p (filter q (map f xs))) h).1
    others false h = h

pub settled_names : (tree : TreeView) (item : ℕ) (x : List ℕ) (names : List NameSpan)
    → map (λ (n : NameSpan). n.used) names ≡ name_uses tree → IsSettled tree item x
    → (n : NameSpan) → Has names n → nat_eq n.used.item item ≡ true → is_settled x n.used ≡ true
settled_names tree item x names uses settled =
    all_kept (λ (n : NameSpan). n.used) (is_settled x) (λ (u : NameUse). nat_eq u.item item) names
    (subst (λ us. list_all (is_settled x) (filter (λ (u : NameUse). nat_eq u.item item) us) ≡ true) (sym uses) settled)

-- the first that passes a test is that which passes another, where both agree on all
find_agree : (p q : NameSpan → Bool) (names : List NameSpan) → ((n : NameSpan) → Has names n → p n ≡ q n)
    → find p names ≡ find q names
find_agree p q [] h = refl
find_agree p q (n ∷ names) h =
    λ j. cond (h n (inl refl) j) (Some n) (find_agree p q names (λ m k. h m (inr k)) j)

-- an item's one name that isn't declared there is known or not by the declarations of that name
module _ (item : ℕ) (x : List ℕ) (names some : List NameSpan) (are : some ≡ wanted (wish.Known item x) names)
    (settled : (n : NameSpan) → Has names n → nat_eq n.used.item item ≡ true → is_settled x n.used ≡ true) where
  called_known : (does : Role → Bool) → DeclaresWhere does → (y : List ℕ) → y ≡ x
      → IsForWish (wish.Known item x) (is_called does y)
  called_known does declares y same n e =
      let parts = and_parts (does n.used.role) (pointwise nat_eq y n.used.name) e in
      or_right (nat_eq n.used.item item) (is_declaration n.used.role && pointwise nat_eq x n.used.name)
      (and_from (is_declaration n.used.role) (pointwise nat_eq x n.used.name) (declares n.used.role parts.0)
      (subst (λ z. pointwise nat_eq z n.used.name ≡ true) same parts.1))

  called_in_known : (does : Role → Bool) → DeclaresWhere does → (scope : ℕ) (y : List ℕ) → y ≡ x
      → IsForWish (wish.Known item x) (is_called_in does scope y)
  called_in_known does declares scope y same n e =
      called_known does declares y same n (and_parts (nat_eq n.used.scope scope) (is_called does y n) e).1

  called_there : (does : Role → Bool) → DeclaresWhere does → (y : List ℕ) → y ≡ x
      → is_some (position (is_called does y) some) ≡ is_some (position (is_called does y) names)
  called_there does declares y same =
      there_same (wish.Known item x) names some are (is_called does y) (called_known does declares y same)

  variable_known : (scope : ℕ) (y : List ℕ) → y ≡ x
      → is_some (variable_of some scope y) ≡ is_some (variable_of names scope y)
  variable_known scope y same =
      let locals = find_same (wish.Known item x) names some are (is_called_in is_local scope y)
      (called_in_known is_local local_declares scope y same) in
      let globals = find_same (wish.Known item x) names some are (is_called is_global y)
      (called_known is_global global_declares y same) in
      either_there (is_called_in is_local scope y) (is_called is_global y) some
      ∙ (λ j. is_some (option_or (locals j) (globals j)))
      ∙ sym (either_there (is_called_in is_local scope y) (is_called is_global y) names)

  known_by : (n : NameSpan) (r : Role)
      → (is_declaration r || (not (is_member r) && pointwise nat_eq x n.used.name)) ≡ true
      → knows some n r ≡ knows names n r
  known_by n (role.Declared what) e = refl
  known_by n role.Type e = called_there is_record record_declares n.used.name (same_name x n.used.name e)
  known_by n role.Guard e = called_there is_global global_declares n.used.name (same_name x n.used.name e)
  known_by n role.Target e = variable_known n.used.scope n.used.name (same_name x n.used.name e)
  known_by n role.Base e = variable_known n.used.scope n.used.name (same_name x n.used.name e)
  known_by n role.Field e = absurd (true≢false (sym e))
  known_by n (role.Operand i) e = variable_known n.used.scope n.used.name (same_name x n.used.name e)
  known_by n role.Procedure e =
      called_there is_procedure procedure_declares n.used.name (same_name x n.used.name e)

  agree : (n : NameSpan) → Has some n → is_unknown_in some item n ≡ is_unknown_in names item n
  agree n h = by (nat_eq n.used.item item) (settled n
      (filter_has (λ m. is_wanted (wish.Known item x) m.used.item m.used.role m.used.name) names n
      (subst (λ list. Has list n) are h)))
    where
      by : (b : Bool) → (b ≡ true → is_settled x n.used ≡ true)
          → (b && not (knows some n n.used.role)) ≡ (b && not (knows names n n.used.role))
      by true own = ap not (known_by n n.used.role (own refl))
      by false own = refl

  own_known : IsForWish (wish.Known item x) (is_unknown_in names item)
  own_known n e =
      or_left (nat_eq n.used.item item) (is_declaration n.used.role && pointwise nat_eq x n.used.name)
      (and_parts (nat_eq n.used.item item) (not (knows names n n.used.role)) e).0

  pub unknown_known : unknown_name some item ≡ unknown_name names item
  unknown_known =
      found_first (is_unknown_in some item) some
      ∙ find_agree (is_unknown_in some item) (is_unknown_in names item) some agree
      ∙ find_same (wish.Known item x) names some are (is_unknown_in names item) own_known
      ∙ sym (found_first (is_unknown_in names item) names)

module _ (item : ℕ) (names some : List NameSpan) (are : some ≡ wanted (wish.Mattering item) names) where
  abbrev for_item : Wish
  for_item = wish.Mattering item

  -- the test is passed only by what matters to the item
  abbrev Matters : (NameSpan → Bool) → Type 0
  Matters p = IsForWish (wish.Mattering item) p

  all_matter : (does : Role → Bool) → MattersWhere does → (n : NameSpan) → does n.used.role ≡ true
      → matters item n.used.item n.used.role ≡ true
  all_matter does mind n e = or_right (nat_eq n.used.item item) (matters_to_all n.used.role) (mind n.used.role e)

  pub own_matter : (n : NameSpan) → nat_eq n.used.item item ≡ true → matters item n.used.item n.used.role ≡ true
  own_matter n e = or_left (nat_eq n.used.item item) (matters_to_all n.used.role) e

  called_matter : (does : Role → Bool) → DeclaresWhere does → (x : List ℕ) → Matters (is_called does x)
  called_matter does declares x n e =
      all_matter does (λ r is. declaration_matters r (declares r is)) n (and_parts (does n.used.role) _ e).0

  called_in_matter : (does : Role → Bool) → DeclaresWhere does → (scope : ℕ) (x : List ℕ)
      → Matters (is_called_in does scope x)
  called_in_matter does declares scope x n e =
      called_matter does declares x n (and_parts (nat_eq n.used.scope scope) (is_called does x n) e).1

  type_matter : (of : ℕ) → Matters (does_in is_type of)
  type_matter of n e = all_matter is_type type_matters n (and_parts (nat_eq n.used.item of) (is_type n.used.role) e).1

  base_matter : Matters (does_in is_base item)
  base_matter n e = own_matter n (and_parts (nat_eq n.used.item item) (is_base n.used.role) e).0

  declared_matter : Matters (is_declared_in item)
  declared_matter n e = own_matter n (and_parts (nat_eq n.used.item item) (is_declaration n.used.role) e).0

  unknown_matter : Matters (is_unknown_in names item)
  unknown_matter n e = own_matter n (and_parts (nat_eq n.used.item item) _ e).0

  record_same : (x : List ℕ) → found some (record_of some x) ≡ found names (record_of names x)
  record_same x = found_same for_item names some are
      (is_called is_record x) (called_matter is_record record_declares x)

  field_same : (scope : ℕ) (x : List ℕ) → found some (field_of some scope x) ≡ found names (field_of names scope x)
  field_same scope x = found_same for_item names some are
      (is_called_in is_field scope x) (called_in_matter is_field field_declares scope x)

  pub procedure_same : (x : List ℕ) → found some (procedure_of some x) ≡ found names (procedure_of names x)
  procedure_same x = found_same for_item names some are
      (is_called is_procedure x) (called_matter is_procedure procedure_declares x)

  pub type_named_same : (of : ℕ) → found some (type_in some of) ≡ found names (type_in names of)
  type_named_same of = found_same for_item names some are
      (does_in is_type of) (type_matter of)

  local_found : (scope : ℕ) (x : List ℕ)
      → find (is_called_in is_local scope x) some ≡ find (is_called_in is_local scope x) names
  local_found scope x = find_same for_item names some are
      (is_called_in is_local scope x) (called_in_matter is_local local_declares scope x)

  global_found : (x : List ℕ) → find (is_called is_global x) some ≡ find (is_called is_global x) names
  global_found x = find_same for_item names some are
      (is_called is_global x) (called_matter is_global global_declares x)

  pub variable_same : (scope : ℕ) (x : List ℕ) → variable some scope x ≡ variable names scope x
  variable_same scope x =
      found_either (is_called_in is_local scope x) (is_called is_global x) some
      ∙ (λ j. option_or (local_found scope x j) (global_found x j))
      ∙ sym (found_either (is_called_in is_local scope x) (is_called is_global x) names)

  variable_there : (scope : ℕ) (x : List ℕ) → is_some (variable_of some scope x) ≡ is_some (variable_of names scope x)
  variable_there scope x =
      either_there (is_called_in is_local scope x) (is_called is_global x) some
      ∙ (λ j. is_some (option_or (local_found scope x j) (global_found x j)))
      ∙ sym (either_there (is_called_in is_local scope x) (is_called is_global x) names)

  type_of_same : (d : NameSpan) → type_of some d ≡ type_of names d
  type_of_same d = ap (option_map name_of) (type_named_same d.used.item)

  pub type_same : (d : Option NameSpan) → type_by some d ≡ type_by names d
  type_same None = refl
  type_same (Some d) = type_of_same d

  base_same : (b : Option NameSpan) → base_by some b ≡ base_by names b
  base_same None = refl
  base_same (Some b) = variable_same b.used.scope b.used.name

  base_type_same : base_type some item ≡ base_type names item
  base_type_same =
      ap (λ b. type_by some (base_by some b)) (found_same for_item names some are
      (does_in is_base item) base_matter)
      ∙ ap (type_by some) (base_same (found names (base_in names item)))
      ∙ type_same (base_by names (found names (base_in names item)))

  field_by_same : (f : List ℕ) (d : Option NameSpan) → field_by some f d ≡ field_by names f d
  field_by_same f None = refl
  field_by_same f (Some d) = field_same d.used.item f

  field_in_same : (f r : List ℕ) → field_in some f r ≡ field_in names f r
  field_in_same f r = ap (field_by some f) (record_same r) ∙ field_by_same f (found names (record_of names r))

  member_by_same : (f : List ℕ) (r : Option (List ℕ)) → member_by some f r ≡ member_by names f r
  member_by_same f (Some r) = field_in_same f r
  member_by_same f None = refl

  pub member_same : (f : List ℕ) → member_of some item f ≡ member_of names item f
  member_same f = ap (member_by some f) base_type_same ∙ member_by_same f (base_type names item)

  knows_field_same : (f : List ℕ) (r : Option (List ℕ)) → knows_field some f r ≡ knows_field names f r
  knows_field_same f (Some r) = ap is_some (field_in_same f r)
  knows_field_same f None = refl

  knows_same : (n : NameSpan) → n.used.item ≡ item → (r : Role) → knows some n r ≡ knows names n r
  knows_same n own (role.Declared what) = refl
  knows_same n own role.Type =
      there_same for_item names some are
      (is_called is_record n.used.name) (called_matter is_record record_declares n.used.name)
  knows_same n own role.Guard =
      there_same for_item names some are
      (is_called is_global n.used.name) (called_matter is_global global_declares n.used.name)
  knows_same n own role.Target = variable_there n.used.scope n.used.name
  knows_same n own role.Base = variable_there n.used.scope n.used.name
  knows_same n own role.Field =
      ap (λ i. knows_field some n.used.name (base_type some i)) own
      ∙ ap (knows_field some n.used.name) base_type_same
      ∙ knows_field_same n.used.name (base_type names item)
      ∙ ap (λ i. knows_field names n.used.name (base_type names i)) (sym own)
  knows_same n own (role.Operand i) = variable_there n.used.scope n.used.name
  knows_same n own role.Procedure =
      there_same for_item names some are
      (is_called is_procedure n.used.name) (called_matter is_procedure procedure_declares n.used.name)

  unknown_in_same : (n : NameSpan) → is_unknown_in some item n ≡ is_unknown_in names item n
  unknown_in_same n = by (nat_eq n.used.item item) (eqb-true n.used.item item)
    where
      by : (b : Bool) → (b ≡ true → n.used.item ≡ item)
          → (b && not (knows some n n.used.role)) ≡ (b && not (knows names n n.used.role))
      by true own = ap not (knows_same n (own refl) n.used.role)
      by false own = refl

  pub unknown_same : unknown_name some item ≡ unknown_name names item
  unknown_same =
      (λ j. found some (position (λ n. unknown_in_same n j) some))
      ∙ found_same for_item names some are (is_unknown_in names item) unknown_matter

  pub declared_same : found some (declared_at some item) ≡ found names (declared_at names item)
  declared_same = found_same for_item names some are (is_declared_in item) declared_matter
