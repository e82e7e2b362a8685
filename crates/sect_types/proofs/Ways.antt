-- The search for ways of calls finds each, and nothing else.
use Rattle.std.specs.{Prelude.{◌||◌, true, false, nat_eq, eqb}, List.{list_any}}
use Rattle.std.proofs.Common.{◌≡◌, inl, inr, ℕ, zero, suc, List, [], ◌∷◌, Option, Some, None, sym, subst, length}
use Rattle.std.proofs.{Common.{slice_get}, lemmas.Bool.{eqb-true, or_cases, or_left, or_right}}
use Rattle.sect_front.specs.declared.tree.Procedure.{Procedure}
use Rattle.sect_types.specs.declared.rules.place.Place.{Place}
use Rattle.sect_types.specs.declared.rules.place.Place.TheVariants.{InThread, InProcedure}
use Rattle.sect_types.specs.declared.rules.rule.Rule.{Rule}
use Rattle.sect_types.specs.declared.rules.rule.Rule.TheVariants.{Unknown, Twice, WrongType, SharedOutside, Nested}
use Rattle.sect_types.specs.declared.rules.rule.Rule.TheVariants.{TooMany, Recursion, Arguments}
use Rattle.sect_types.specs.Items.{Item, ARecord, AField, AGlobal, AProcedure, AThread, ALocal, AStatement}
use Rattle.sect_types.specs.Items.{PrimitiveHead, TestHead, AtomicHead, CallHead}
use Rattle.sect_types.specs.Sums.{calls_in, number_of, IsWay, Returns}
use Rattle.sect_types.specs.Rules.{Declared, Counts, ReturnsTo, IsRecursive, BreaksRule}
use Rattle.sect_lemmas.specs.Lists.{Has}
use Rattle.sect_types.specs.steps.{Search.{reaches, returns, returns_to, recursive}, Judging.{breaks}}
use Rattle.sect_types.proofs.{EnoughLaws.{witness, same}, ReachLaws.{returns_caller}}

has_any : (xs : List ℕ) (r : ℕ) → list_any (eqb r) xs ≡ true → Has xs r
has_any [] r h = absurd (let off : false ≡ true = h in cc)
has_any (x ∷ xs) r h = elim (or_cases (eqb r x) (list_any (eqb r) xs) h) [
  | inl e ↦ inl (sym (eqb-true r x e))
  | inr more ↦ inr (has_any xs r more)
]

any_has : (xs : List ℕ) (r : ℕ) → Has xs r → list_any (eqb r) xs ≡ true
any_has [] r h = absurd h
any_has (x ∷ xs) r (inl e) = or_left (eqb r x) (list_any (eqb r) xs) (subst (λ y. eqb r y ≡ true) (sym e) (same r))
any_has (x ∷ xs) r (inr h) = or_right (eqb r x) (list_any (eqb r) xs) (any_has xs r h)

found : (n : ℕ) (ps : List Procedure) (q p : ℕ) → reaches n ps q p ≡ true → Returns ps p q
found zero ps q p h = absurd (let off : false ≡ true = h in cc)
found (suc n) ps q p h =
    let w = witness (λ s. nat_eq s p || reaches n ps s p) (calls_in ps (slice_get ps q)) h in
    let here = has_any (calls_in ps (slice_get ps q)) w.0 w.2 in
    elim (or_cases (nat_eq w.0 p) (reaches n ps w.0 p) w.1) [
      | inl e ↦ (w.0 ∷ [], (here, eqb-true w.0 p e))
      | inr e ↦ (let more = found n ps w.0 p e in (w.0 ∷ more.0, (here, more.1)))
    ]

-- what the search finds is there
pub returns_found : (ps : List Procedure) (p q : ℕ) → returns ps p q ≡ true → Returns ps p q
returns_found ps p q h = elim (or_cases (nat_eq q p) (reaches (length ps) ps q p) h) [
  | inl e ↦ ([], eqb-true q p e)
  | inr e ↦ found (length ps) ps q p e
]

by_way : (ps : List Procedure) (way : List ℕ) (q p : ℕ) → IsWay ps q way p → returns ps p q ≡ true
by_way ps [] q p e =
    or_left (nat_eq q p) (reaches (length ps) ps q p) (subst (λ y. nat_eq q y ≡ true) e (same q))
by_way ps (r ∷ way) q p h =
    returns_caller ps p q r (any_has (calls_in ps (slice_get ps q)) r h.0) (by_way ps way r p h.1)

-- and what is there it finds
pub found_returns : (ps : List Procedure) (p q : ℕ) → Returns ps p q → returns ps p q ≡ true
found_returns ps p q h = by_way ps h.0 q p h.1

returns_there : (ps : List Procedure) (at : Place) (o : Option ℕ) → returns_to ps at o ≡ true → ReturnsTo ps at o
returns_there ps (InProcedure p) (Some q) h = returns_found ps p q h
returns_there ps (InProcedure p) None h = absurd (let off : false ≡ true = h in cc)
returns_there ps (InThread i d) o h = absurd (let off : false ≡ true = h in cc)

there_returns : (ps : List Procedure) (at : Place) (o : Option ℕ) → ReturnsTo ps at o → returns_to ps at o ≡ true
there_returns ps (InProcedure p) (Some q) h = found_returns ps p q h
there_returns ps (InProcedure p) None h = absurd h
there_returns ps (InThread i d) o h = absurd h

is_recursive : (d : Declared) (item : Item) → recursive d item ≡ true → IsRecursive d item
is_recursive d (AStatement (CallHead f vs) ls at) h = returns_there d.procedures at (number_of d.procedures f) h
is_recursive d (AStatement (PrimitiveHead p) ls at) h = absurd (let off : false ≡ true = h in cc)
is_recursive d (AStatement (TestHead t) ls at) h = absurd (let off : false ≡ true = h in cc)
is_recursive d (AStatement AtomicHead ls at) h = absurd (let off : false ≡ true = h in cc)
is_recursive d (ARecord x b) h = absurd (let off : false ≡ true = h in cc)
is_recursive d (AField k x b) h = absurd (let off : false ≡ true = h in cc)
is_recursive d (AGlobal r x b) h = absurd (let off : false ≡ true = h in cc)
is_recursive d (AProcedure x b) h = absurd (let off : false ≡ true = h in cc)
is_recursive d (AThread x b) h = absurd (let off : false ≡ true = h in cc)
is_recursive d (ALocal k x b) h = absurd (let off : false ≡ true = h in cc)

recursive_is : (d : Declared) (item : Item) → IsRecursive d item → recursive d item ≡ true
recursive_is d (AStatement (CallHead f vs) ls at) h = there_returns d.procedures at (number_of d.procedures f) h
recursive_is d (AStatement (PrimitiveHead p) ls at) h = absurd h
recursive_is d (AStatement (TestHead t) ls at) h = absurd h
recursive_is d (AStatement AtomicHead ls at) h = absurd h
recursive_is d (ARecord x b) h = absurd h
recursive_is d (AField k x b) h = absurd h
recursive_is d (AGlobal r x b) h = absurd h
recursive_is d (AProcedure x b) h = absurd h
recursive_is d (AThread x b) h = absurd h
recursive_is d (ALocal k x b) h = absurd h

-- the tests decide the rules
pub breaks_rule : (d : Declared) (c : Counts) (item : Item) (r : Rule) → breaks d c item r ≡ true
    → BreaksRule d c item r
breaks_rule d c item Unknown h = h
breaks_rule d c item Twice h = h
breaks_rule d c item WrongType h = h
breaks_rule d c item SharedOutside h = h
breaks_rule d c item Nested h = h
breaks_rule d c item TooMany h = h
breaks_rule d c item Recursion h = is_recursive d item h
breaks_rule d c item Arguments h = h

pub rule_breaks : (d : Declared) (c : Counts) (item : Item) (r : Rule) → BreaksRule d c item r
    → breaks d c item r ≡ true
rule_breaks d c item Unknown h = h
rule_breaks d c item Twice h = h
rule_breaks d c item WrongType h = h
rule_breaks d c item SharedOutside h = h
rule_breaks d c item Nested h = h
rule_breaks d c item TooMany h = h
rule_breaks d c item Recursion h = recursive_is d item h
rule_breaks d c item Arguments h = h
