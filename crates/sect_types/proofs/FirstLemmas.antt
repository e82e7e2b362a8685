-- The verdict on a list names its first fault.
use Rattle.std.proofs.Common.{◌≡◌, ℕ, zero, suc, ◌+◌, ◌≤◌, Bool, true, false, List, [], ◌∷◌, Option, Some, None, Result}
use Rattle.std.proofs.Common.{Ok, Err, if◌then◌else◌, refl, sym, ◌∙◌, true≢false, arith, subst, ap, ◌⊎◌, inl, inr, ◌<◌}
use Rattle.std.proofs.{Common.{◌-◌, get_or}, Math.Nat.{eq-or-lt_of_le}}
use Rattle.sect_types.specs.declared.rules.rule.Rule.{Rule}
use Rattle.sect_types.specs.declared.rules.rule.Rule.TheVariants.{Unknown, Twice, WrongType, SharedOutside, Nested}
use Rattle.sect_types.specs.declared.rules.rule.Rule.TheVariants.{TooMany, Recursion, Arguments}
use Rattle.sect_types.specs.declared.rules.rule.TypeFault.{TypeFault}
use Rattle.sect_types.specs.declared.rules.rule.TypeFault.TheVariants.{Memory}
use Rattle.sect_types.specs.First.{Judges, BreaksFrom, number_of_rule, IsFirstFrom, none_yet, IsTyped}
use Rattle.sect_types.specs.Faults.{type_fault}
use Rattle.sect_types.specs.Items.{items, record_items, global_items, procedure_items, thread_items, Item, ARecord}
use Rattle.sect_types.specs.Items.{AField, AGlobal, AProcedure, AThread, ALocal, AStatement, PrimitiveHead, TestHead}
use Rattle.sect_types.specs.Items.{AtomicHead, CallHead}
use Rattle.sect_types.specs.declared.rules.place.Place.TheVariants.{InThread, InProcedure}
use Rattle.sect_types.specs.{Rules.{Declared, declared_in, Counts, after}, declared.rules.rule.WalkFault.{WalkFault}}
use Rattle.sect_front.specs.TreeView.{TreeView}
use Rattle.std.specs.Result.{IsErrAnd, IsOkUnless}
use Rattle.sect_types.specs.steps.Judging.{breaks, least, rule_of, judge, fault_or, Verdict, Fine, Faulty}
use Rattle.sect_types.specs.steps.Walks.{Walks}
use Rattle.sect_types.proofs.Ways.{breaks_rule, rule_breaks}
use Rattle.sect_front.specs.declared.tree.Primitive.TheVariants as primitive
use Rattle.sect_types.specs.declared.rules.rule.TypeFault.TheVariants as type
use Rattle.sect_types.specs.declared.rules.rule.WalkFault.TheVariants as fault

-- what the least rule says of the tests
abbrev Least : (Rule → Bool) → Option Rule → Type 0
Least b None = (q : Rule) → b q ≡ true → ⊥
Least b (Some r) = (b r ≡ true) × ((q : Rule) → b q ≡ true → number_of_rule r ≤ number_of_rule q)

clash : {x : Bool} → x ≡ true → x ≡ false → ⊥
clash h e = true≢false (sym h ∙ e)

-- the rules, from number 10 on
abbrev rule_at : ℕ → Rule
rule_at n =
    get_or (Unknown ∷ Twice ∷ WrongType ∷ SharedOutside ∷ Nested ∷ TooMany ∷ Recursion ∷ Arguments ∷ []) (n - 10)
    Unknown

record IsNumbered (q : Rule) : Type 0 where
  pub above : 10 ≤ number_of_rule q
  pub below : number_of_rule q < 18
  pub back : rule_at (number_of_rule q) ≡ q

numbered : (q : Rule) → IsNumbered q
numbered Unknown = record { above = omega arith; below = omega arith; back = refl }
numbered Twice = record { above = omega arith; below = omega arith; back = refl }
numbered WrongType = record { above = omega arith; below = omega arith; back = refl }
numbered SharedOutside = record { above = omega arith; below = omega arith; back = refl }
numbered Nested = record { above = omega arith; below = omega arith; back = refl }
numbered TooMany = record { above = omega arith; below = omega arith; back = refl }
numbered Recursion = record { above = omega arith; below = omega arith; back = refl }
numbered Arguments = record { above = omega arith; below = omega arith; back = refl }

-- the rules of lesser numbers aren't broken
abbrev Below : (Rule → Bool) → ℕ → Type 0
Below b n = (q : Rule) → b q ≡ true → n ≤ number_of_rule q

-- nor is the next one
next : (b : Rule → Bool) (n : ℕ) → Below b n → b (rule_at n) ≡ false → Below b (suc n)
next b n below e q h = by (eq-or-lt_of_le (below q h))
  where
    by : (n ≡ number_of_rule q) ⊎ (n < number_of_rule q) → suc n ≤ number_of_rule q
    by (inl same) = absurd (clash h (sym (ap b (ap rule_at same ∙ (numbered q).back)) ∙ e))
    by (inr above) = omega arith

-- where it is broken it is the least, and otherwise what the rest says
tried : (b : Rule → Bool) (n : ℕ) (rest : Option Rule) → n ≡ number_of_rule (rule_at n) → Below b n
    → (Below b (suc n) → Least b rest) → Least b (if b (rule_at n) then Some (rule_at n) else rest)
tried b n rest same below more = by (b (rule_at n)) refl
  where
    by : (x : Bool) → b (rule_at n) ≡ x → Least b (if x then Some (rule_at n) else rest)
    by true e = (e, λ q h. omega (arith, below q h, same))
    by false e = more (next b n below e)

none_left : (b : Rule → Bool) → Below b 18 → Least b None
none_left b below = λ q h. omega (arith, below q h, (numbered q).below)

least_is : (b : Rule → Bool) → Least b (least b)
least_is b =
    tried b 10 _ refl (λ q h. (numbered q).above) (λ below. tried b 11 _ refl below (λ below.
    tried b 12 _ refl below (λ below. tried b 13 _ refl below (λ below. tried b 14 _ refl below (λ below.
    tried b 15 _ refl below (λ below. tried b 16 _ refl below (λ below. tried b 17 None refl below (none_left b))))))))

-- each item counts once
counts_one : (text : Declared) (c : Counts) (item : Item) → (after text c item).items ≡ c.items + 1
counts_one text c (ARecord x b) = refl
counts_one text c (AField k x b) = refl
counts_one text c (AGlobal r x b) = refl
counts_one text c (AProcedure x b) = refl
counts_one text c (AThread x b) = refl
counts_one text c (ALocal k x b) = refl
counts_one text c (AStatement (PrimitiveHead (primitive.Assign x v)) ls (InThread i d)) = refl
counts_one text c (AStatement (PrimitiveHead (primitive.Compute x v o w)) ls (InThread i d)) = refl
counts_one text c (AStatement (PrimitiveHead (primitive.New x r)) ls (InThread i d)) = refl
counts_one text c (AStatement (PrimitiveHead (primitive.Load x y f)) ls (InThread i d)) = refl
counts_one text c (AStatement (PrimitiveHead (primitive.Store y f v)) ls (InThread i d)) = refl
counts_one text c (AStatement (PrimitiveHead (primitive.Print v)) ls (InThread i d)) = refl
counts_one text c (AStatement (TestHead t) ls (InThread i d)) = refl
counts_one text c (AStatement AtomicHead ls (InThread i d)) = refl
counts_one text c (AStatement (CallHead f vs) ls (InThread i d)) = refl
counts_one text c (AStatement h ls (InProcedure p)) = refl

-- what a verdict says of a list
abbrev pub Says : Declared → Counts → List Item → Verdict → Type 0
Says text c list (Fine d) = (i : ℕ) (r : Rule) → BreaksFrom text c list i r → ⊥
Says text c list (Faulty n r) = (i : ℕ) × (n ≡ c.items + i) × IsFirstFrom text c list i r

later : (text : Declared) (c : Counts) (item : Item) (more : List Item) → ((q : Rule) → breaks text c item q ≡ true → ⊥)
    → (v : Verdict) → Says text (after text c item) more v → Says text c (item ∷ more) v
later text c item more none (Fine d) says = here
  where
    here : (i : ℕ) (r : Rule) → BreaksFrom text c (item ∷ more) i r → ⊥
    here zero r h = none r (rule_breaks text c item r h)
    here (suc i) r h = says i r h
later text c item more none (Faulty n r) (i, at, is) = (
  suc i,
  omega (arith, counts_one text c item, at),
  record {
    broken = is.broken;
    first = after_it;
    least = is.least;
  },
)
  where
    after_it : (j : ℕ) (q : Rule) → BreaksFrom text c (item ∷ more) j q → suc i ≤ j
    after_it zero q h = absurd (none q (rule_breaks text c item q h))
    after_it (suc j) q h = omega (arith, is.first j q h)

pub judge_says : (text : Declared) (c : Counts) (list : List Item) → Says text c list (judge text c list)
judge_says text c [] = λ i r h. h
judge_says text c (item ∷ more) =
    by (rule_of text c item) (least_is (breaks text c item)) (judge_says text (after text c item) more)
  where
    by : (o : Option Rule) → Least (breaks text c item) o
        → Says text (after text c item) more (judge text (after text c item) more)
        → Says text c (item ∷ more) (fault_or o (c.items) (judge text (after text c item) more))
    by None none rest = later text c item more none (judge text (after text c item) more) rest
    by (Some r) (here, least_here) rest = (
      0,
      omega arith,
      record {
        broken = breaks_rule text c item r here;
        first = λ j q h. omega arith;
        least = λ q h. least_here q (rule_breaks text c item q h);
      },
    )

pub fault_says : (text : Declared) (list : List Item) (n : ℕ) (r : Rule) → judge text none_yet list ≡ Faulty n r
    → IsFirstFrom text none_yet list n r
fault_says text list n r e = by (subst (Says text none_yet list) e (judge_says text none_yet list))
  where
    by : Says text none_yet list (Faulty n r) → IsFirstFrom text none_yet list n r
    by (i, at, is) = let same : i ≡ n = omega arith in subst (λ k. IsFirstFrom text none_yet list k r) same is

-- the items of a tree, before those of what follows
abbrev all_items : TreeView → List Item → List Item
all_items t w = record_items [] t.records (global_items [] t.globals (procedure_items 0 [] t.procedures
    (thread_items [] t.threads w)))

-- a typed tree is refused for memory alone
pub refused_typed : (t : TreeView) (new : Counts) (f : WalkFault)
    → Walks {A = ℕ} (declared_in t) (all_items t) none_yet new (Err f) → IsTyped t → type_fault f ≡ Memory
refused_typed t new fault.Memory walks typed = refl
refused_typed t new (fault.Broken i r) walks typed =
    absurd (typed i r (fault_says (declared_in t) (items t) i r (walks [])).broken)

-- a refusal is right whatever would be given else
pub refused_as : (A : Type 0) (t : TreeView) (e : TypeFault) → Judges {A = ℕ} t (Err e) → Judges {A = A} t (Err e)
refused_as A t type.Memory h = h
refused_as A t (type.Unknown i) h = h
refused_as A t (type.Twice i) h = h
refused_as A t (type.WrongType i) h = h
refused_as A t (type.SharedOutside i) h = h
refused_as A t (type.Nested i) h = h
refused_as A t (type.TooMany i) h = h
refused_as A t (type.Recursion i) h = h
refused_as A t (type.Arguments i) h = h

pub only_memory : {A : Type 0} (t : TreeView) (start new : Counts) (f : WalkFault) (r : Result A TypeFault)
    → start ≡ none_yet
    → Walks {A = ℕ} (declared_in t) (all_items t) start new (Err f)
    → IsErrAnd r (λ e. e ≡ type_fault f) → IsTyped t → IsOkUnless r Memory
only_memory t start new f (Ok a) e walks h typed = absurd h
only_memory t start new f (Err x) e walks h typed =
    h ∙ refused_typed t new f (subst (λ c. Walks {A = ℕ} (declared_in t) (all_items t) c new (Err f)) e walks) typed

pub fine_says : (text : Declared) (c d : Counts) (list : List Item) → judge text c list ≡ Fine d → (i : ℕ) (r : Rule)
    → BreaksFrom text c list i r → ⊥
fine_says text c d list e = subst (Says text c list) e (judge_says text c list)
