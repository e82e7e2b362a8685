-- What the lists of two nodes say of the edge between them.
use Rattle.std.proofs.Common.{length, ◌≡◌, ◌↔◌, ◌⊎◌, ℕ, ◌≤◌, List, Some, inl, inr, refl, sym, ap, ◌∙◌, subst, arith}
use Rattle.std.proofs.lemmas.Bool.{cases_eq}
use Rattle.std.specs.Prelude.{slice_get, option_map}
use Rattle.sect_lemmas.specs.Lists.{Has}
use Rattle.sect_types.specs.declared.expansion.action.Label.{Label}
use Rattle.sect_graph.specs.{declared.flow.Node.{Node}, declared.flow.Successors.{Successors}, Paths.{IsSuccessor}}
use Rattle.sect_graph.specs.Predecessors.{StaysWithin}
use Rattle.sect_names.specs.{declared.lock.Lock.{Lock}, Schemes.{SchemeView}, Carrying.{CarriedBack}}
use Rattle.sect_check.specs.{declared.claims.Claims.{Claims}, Valid.{list_at, AreCarriedInto, CoversCarried}}
use Rattle.sect_check.specs.Faults.{IsFirst}
use Rattle.sect_lemmas.proofs.Places.{told_at, told_of}

-- control goes on from a node to one of the graph, or to its exit
pub stays : (g : List Node) → StaysWithin g → (i : ℕ) (next : Successors)
    → option_map (λ (x : Node). x.next) (slice_get g i) ≡ Some next → (j : ℕ) → IsSuccessor next j → j ≤ length g
stays g within i next at j succ =
    let n = told_at (λ (x : Node). x.next) g i next at in
    within i j n.0 n.1 (subst (λ z. IsSuccessor z j) (sym n.2) succ)

module _ (s : SchemeView) (t : ℕ) (g : List Node) (c : Claims) (i : ℕ) (label : Label) (next : Successors)
    (label_at : option_map (λ (x : Node). x.label) (slice_get g i) ≡ Some label)
    (next_at : option_map (λ (x : Node). x.next) (slice_get g i) ≡ Some next)
    (keys own : List Lock) (own_is : own ≡ list_at c i) (same : (l : Lock) → Has keys l ↔ Has own l) where
  -- what a set with the locks of node i covers, the list of node i does
  holds : (j : ℕ) (ls : List Lock) → ls ≡ list_at c j → AreCarriedInto s t label keys ls → CoversCarried s t g c i j
  holds j ls is h = λ x at leads l r has back.
      let k = h l r (subst (λ z. Has z l) (sym is) has)
      (subst (λ a. CarriedBack s t a l r) (told_of (λ (x : Node). x.label) g i label label_at x at) back) in
      (k.0, subst (λ z. Has z k.0) own_is ((same k.0).0 k.1), k.2)

  -- what the set doesn't cover, the list of node i doesn't
  fails : (j : ℕ) (ls : List Lock) → ls ≡ list_at c j → IsSuccessor next j → (AreCarriedInto s t label keys ls → ⊥)
      → CoversCarried s t g c i j → ⊥
  fails j ls is succ bad all =
      let n = told_at (λ (x : Node). x.label) g i label label_at in
      let to = subst (λ z. IsSuccessor z j) (sym (told_of (λ (x : Node). x.next) g i next next_at n.0 n.1)) succ in
      bad (λ l r has back.
      let k = all n.0 n.1 to l r (subst (λ z. Has z l) is has) (subst (λ a. CarriedBack s t a l r) (sym n.2) back) in
      (k.0, (same k.0).1 (subst (λ z. Has z k.0) (sym own_is) k.1), k.2))

  -- where control doesn't go on, nothing is asked
  no_edge : (j : ℕ) → (IsSuccessor next j → ⊥) → CoversCarried s t g c i j
  no_edge j bad = λ x at leads. absurd
      (bad (subst (λ z. IsSuccessor z j) (told_of (λ (x : Node). x.next) g i next next_at x at) leads))

  module _ (first second : ℕ) (each : (j : ℕ) → IsSuccessor next j ↔ ((j ≡ first) ⊎ (j ≡ second)))
      (order : first ≤ second) (at_first : List Lock) (first_list : at_first ≡ list_at c first) where
    -- the lesser node is the first that fails
    pub first_is : (AreCarriedInto s t label keys at_first → ⊥) → IsFirst (CoversCarried s t g c i) first
    first_is bad = (
      fails first at_first first_list ((each first).1 (inl refl)) bad,
      λ m lt. no_edge m (λ h. elim ((each m).0 h)
          [ inl e ↦ omega (arith, lt, e) | inr e ↦ omega (arith, lt, e, order) ]),
    )

    module _ (good : AreCarriedInto s t label keys at_first) (at_second : List Lock)
        (second_list : at_second ≡ list_at c second) where
      -- the greater one is, where the lesser holds
      pub second_is : (AreCarriedInto s t label keys at_second → ⊥) → IsFirst (CoversCarried s t g c i) second
      second_is bad = (
        fails second at_second second_list ((each second).1 (inr refl)) bad,
        λ m lt. elim (cases_eq m first) [
          | inl e ↦ holds m at_first (first_list ∙ ap (list_at c) (sym e)) good
          | inr n ↦ no_edge m (λ h. elim ((each m).0 h) [ inl e ↦ n e | inr e ↦ omega (arith, lt, e) ])
        ],
      )

      -- where both hold, all do
      pub all_hold : AreCarriedInto s t label keys at_second → (j : ℕ) → CoversCarried s t g c i j
      all_hold also j = elim (cases_eq j first) [
        | inl e ↦ holds j at_first (first_list ∙ ap (list_at c) (sym e)) good
        | inr n ↦ elim (cases_eq j second) [
          | inl e ↦ holds j at_second (second_list ∙ ap (list_at c) (sym e)) also
          | inr o ↦ no_edge j (λ h. elim ((each j).0 h) [ inl e ↦ n e | inr e ↦ o e ])
        ]
      ]

    -- so they do where both are one that holds
    pub one_holds : second ≡ first → AreCarriedInto s t label keys at_first → (j : ℕ) → CoversCarried s t g c i j
    one_holds same good = all_hold good at_first (first_list ∙ ap (list_at c) (sym same)) good
