-- Clean statements by numbers.
use Rattle.std.specs.Prelude.{Bool, true, false, not, ◌&&◌, is_some, IsSome}
use Rattle.std.proofs.Common.{◌≡◌, ℕ, List, Some, None, Result, IfOk, refl, sym, ap, subst, ◌∙◌, length}
use Rattle.std.proofs.lemmas.Bool.{not-false}
use Rattle.sect_front.specs.{declared.tree.Test.{Test}, declared.tree.Declaration.{Declaration}}
use Rattle.sect_types.specs.{declared.rules.rule.Rule.{Rule}, declared.expansion.action.Action.{Action}, Sight.{Sight}}
use Rattle.sect_types.specs.Rules.{knows_primitive, primitive_agrees, knows_test, test_agrees, shares, Declared, seen}
use Rattle.sect_types.specs.{Environments.{environment}, Sound.{IsSoundAction, IsSoundCondition, is_shared}}
use Rattle.sect_types.specs.{Statements.{made_by}, Sections.{IsSite}, Numbered.{action_of, condition_of}}
use Rattle.sect_types.specs.{Items.{PrimitiveHead, TestHead, AStatement}, declared.rules.place.Place.{Place}}
use Rattle.sect_types.specs.{Sums.{primitive_sums}, Expanded.{moved_action}}
use Rattle.sect_types.proofs.{Typing.{primitive_of, test_of}, Heads.{primitive_law, test_law}}
use Rattle.sect_types.proofs.{SoundLemmas.{primitive_sound, test_sound}, StatementSites.{Makes, primitive_makes}}
use Rattle.sect_types.proofs.Agreeing.{linked, test_linked}
use Rattle.sect_types.specs.steps.{Written.{action_in, condition_in}, Walks.{rule_in, of_types}, Clean.{IsClean}}
use Rattle.sect_front.specs.declared.tree.Primitive as leaf
use Rattle.sect_types.specs.declared.expansion.action.Action.TheVariants as action

pub and_not : (a b : Bool) → a ≡ true → (a && not b) ≡ false → b ≡ true
and_not true true h g = refl
and_not true false h g = sym g
and_not false b h g = absurd (let off : false ≡ true = h in cc)

no_rule : {A : Type 0} (r : Result A Rule) (k a : Bool) → rule_in r ≡ of_types k a → k ≡ true → a ≡ true
    → rule_in r ≡ None
no_rule r k a e h g = e ∙ (λ i. of_types (h i) (g i))

no_rule_of : (s : Sight) (site : ℕ) (p : leaf.Primitive) → knows_primitive s p ≡ true → primitive_agrees s p ≡ true
    → rule_in (primitive_of s site p) ≡ None
no_rule_of s site p k a = no_rule (primitive_of s site p) _ _ (primitive_law s site p) k a

-- an action for a statement without a block
pub record IsFor (s : Sight) (site : ℕ) (p : leaf.Primitive) (a : Action) : Type 0 where
  pub sound : IsSoundAction (environment s) a
  pub shared : is_shared a ≡ shares (PrimitiveHead p)
  pub makes : length (made_by a) ≡ (primitive_sums p).sites
  pub sited : IsSite site a

resolved_to : (s : Sight) (site : ℕ) (p : leaf.Primitive) → rule_in (primitive_of s site p) ≡ None
    → (a : Action) × (action_of s site p ≡ Some a) × IsFor s site p a
resolved_to s site p e =
    let l = linked s site p e in
    let x = subst (λ r. IfOk r (λ a. IsSoundAction (environment s) a
    × (is_shared a ≡ shares (PrimitiveHead p)))) l.typed
    (primitive_sound s site p) in
    let y = subst (λ r. IfOk r (Makes (primitive_sums p).sites site)) l.typed (primitive_makes s site p) in
    (l.what, l.numbered, record { sound = x.0; shared = x.1; makes = y.0; sited = y.1 })

-- a clean one is typed
clean_rule : (d : Declared) (ls : List Declaration) (at : Place) (site : ℕ) (p : leaf.Primitive)
    → IsClean d (AStatement (PrimitiveHead p) ls at) → rule_in (primitive_of (seen d ls) site p) ≡ None
clean_rule d ls at site p h =
    let k = not-false (knows_primitive (seen d ls) p) h.known in
    let a = and_not (knows_primitive (seen d ls) p) (primitive_agrees (seen d ls) p) k h.right in
    no_rule_of (seen d ls) site p k a

pub resolved : (d : Declared) (ls : List Declaration) (at : Place) (site : ℕ) (p : leaf.Primitive)
    → IsClean d (AStatement (PrimitiveHead p) ls at)
    → IsFor (seen d ls) site p (action_in (action_of (seen d ls) site p))
resolved d ls at site p h =
    let x = resolved_to (seen d ls) site p (clean_rule d ls at site p h) in
    subst (IsFor (seen d ls) site p) (sym (ap action_in x.1)) x.2

pub action_there : (d : Declared) (ls : List Declaration) (at : Place) (site : ℕ) (p : leaf.Primitive)
    → IsClean d (AStatement (PrimitiveHead p) ls at) → IsSome (action_of (seen d ls) site p)
action_there d ls at site p h =
    ap is_some (linked (seen d ls) site p (clean_rule d ls at site p h)).numbered

-- and so is a test
clean_test : (d : Declared) (ls : List Declaration) (at : Place) (t : Test) → IsClean d (AStatement (TestHead t) ls at)
    → rule_in (test_of (seen d ls) t) ≡ None
clean_test d ls at t h =
    let s = seen d ls in
    let k = not-false (knows_test s t) h.known in
    no_rule (test_of s t) _ _ (test_law s t) k (and_not (knows_test s t) (test_agrees s t) k h.right)

pub resolved_test : (d : Declared) (ls : List Declaration) (at : Place) (t : Test)
    → IsClean d (AStatement (TestHead t) ls at)
    → IsSoundCondition (environment (seen d ls)) (condition_in (condition_of (seen d ls) t))
resolved_test d ls at t h =
    let s = seen d ls in
    let l = test_linked s t (clean_test d ls at t h) in
    subst (IsSoundCondition (environment s)) (sym (ap condition_in l.numbered))
    (subst (λ r. IfOk r (IsSoundCondition (environment s))) l.typed (test_sound s t))

pub condition_there : (d : Declared) (ls : List Declaration) (at : Place) (t : Test)
    → IsClean d (AStatement (TestHead t) ls at) → IsSome (condition_of (seen d ls) t)
condition_there d ls at t h = ap is_some (test_linked (seen d ls) t (clean_test d ls at t h)).numbered

-- moving its variables changes no site
pub moved_made : (n : ℕ) (a : Action) → made_by (moved_action n a) ≡ made_by a
moved_made n (action.Assign x v) = refl
moved_made n (action.Compute x v o w) = refl
moved_made n (action.New x r site) = refl
moved_made n (action.Load x b f) = refl
moved_made n (action.Store b f v) = refl
moved_made n (action.Print v) = refl

pub moved_site : (n site : ℕ) (a : Action) → IsSite site a → IsSite site (moved_action n a)
moved_site n site (action.Assign x v) h = h
moved_site n site (action.Compute x v o w) h = h
moved_site n site (action.New x r m) h = h
moved_site n site (action.Load x b f) h = h
moved_site n site (action.Store b f v) h = h
moved_site n site (action.Print v) h = h

pub moved_shared : (n : ℕ) (a : Action) → is_shared (moved_action n a) ≡ is_shared a
moved_shared n (action.Assign x v) = refl
moved_shared n (action.Compute x v o w) = refl
moved_shared n (action.New x r site) = refl
moved_shared n (action.Load x b f) = refl
moved_shared n (action.Store b f v) = refl
moved_shared n (action.Print v) = refl
