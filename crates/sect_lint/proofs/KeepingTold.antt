-- What the names that are wanted for a mistake tell of it, all names tell.
use Rattle.std.proofs.Common.{◌≡◌, ◌∙◌, ℕ, List, [], ◌∷◌, map, refl, ap, subst, inl, inr}
use Rattle.sect_lemmas.specs.Lists.{Has}
use Rattle.sect_front.specs.{TreeView.{TreeView}, declared.span.Span.{Span}, declared.token.Token.{Token}}
use Rattle.sect_types.specs.declared.rules.rule.TypeFault.{TypeFault}
use Rattle.sect_places.specs.{declared.name_use.NameSpan.{NameSpan}, Mattering.{is_wanted, wanted}}
use Rattle.sect_places.specs.{declared.wish.Wish.{Wish}, NameUses.{name_uses}}
use Rattle.sect_lint.specs.{declared.diagnostic.Detail.{Detail}, Naming.{earlier_detail}, Limits.{item_limit}}
use Rattle.sect_lint.specs.{Places.{of_types, item_number, marked_name}, Details.{IsToldOf, item_detail}}
use Rattle.sect_lint.specs.Calls.{Leads, IsCircleTold}
use Rattle.sect_lint.specs.steps.Wishes.{IsWish}
use Rattle.sect_lint.proofs.Circling.{filter_has}
use Rattle.sect_lint.proofs.Keeping.{unknown_same, declared_same, earlier_same, unknown_known, settled_names}
use Rattle.sect_lint.proofs.KeepingTypes.{mistyped_same}
use Rattle.sect_types.specs.declared.rules.rule.TypeFault.TheVariants as types
use Rattle.sect_lint.specs.declared.diagnostic.Detail.TheVariants as detail

module _ (which : Wish) (names some : List NameSpan) (are : some ≡ wanted which names) where
  has_more : (n : NameSpan) → Has some n → Has names n
  has_more n h =
      filter_has (λ n. is_wanted which n.used.item n.used.role n.used.name) names n (subst (λ list. Has list n) are h)

  leads_more : (from to : NameSpan) (calls : List NameSpan) → Leads some from to calls → Leads names from to calls
  leads_more from to [] h = h
  leads_more from to (x ∷ calls) (there, stands, (next, has, called, rest)) =
      (has_more x there, stands, (next, has_more next has, called, leads_more next to calls rest))

  circle_more : (item : ℕ) (told : Detail) → IsCircleTold some item told → IsCircleTold names item told
  circle_more item (detail.Circle spans) (calls, circle, is) = (
    calls,
    record {
      first = circle.first;
      others = circle.others;
      are = circle.are;
      stands = circle.stands;
      procedure = circle.procedure;
      leads = leads_more circle.procedure circle.procedure calls circle.leads;
    },
    is,
  )
  circle_more item _ h = h

-- the item at fault
abbrev fault_item : TreeView → TypeFault → ℕ
fault_item tree fault = item_number tree (of_types fault)

-- the name that is marked is the same
pub marked_same : (tree : TreeView) (fault : TypeFault) (names some : List NameSpan) (which : Wish)
    → map (λ (n : NameSpan). n.used) names ≡ name_uses tree → IsWish tree (fault_item tree fault) fault which
    → some ≡ wanted which names → marked_name some fault ≡ marked_name names fault
marked_same tree (types.Unknown item) names some which uses (inl is) are =
    unknown_same item names some (are ∙ ap (λ w. wanted w names) is)
marked_same tree (types.Unknown item) names some which uses (inr (x, settled, is)) are =
    unknown_known item x names some (are ∙ ap (λ w. wanted w names) is) (settled_names tree item x names uses settled)
marked_same tree _ names some which uses wish are = refl

-- and what is said
pub detail_same : (tree : TreeView) (ts : List Token) (ss : List Span) (fault : TypeFault)
    (names some : List NameSpan) (which : Wish) → IsWish tree (fault_item tree fault) fault which
    → some ≡ wanted which names → item_detail tree some ts ss fault ≡ item_detail tree names ts ss fault
detail_same tree ts ss (types.Twice item) names some which is are =
    ap earlier_detail (earlier_same item names some (are ∙ ap (λ w. wanted w names) is))
detail_same tree ts ss (types.WrongType item) names some which is are =
    mistyped_same item names some (are ∙ ap (λ w. wanted w names) is) tree.procedures ts ss
detail_same tree ts ss (types.TooMany item) names some which is are =
    ap (λ n. detail.Limit (item_limit n ts)) (declared_same item names some (are ∙ ap (λ w. wanted w names) is))
detail_same tree ts ss _ names some which is are = refl

-- what is told by the names that are wanted is told by all
pub told_more : (tree : TreeView) (fault : TypeFault) (names some : List NameSpan) (which : Wish)
    → some ≡ wanted which names → (other told : Detail)
    → IsToldOf some fault other told → IsToldOf names fault other told
told_more tree (types.Recursion item) names some which are other told h =
    circle_more which names some are item told h
told_more tree _ names some which are other told h = h
