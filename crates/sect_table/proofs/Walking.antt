-- Walking along a list in the arena: the holders of a key, or what a thread holds.
use Rattle.std.proofs.Common.{◌≡◌, ◌≢◌, ℕ, ◌+◌, ◌<◌, List, ◌∷◌, ◌++◌, length, take, drop, get_or, true, false, Some}
use Rattle.std.proofs.{Common.{Option, None, IfSome, refl, sym, ◌∙◌, ap, subst, arith}, lemmas.Bool.{eq-eqb}}
use Rattle.std.proofs.lemmas.List.{drop-drop, take-append-drop, get_or_default}
use Rattle.std.specs.Prelude.{◌==◌, ◌||◌}
use Rattle.sect_modes.specs.{declared.mode.Mode.{Mode}, declared.key.Key.{Key}, Key.{is_same_key}}
use Rattle.sect_modes.specs.Mode.{are_compatible}
use Rattle.sect_table.specs.{declared.claims.Grant.{Grant}, Contents.{may_join, mode_for, mode_in}}
use Rattle.sect_table.specs.steps.{Arena.{node_at, no_node, claims, holds_at}, Links.{head_or}}
use Rattle.sect_table.proofs.Shown.{uncons}

-- a walk along the list xs has come to this node, after the first i
module _ (xs : List ℕ) (i node : ℕ) (o : Option ℕ) (here : o ≡ head_or (drop i xs) None) (is : o ≡ Some node) where
  rest_at : drop i xs ≡ node ∷ drop (i + 1) xs
  rest_at =
      let found = uncons (drop i xs) node (sym here ∙ is) in
      found.1 ∙ ap (λ z. node ∷ z) (sym (ap (drop 1) found.1) ∙ drop-drop 1 i xs)

  pub split_here : xs ≡ take i xs ++ node ∷ drop (i + 1) xs
  split_here = sym (take-append-drop i xs) ∙ ap (λ z. take i xs ++ z) rest_at

  module _ (nodes : List Grant) (size : ℕ) (d : Grant) (within : IfSome o (λ x. x < size))
      (sizes : length nodes ≡ size) where
    same : get_or nodes node d ≡ node_at nodes node
    same =
        let below : node < size = subst (λ z. IfSome z (λ x. x < size)) is within in
        get_or_default nodes node d no_node (omega arith)

    pub join_step : (t : ℕ) (m : Mode)
        → (((get_or nodes node d).thread == t) || are_compatible (get_or nodes node d).mode m) ≡ true
        → may_join (claims nodes (drop (i + 1) xs)) t m ≡ may_join (claims nodes (drop i xs)) t m
    join_step t m lets =
        let at : (((node_at nodes node).thread == t) || are_compatible (node_at nodes node).mode m) ≡ true =
        subst (λ (z : Grant). ((z.thread == t) || are_compatible z.mode m) ≡ true) same lets in
        rw (rest_at, at) refl

    pub mode_step : (t : ℕ) → (get_or nodes node d).thread ≢ t
        → mode_for t (claims nodes (drop (i + 1) xs)) ≡ mode_for t (claims nodes (drop i xs))
    mode_step t other =
        let apart : (node_at nodes node).thread ≢ t = subst (λ (z : Grant). z.thread ≢ t) same other in
        let at : ((node_at nodes node).thread == t) ≡ false = grind (arith, apart) in
        rw (rest_at, at) refl

    pub mode_here : (t : ℕ) → (get_or nodes node d).thread ≡ t
        → Some (get_or nodes node d).mode ≡ mode_for t (claims nodes (drop i xs))
    mode_here t own =
        let at : ((node_at nodes node).thread == t) ≡ true =
        eq-eqb (node_at nodes node).thread t (subst (λ (z : Grant). z.thread ≡ t) same own) in
        rw (rest_at, at, same) refl

    pub hold_step : (k : Key) → is_same_key (get_or nodes node d).key k ≡ false
        → mode_in k (holds_at nodes (drop (i + 1) xs)) ≡ mode_in k (holds_at nodes (drop i xs))
    hold_step k other =
        let at : is_same_key (node_at nodes node).key k ≡ false =
        subst (λ (z : Grant). is_same_key z.key k ≡ false) same other in
        rw (rest_at, at) refl

    pub hold_here : (k : Key) → is_same_key (get_or nodes node d).key k ≡ true
        → Some (get_or nodes node d).mode ≡ mode_in k (holds_at nodes (drop i xs))
    hold_here k own =
        let at : is_same_key (node_at nodes node).key k ≡ true =
        subst (λ (z : Grant). is_same_key z.key k ≡ true) same own in
        rw (rest_at, at, same) refl
