-- The globals of a typed program have different names.
use Rattle.std.proofs.Common.{◌≡◌, ℕ, false, List, [], ◌∷◌, ◌++◌, ◌+◌, ◌<◌, Some, take, length, get_or, slice_get}
use Rattle.std.proofs.{Common.{if◌then◌else◌, sym, ap, ◌∙◌}, lemmas.List.{map-append, take-map, take_more}}
use Rattle.std.proofs.lemmas.Option.{slice_get-map, slice_get-get_or}
use Rattle.std.specs.Option.{option_map}
use Rattle.sect_front.specs.{declared.tree.GlobalObject.{GlobalObject}, TreeView.{TreeView}}
use Rattle.sect_types.specs.{Sight.{has_name, same_name, names_of_globals}, First.{IsTyped}}
use Rattle.sect_types.proofs.shared.Repeating.{globals_apart}
use Rattle.indexmap.specs.IndexSet.{insert_key}
use Rattle.sect_hints.specs.Names.{AreDifferent}

-- the globals of a typed tree have different names
pub different : (t : TreeView) → IsTyped t → AreDifferent (names_of_globals t.globals)
different t typed = globals_apart t typed

-- a set gains a name that isn't among those before it
pub one_more : (gs : List GlobalObject) (i : ℕ) (g : GlobalObject) (keys more : List (List ℕ))
    → AreDifferent (names_of_globals gs) → i < length gs → g ≡ get_or gs i g
    → keys ≡ names_of_globals (take i gs) → more ≡ insert_key same_name keys g.name
    → more ≡ names_of_globals (take (i + 1) gs)
one_more gs i g keys more apart h is keys_are more_is =
    let there : slice_get (names_of_globals gs) i ≡ Some g.name = slice_get-map (λ (x : GlobalObject). x.name) gs i
    ∙ ap (option_map (λ (x : GlobalObject). x.name)) (slice_get-get_or gs i g h ∙ ap Some (sym is)) in
    let before : keys ≡ take i (names_of_globals gs) = keys_are ∙ sym (take-map (λ (x : GlobalObject). x.name) i gs) in
    let new : has_name g.name keys ≡ false = ap (has_name g.name) before ∙ apart i g.name there in
    more_is
    ∙ (ap (λ b. if b then keys else keys ++ g.name ∷ []) new
    ∙ (ap (λ ks. ks ++ g.name ∷ []) keys_are
    ∙ (sym (map-append (λ (x : GlobalObject). x.name) (take i gs) (g ∷ []))
    ∙ ap names_of_globals (ap (λ x. take i gs ++ x ∷ []) is ∙ sym (take_more gs i g h)))))
