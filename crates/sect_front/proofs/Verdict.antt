-- What the places that are left say of the tokens before them.
use Rattle.std.proofs.Common.{◌≡◌, ℕ, ◌+◌, ◌<◌, ◌≤◌, true, false, List, [], ◌∷◌, ◌++◌, Option, Some, None}
use Rattle.std.proofs.Common.{Result, Ok, Err, option_and_then, length, take, drop, refl, sym, ◌∙◌, ap, subst, arith}
use Rattle.std.proofs.{Common.{append_assoc, is_some}, lemmas.List.{take-append-drop}}
use Rattle.sect_front.specs.{Limits.{most_depth}, TreeView.{TreeView}, Grammar.{tokens_of}, Tokens.{source_tokens}}
use Rattle.sect_front.specs.Braces.{brace, open_after}
use Rattle.sect_front.specs.Faults.{IsViable, IsTree, IsUnexpectedAt, IsTooDeepAt, IsUnfinished}
use Rattle.sect_front.specs.{declared.token.Token.{Token}, declared.expected.Expected.{Expected}}
use Rattle.sect_front.specs.steps.Places.{follows, takes, after}
use Rattle.sect_front.proofs.{TokenFaults.{TokenFault, JudgesTokens}, Places.{read_behind, all_end}}
use Rattle.sect_front.proofs.{Leading.{after_then, source_after}, OneTree.{one_tree}}
use Rattle.sect_front.proofs.Peaks.{peak, peak_from, peak_append, depth_peak, shallow_from}
use Rattle.sect_front.proofs.shared.Listed.{tokens_same}
use Rattle.sect_lemmas.proofs.Options.{some_injective, none_or_some}
use Rattle.sect_front.specs.declared.expected.Expected.TheVariants as expected
use Rattle.sect_front.proofs.TokenFaults as fault

-- where a text begins
abbrev pub start : List Expected
start = expected.Records ∷ []

-- what leads from the start on is viable
pub viable : (front : List Token) (ps : List Expected) → after start front ≡ Some ps → IsViable front
viable front ps h =
    let e = all_end ps [] in
    let r = read_behind start front ps e.0 [] h e.1 in
    let t = r.1 in
    let tree : TreeView = record { records = t.0; globals = t.1; procedures = t.2; threads = t.3 } in
    (tree, e.0, tokens_same tree ∙ (ap (source_tokens tree) (sym r.2) ∙ sym t.4))

-- one more token
pub after_one : (ps : List Expected) (front : List Token) (t : Token) (rest : List Token) → after start front ≡ Some ps
    → after start (front ++ t ∷ rest) ≡ after ps (t ∷ rest)
after_one ps front t rest h = after_then start ps front (t ∷ rest) h

taken_one : (e : Expected) (ps : List Expected) (t : Token) → takes e t ≡ true
    → (qs : List Expected) × (after (e ∷ ps) (t ∷ []) ≡ Some qs)
taken_one e ps t h = go (follows e t) h
  where
    go : (o : Option (List Expected)) → is_some o ≡ true
        → (qs : List Expected) × (option_and_then (λ list. after (list ++ ps) []) o ≡ Some qs)
    go None h = absurd cc
    go (Some list) h = (list ++ ps, refl)

-- a token that may stand there
pub viable_with : (front : List Token) (e : Expected) (ps : List Expected) (t : Token) → after start front ≡ Some
    (e ∷ ps)
    → takes e t ≡ true → IsViable (front ++ t ∷ [])
viable_with front e ps t h k =
    let one = taken_one e ps t k in viable (front ++ t ∷ []) one.0 (after_one (e ∷ ps) front t [] h ∙ one.1)

refused_one : (e : Expected) (ps : List Expected) (t : Token) (rest : List Token) → takes e t ≡ false
    → after (e ∷ ps) (t ∷ rest) ≡ None
refused_one e ps t rest h = go (follows e t) h
  where
    go : (o : Option (List Expected)) → is_some o ≡ false
        → option_and_then (λ list. after (list ++ ps) rest) o ≡ None
    go None h = refl
    go (Some list) h = absurd cc

pub not_viable : (front : List Token) (e : Expected) (ps : List Expected) (t : Token) → after start front ≡ Some
    (e ∷ ps)
    → takes e t ≡ false → IsViable (front ++ t ∷ []) → ⊥
not_viable front e ps t h k v =
    let one : after start (front ++ t ∷ v.1) ≡ None = after_one (e ∷ ps) front t v.1 h ∙ refused_one e ps t v.1 k in
    let tree = source_after v.0 in
    let all : after start (front ++ t ∷ v.1) ≡ Some (tree.0 ∷ []) =
    ap (after start) (sym (append_assoc front (t ∷ []) v.1) ∙ (sym v.2 ∙ tokens_same v.0)) ∙ tree.2 in
    none_or_some (tree.0 ∷ []) (sym one ∙ all)

pub unexpected : (list : List Token) (i : ℕ) (e : Expected) (ps : List Expected) (t : Token)
    → after start (take i list) ≡ Some (e ∷ ps) → peak 0 (take i list) ≤ 32 → i < length list
    → take (i + 1) list ≡ take i list ++ t ∷ [] → takes e t ≡ false → IsUnexpectedAt list i
unexpected list i e ps t h low within same none = record {
  within = within;
  before = viable (take i list) (e ∷ ps) h;
  here = λ v. not_viable (take i list) e ps t h none (subst IsViable same v);
  shallow = shallow_from (take i list) low;
}

open_append : (k : ℕ) (v : List Token) (t : Token) → open_after k (v ++ t ∷ []) ≡ brace (open_after k v) t
open_append k [] t = refl
open_append k (u ∷ v) t = open_append (brace k u) v t

pub too_deep : (list : List Token) (i : ℕ) (e : Expected) (ps : List Expected) (t : Token)
    → after start (take i list) ≡ Some (e ∷ ps) → peak 0 (take i list) ≤ 32 → i < length list
    → take (i + 1) list ≡ take i list ++ t ∷ [] → takes e t ≡ true
    → brace (open_after 0 (take i list)) t ≡ most_depth + 1 → IsTooDeepAt list i
too_deep list i e ps t h low within same some deep = record {
  within = within;
  here = subst IsViable (sym same) (viable_with (take i list) e ps t h some);
  deep = ap (open_after 0) same ∙ (open_append 0 (take i list) t ∙ deep);
  shallow = shallow_from (take i list) low;
}

-- a declaration that is begun is followed by more than one place
pub unfinished : (list : List Token) (e d : Expected) (ps : List Expected)
    → after start list ≡ Some (e ∷ (ps ++ d ∷ [])) → peak 0 list ≤ 32 → IsUnfinished list
unfinished list e d ps h low = record {
  viable = viable list (e ∷ (ps ++ d ∷ [])) h;
  none = λ tree same.
      let k = source_after tree in
      let one : e ∷ (ps ++ d ∷ []) ≡ k.0 ∷ [] = some_injective (e ∷ (ps ++ d ∷ [])) (k.0 ∷ [])
      (sym h ∙ (ap (after start) (sym same ∙ tokens_same tree) ∙ k.2)) in
      some_behind ps (ap (drop 1) one);
  shallow = shallow_from list low;
}
  where
    some_behind : (ps : List Expected) → ps ++ d ∷ [] ≡ [] → ⊥
    some_behind [] e = cc
    some_behind (p ∷ ps) e = cc

-- the tokens of a tree are no more than so deep
pub is_tree : (list : List Token) (tree : TreeView) → list ≡ source_tokens tree [] → peak 0 list ≤ 32 → IsTree list tree
is_tree list tree e low = let same : tokens_of tree ≡ list = tokens_same tree ∙ sym e in
    record { tokens = same; shallow = omega (arith, depth_peak tree, ap (peak 0) same, low) }

-- only this tree
abbrev pub IsGiven : TreeView → Result TreeView TokenFault → Type 0
IsGiven tree (Ok given) = given ≡ tree
IsGiven tree (Err _) = ⊥

-- a tree is given wherever there is one
pub given : (list : List Token) (result : Result TreeView TokenFault) → JudgesTokens list result → (tree : TreeView)
    → IsTree list tree → IsGiven tree result
given list (Ok found) h tree p =
    one_tree found tree (sym (tokens_same found) ∙ (h.tokens ∙ (sym p.tokens ∙ tokens_same tree)))
given list (Err (fault.Unexpected i)) h tree p =
    h.here (tree, drop (i + 1) list, p.tokens ∙ sym (take-append-drop (i + 1) list))
given list (Err (fault.TooDeep i)) h tree p =
    absurd (omega (
      arith,
      depth_peak tree,
      ap (peak 0) p.tokens,
      p.shallow,
      ap (peak 0) (take-append-drop (i + 1) list),
      peak_append 0 (take (i + 1) list) (drop (i + 1) list),
      peak_from (open_after 0 (take (i + 1) list)) (drop (i + 1) list),
      h.deep,
    ))
given list (Err fault.Unfinished) h tree p = h.none tree p.tokens
