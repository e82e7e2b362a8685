-- How one range is found among those of the parts of a tree.
use Rattle.std.proofs.Common.{◌≡◌, ℕ, zero, suc, ◌+◌, ◌-◌, ◌*◌, ◌<◌, ◌≤◌, List, [], ◌∷◌, Some, length, get_or, drop}
use Rattle.std.proofs.{Common.{slice_get, sym, ◌∙◌, ap, arith, subst}, lemmas.Option.{slice_get_past}}
use Rattle.std.proofs.lemmas.List.{drop_all}
use Rattle.sect_lemmas.proofs.{Options.{none_or_some}, Places.{at_of}, Elements.{drop_next}}
use Rattle.sect_front.specs.{TreeView.{TreeView}, Grammar.{tokens_of}, declared.tree.Declaration.{Declaration}}
use Rattle.sect_front.specs.{declared.tree.Record.{Record}, declared.tree.Procedure.{Procedure}}
use Rattle.sect_front.specs.{declared.tree.Thread.{Thread}, declared.tree.GlobalObject.{GlobalObject}}
use Rattle.sect_places.specs.declared.range.TokenRange.{TokenRange}
use Rattle.sect_places.specs.Counts.{records_count, procedures_count, threads_count}
use Rattle.sect_places.specs.Ranges.{AreAmong, range, declarations_ranges, globals_ranges, item_tokens}
use Rattle.sect_types.specs.Items.{items}
use Rattle.sect_places.specs.steps.Seeking.{IsFound, IsBehind, parts_ranges, parts_count}
use Rattle.sect_places.proofs.{Past.{count_is}, Owned.{are_own, own_many}, Walked.{IsList}}

-- of fields, parameters or locals, and of globals
pub declared_found : (n : ℕ) (ds : List Declaration) (k : ℕ) → k < length ds
    → IsFound k (declarations_ranges n ds) (range (n + 3 * k) 2)
declared_found n [] k h w = absurd (omega (arith, h))
declared_found n (d ∷ ds) zero h w = ap (λ m. Some (range m 2)) (omega arith)
declared_found n (d ∷ ds) (suc k) h w =
    declared_found (n + 3) ds k (omega (arith, h)) w ∙ ap (λ m. Some (range m 2)) (omega arith)

pub declared_behind : (n : ℕ) (ds : List Declaration) (k m : ℕ) → length ds ≤ k → m ≡ k - length ds
    → IsBehind k (declarations_ranges n ds) m
declared_behind n [] k m h e w = ap (slice_get w) (omega (arith, e))
declared_behind n (d ∷ ds) zero m h e w = absurd (omega (arith, h))
declared_behind n (d ∷ ds) (suc k) m h e w = declared_behind (n + 3) ds k m (omega (arith, h)) (omega (arith, e)) w

pub global_found : (n : ℕ) (gs : List GlobalObject) (k : ℕ) → k < length gs
    → IsFound k (globals_ranges n gs) (range (n + 4 * k) 3)
global_found n [] k h w = absurd (omega (arith, h))
global_found n (g ∷ gs) zero h w = ap (λ m. Some (range m 3)) (omega arith)
global_found n (g ∷ gs) (suc k) h w =
    global_found (n + 4) gs k (omega (arith, h)) w ∙ ap (λ m. Some (range m 3)) (omega arith)

pub global_behind : (n : ℕ) (gs : List GlobalObject) (k m : ℕ) → length gs ≤ k → m ≡ k - length gs
    → IsBehind k (globals_ranges n gs) m
global_behind n [] k m h e w = ap (slice_get w) (omega (arith, e))
global_behind n (g ∷ gs) zero m h e w = absurd (omega (arith, h))
global_behind n (g ∷ gs) (suc k) m h e w = global_behind (n + 4) gs k m (omega (arith, h)) (omega (arith, e)) w

-- the first i parts don't have it: it is that of number m in what is left, whose first token has the number `at`
pub record Sought {X : Type 0} (total : List X → ℕ) (all : ℕ → List X → List TokenRange → List TokenRange)
    (xs : List X) (i from at k m : ℕ) : Type 0 where
  pub counted : at + total (drop i xs) ≡ from + total xs
  pub behind : (w : List TokenRange) → slice_get (all from xs w) k ≡ slice_get (all at (drop i xs) w) m

module _ {X : Type 0} (size : X → ℕ) (total : List X → ℕ)
    (each : ℕ → X → List TokenRange → List TokenRange) (all : ℕ → List X → List TokenRange → List TokenRange)
    (is : IsList size total each all) (xs : List X) (i from at k m : ℕ) (h : Sought total all xs i from at k m) where
  pub sought_room : (x : X) (most : ℕ) → i < length xs → x ≡ get_or xs i x → from + total xs < most
      → at + size x < most
  sought_room x most lt e fits =
      omega (arith, h.counted, ap total (drop_next xs i x lt e), is.more x (drop (i + 1) xs), fits)

  -- what is left begins with the next part
  next_part : (x : X) → i < length xs → x ≡ get_or xs i x → (w : List TokenRange)
      → slice_get (all from xs w) k ≡ slice_get (each at x (all (at + size x) (drop (i + 1) xs) w)) m
  next_part x lt e w =
      h.behind w ∙ ap (λ ys. slice_get (all at ys w) m) (drop_next xs i x lt e)
      ∙ ap (λ ys. slice_get ys m) (is.step at x (drop (i + 1) xs) w)

  pub sought_here : (x : X) (r : TokenRange) → i < length xs → x ≡ get_or xs i x → IsFound m (each at x) r
      → IsFound k (all from xs) r
  sought_here x r lt e f w = next_part x lt e w ∙ f (all (at + size x) (drop (i + 1) xs) w)

  pub sought_more : (x : X) (next l : ℕ) → i < length xs → x ≡ get_or xs i x → next ≡ at + size x
      → IsBehind m (each at x) l → Sought total all xs (i + 1) from next k l
  sought_more x next l lt e sum f = record {
    counted = omega (arith, h.counted, ap total (drop_next xs i x lt e), is.more x (drop (i + 1) xs), sum);
    behind = λ w. next_part x lt e w ∙ f (all (at + size x) (drop (i + 1) xs) w)
        ∙ ap (λ n. slice_get (all n (drop (i + 1) xs) w) l) (sym sum);
  }

  pub sought_count : length xs ≤ i → at ≡ from + total xs
  sought_count end = omega (arith, h.counted, ap total (drop_all i xs end), is.none)

  pub sought_behind : length xs ≤ i → IsBehind k (all from xs) m
  sought_behind end w =
      h.behind w ∙ ap (λ ys. slice_get (all at ys w) m) (drop_all i xs end)
      ∙ ap (λ ys. slice_get ys m) (is.nothing at w)

-- a range that is found among others is one of them
pub found_among : (total : ℕ) (rs : List TokenRange) (i : ℕ) (r : TokenRange) → AreAmong total rs
    → slice_get rs i ≡ Some r → (0 < r.count) × (r.first + r.count ≤ total)
found_among total [] i r h e = absurd cc
found_among total (x ∷ rs) zero r h e =
    let same : x ≡ r = cc in
    subst (λ (y : TokenRange). (0 < y.count) × (y.first + y.count ≤ total)) same (h.0, h.1)
found_among total (x ∷ rs) (suc i) r h e = found_among total rs i r h.2 e

-- each item of a tree has a range
pub items_count : (t : TreeView) → length (item_tokens t) ≡ length (items t)
items_count t = own_many (tokens_of t) (item_tokens t) (items t) (are_own t)

module _ (t : TreeView) (rs : List Record) (gs : List GlobalObject) (ps : List Procedure) (ts : List Thread)
    (e1 : rs ≡ t.records) (e2 : gs ≡ t.globals) (e3 : ps ≡ t.procedures) (e4 : ts ≡ t.threads) (item : ℕ) where
  pub parts_fit : length (tokens_of t) < 18446744073709551616 → parts_count rs gs ps ts < 18446744073709551616
  parts_fit fits = omega (
    arith,
    count_is t,
    ap records_count e1,
    ap length e2,
    ap procedures_count e3,
    ap threads_count e4,
    fits,
  )

  parts_are : parts_ranges rs gs ps ts [] ≡ item_tokens t
  parts_are = λ i. parts_ranges (e1 i) (e2 i) (e3 i) (e4 i) []

  pub item_is : (r : TokenRange) → IsFound item (parts_ranges rs gs ps ts) r → slice_get (item_tokens t) item ≡ Some r
  item_is r h = ap (λ w. slice_get w item) (sym parts_are) ∙ h []

  pub item_left : (n : ℕ) → IsBehind item (parts_ranges rs gs ps ts) n → item < length (items t) → ⊥
  item_left n h lt =
      let some = at_of (item_tokens t) item (omega (arith, items_count t, lt)) in
      none_or_some some.0 (sym (ap (λ w. slice_get w item) (sym parts_are) ∙ h [] ∙ slice_get_past [] n (omega arith))
      ∙ some.1)
