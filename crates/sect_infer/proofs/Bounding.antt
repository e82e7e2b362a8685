-- The worklist ends, since the lists that only grow have bounded lengths.
use Rattle.std.proofs.Common.{◌≡◌, ℕ, zero, suc, ◌+◌, ◌-◌, ◌*◌, ◌<◌, ◌≤◌, List, [], ◌∷◌, ◌++◌, Some, Bool, true, false}
use Rattle.std.proofs.Common.{map, set, length, length-append, refl, sym, ap, ◌∙◌, subst, arith, inl, inr}
use Rattle.std.proofs.{lemmas.List.{length-map}, lemmas.Map.Views.{length-le_from_below}, Math.Nat.{mul-le-mul_left}}
use Rattle.std.specs.{Prelude.{slice_index_or}, List.{All}, List.Sorted.{IsStrictlySortedBy}, Ordering.{nat_cmp}}
use Rattle.sect_lemmas.specs.Lists.{Has}
use Rattle.sect_lemmas.proofs.Membership.{Has-unmap, Has-get_or}
use Rattle.sect_graph.specs.declared.flow.Node.{Node}
use Rattle.sect_names.specs.{declared.lock.Lock.{Lock}, contracts.lock.LockEq.TheImpl.Laws.{laws-law as the_lock_laws}}
use Rattle.sect_names.specs.Schemes.{SchemeView}
use Rattle.sect_names.proofs.shared.{Finiteness.{all_locks, finite_locks}, Telling.{lock_tells}}
use Rattle.sect_infer.specs.{Numbers.{AreApart}, Numberings.{NumberingView, AreNumbers, lock_at}}
use Rattle.sect_infer.specs.steps.{Needs.{AreLawful}, Working.{IsVisit, IsWorking}}
use Rattle.sect_infer.proofs.shared.{Apart.{apart_one, apart_short}, Bounding.{named}}
use Rattle.sect_infer.proofs.Settling.{lawful_at}

-- how long the lists are together
total : {X : Type 0} → List (List X) → ℕ
total [] = 0
total (xs ∷ lists) = length xs + total lists

-- one list is longer
total_more : {X : Type 0} (lists : List (List X)) (j : ℕ) (more : List X) → j < length lists
    → total (set lists j (slice_index_or lists j [] ++ more)) ≡ total lists + length more
unfolding total
total_more [] j more there = absurd (omega (arith, there))
total_more (xs ∷ lists) zero more there = let long = length-append xs more in omega (arith, long)
total_more (xs ∷ lists) (suc j) more there = let rest = total_more lists j more (omega (arith, there)) in
    omega (arith, rest)

-- so many for each
times : ℕ → ℕ → ℕ
times zero most = 0
times (suc n) most = most + times n most

-- each list is at most so long
total_most : {X : Type 0} (lists : List (List X)) (most : ℕ) → ((j : ℕ) → length (slice_index_or lists j []) ≤ most)
    → total lists ≤ times (length lists) most
unfolding total times
total_most [] most each = omega arith
total_most (xs ∷ lists) most each =
    let first : length xs ≤ most = each 0 in
    let rest = total_most lists most (λ j. each (suc j)) in
    omega (arith, first, rest)

-- locks of numbers that are apart are apart
named_apart : (keys : List Lock) (ns : List ℕ) → AreApart keys → AreNumbers keys ns → AreApart ns
    → AreApart (map (lock_at keys) ns)
named_apart keys [] apart there a = tt
named_apart keys (n ∷ ns) apart there a = (
  λ h. (let m = Has-unmap (lock_at keys) ns (lock_at keys n) h in
      let same = apart_one keys m.0 n (lock_at keys n) apart
      (named keys m.0 (there m.0 (inr m.1)) ∙ ap (λ x. Some x) m.2) (named keys n (there n (inl refl))) in
      a.0 (subst (Has ns) same m.1)),
  named_apart keys ns apart (λ m h. there m (inr h)) a.1,
)

module _ (s : SchemeView) (t : ℕ) (g : List Node) (lawful : AreLawful s t g) where
  -- a node has at most all locks of the program
  few : (a : NumberingView) (lists : List (List ℕ)) (waiting : List ℕ) → IsWorking s t g a lists waiting → (j : ℕ)
      → length (slice_index_or lists j []) ≤ length (all_locks s)
  few a lists waiting w j =
      let ns : List ℕ = slice_index_or lists j [] in
      let there = w.numbered.numbers j in
      let short = apart_short the_lock_laws lock_tells (map (lock_at a.keys) ns) (all_locks s)
      (named_apart a.keys ns w.numbered.numbering.apart there (w.numbered.apart j))
      (λ l h. let n = Has-unmap (lock_at a.keys) ns l h in
      finite_locks s t l (lawful_at s t g lawful a lists w.derived j l
      (n.0, n.1, named a.keys n.0 (there n.0 n.1) ∙ ap (λ x. Some x) n.2))) in
      omega (arith, short, length-map ns (lock_at a.keys))

-- numbers that are below another
all_below : (n : ℕ) (xs : List ℕ) → ((x : ℕ) → Has xs x → x < n) → All (λ x. x < n) xs
all_below n xs each = λ i d within. each (slice_index_or xs i d) (Has-get_or xs i d within)

-- what is left to be found, and how many nodes wait
pub measure : SchemeView → List Node → List (List ℕ) → List ℕ → ℕ
measure s g lists waiting = (length g + 1) * (times (length lists) (length (all_locks s)) - total lists) + length
    waiting

-- a measure of two parts, of which the first falls
less : (m x y v w : ℕ) → y + 1 ≤ x → v < m → m * y + v < m * x + w
less m x y v w h k = let p = mul-le-mul_left m h in omega (arith, p, k)

-- each visit takes a node out, or finds more
module _ (s : SchemeView) (t : ℕ) (g : List Node) (lawful : AreLawful s t g) (a d : NumberingView)
    (before after : List (List ℕ)) (rest later : List ℕ) (j : ℕ) (any : Bool) (within : j < length g)
    (w : IsWorking s t g a before (rest ++ j ∷ [])) (v : IsVisit s t g a before d after j any)
    (new : IsWorking s t g d after later) where
  -- the lists have grown by what is more
  longer : total after ≡ total before + length v.more
  longer = ap total v.changed ∙ total_more before j v.more (omega (arith, within, w.numbered.count))

  same_count : length after ≡ length before
  same_count = v.numbered.count ∙ sym w.numbered.count

  -- a node less waits
  pub quiet_less : any ≡ false → later ≡ rest → measure s g after later < measure s g before (rest ++ j ∷ [])
  unfolding measure
  quiet_less off is =
      let same : total after ≡ total before = longer ∙ ap (λ m. total before + length m) (v.none off) ∙ omega arith in
      rw (same_count, same, is) (omega (arith, length-append rest (j ∷ [])))

  -- less is left to be found
  pub busy_less : any ≡ true → IsStrictlySortedBy nat_cmp later
      → measure s g after later < measure s g before (rest ++ j ∷ [])
  unfolding measure
  busy_less on sorted =
      let most = total_most after (length (all_locks s)) (few s t g lawful d after later new) in
      let waiting = length-le_from_below (length g) later sorted (all_below (length g) later new.nodes) in
      let bound = ap (λ n. times n (length (all_locks s))) same_count in
      less (length g + 1) (times (length before) (length (all_locks s)) - total before)
      (times (length after) (length (all_locks s)) - total after) (length later) (length (rest ++ j ∷ []))
      (omega (arith, longer, v.some on, most, bound)) (omega (arith, waiting))
