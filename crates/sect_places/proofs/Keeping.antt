-- Names that are kept as they go by.
use Rattle.std.proofs.Common.{◌≡◌, ℕ, suc, ◌+◌, ◌≤◌, Bool, true, false, List, [], ◌∷◌, ◌++◌, Some, length, refl, sym}
use Rattle.std.proofs.Common.{◌∙◌, ap, arith, append-nil, if◌then◌else◌}
use Rattle.std.specs.Prelude.{filter, slice_get}
use Rattle.sect_front.specs.{TreeView.{TreeView}, declared.tree.Record.{Record}}
use Rattle.sect_front.specs.{declared.tree.GlobalObject.{GlobalObject}, declared.tree.Procedure.{Procedure}}
use Rattle.sect_front.specs.declared.tree.Thread.{Thread}
use Rattle.sect_places.specs.ItemCounts.{items_in_records, items_in_procedures}
use Rattle.sect_places.specs.Origins.{first_procedure, first_thread}
use Rattle.sect_places.specs.NameUses.{records_uses, globals_uses, procedures_uses, threads_uses, name_uses}
use Rattle.sect_places.specs.{declared.name_use.NameUse.{NameUse}, declared.wish.Wish.{Wish}}
use Rattle.sect_places.specs.steps.Wanting.{KeptView, Passes, behind, nothing_kept, is_taken, numbers_from}

-- nothing more goes by
pub behind_none : (k : KeptView) → behind k [] ≡ k
unfolding behind
behind_none k =
    let more : k.passed + 0 ≡ k.passed = omega arith in
    λ i. record {
      wish = k.wish;
      passed = more i;
      numbers = append-nil k.numbers i;
      uses = append-nil k.uses i;
    }

-- all names of a tree have gone by, those of each part after those of the part before
module _ (t : TreeView) (rs : List Record) (gs : List GlobalObject) (ps : List Procedure) (ts : List Thread)
    (of_records : rs ≡ t.records) (of_globals : gs ≡ t.globals) (of_procedures : ps ≡ t.procedures)
    (of_threads : ts ≡ t.threads)
  where
    pub all_gone_by : (n m l : ℕ) (none records globals procedures all : KeptView)
        → n ≡ 0 + items_in_records rs → m ≡ n + length gs → l ≡ m + items_in_procedures ps
        → Passes none records (records_uses 0 rs) → Passes records globals (globals_uses n gs)
        → Passes globals procedures (procedures_uses m ps) → Passes procedures all (threads_uses l ts)
        → all ≡ behind none (name_uses t)
    all_gone_by n m l none records globals procedures all first second third a b c d =
        let globals_from : n ≡ items_in_records t.records = omega (arith, first, ap items_in_records of_records) in
        let procedures_from : m ≡ first_procedure t = omega (arith, globals_from, second, ap length of_globals) in
        let threads_from : l ≡ first_thread t =
        omega (arith, procedures_from, third, ap items_in_procedures of_procedures) in
        sym (behind_none all)
        ∙ (d [] ∙ (c (threads_uses l ts []) ∙ (b (procedures_uses m ps (threads_uses l ts []))
        ∙ (a (globals_uses n gs (procedures_uses m ps (threads_uses l ts [])))
        ∙ (λ i. behind none (records_uses 0 (of_records i) (globals_uses (globals_from i) (of_globals i)
        (procedures_uses (procedures_from i) (of_procedures i) (threads_uses (threads_from i) (of_threads i) [])))))))))

-- how many are kept of those that have gone by
abbrev pub kept_of : Wish → List NameUse → List NameUse
kept_of which us = filter (is_taken which) us

-- the number behind those that are kept of the first is that of the first that is kept of the others
pub numbers_behind : (which : Wish) (n : ℕ) (front us : List NameUse)
    → slice_get (numbers_from which n (front ++ us)) (length (kept_of which front))
    ≡ slice_get (numbers_from which (n + length front) us) 0
numbers_behind which n [] us =
    let same : n ≡ n + 0 = omega arith in ap (λ m. slice_get (numbers_from which m us) 0) same
numbers_behind which n (u ∷ front) us =
    let same : (n + 1) + length front ≡ n + suc (length front) = omega arith in
    step (is_taken which u) (numbers_from which (n + 1) (front ++ us)) (kept_of which front)
    ∙ (numbers_behind which (n + 1) front us ∙ ap (λ m. slice_get (numbers_from which m us) 0) same)
  where
    step : (b : Bool) (ns : List ℕ) (ks : List NameUse)
        → slice_get (if b then n ∷ ns else ns) (length (if b then u ∷ ks else ks)) ≡ slice_get ns (length ks)
    step true ns ks = refl
    step false ns ks = refl

-- the first number is no smaller than that with which they begin
pub no_earlier : (which : Wish) (n m : ℕ) (us : List NameUse) → slice_get (numbers_from which n us) 0 ≡ Some m → n ≤ m
no_earlier which n m [] e = absurd cc
no_earlier which n m (u ∷ us) e = by (is_taken which u) (no_earlier which (n + 1) m us) e
  where
    by : (b : Bool) → (slice_get (numbers_from which (n + 1) us) 0 ≡ Some m → n + 1 ≤ m)
        → slice_get (if b then n ∷ numbers_from which (n + 1) us else numbers_from which (n + 1) us) 0 ≡ Some m → n ≤ m
    by true later at = let same : n ≡ m = cc in omega (arith, same)
    by false later at = let more = later at in omega (arith, more)

-- of all names of a tree that have gone by
pub kept_all : (which : Wish) (us : List NameUse) (k : KeptView) → k ≡ behind (nothing_kept which) us
    → (k.passed ≡ length us) × (k.numbers ≡ numbers_from which 0 us) × (k.uses ≡ kept_of which us)
unfolding behind
kept_all which us k e =
    let passed : k.passed ≡ 0 + length us = ap (λ (x : KeptView). x.passed) e in
    (omega (arith, passed), ap (λ (x : KeptView). x.numbers) e, ap (λ (x : KeptView). x.uses) e)

-- each that is kept has a number
pub as_many_numbers : (which : Wish) (n : ℕ) (us : List NameUse)
    → length (numbers_from which n us) ≡ length (kept_of which us)
as_many_numbers which n [] = refl
as_many_numbers which n (u ∷ us) =
    step (is_taken which u) (numbers_from which (n + 1) us) (kept_of which us) (as_many_numbers which (n + 1) us)
  where
    step : (b : Bool) (ns : List ℕ) (ks : List NameUse) → length ns ≡ length ks
        → length (if b then n ∷ ns else ns) ≡ length (if b then u ∷ ks else ks)
    step true ns ks e = ap suc e
    step false ns ks e = e
