-- The locks that are found for a section.
use Rattle.std.proofs.Common.{◌≡◌, ◌↔◌, ℕ, ◌+◌, ◌<◌, ◌≤◌, map, List, [], ◌∷◌, Some, length, inl, inr, refl}
use Rattle.std.proofs.{Common.{sym, ap, ◌∙◌, subst, append-nil, arith}, lemmas.Bool.{cases_lt}}
use Rattle.std.proofs.{lemmas.List.{length-map}, lemmas.Option.{slice_get_within, get_or_from_slice_get}}
use Rattle.std.specs.Prelude.{slice_get, slice_index_or}
use Rattle.sect_lemmas.proofs.{Places.{one_at}, Replaced.{slice_get-map}}
use Rattle.sect_lemmas.specs.Lists.{Has}
use Rattle.sect_front.specs.declared.tree.Locking.{Locking}
use Rattle.sect_types.specs.{Statements.{TextView}, Traces.{Visit}}
use Rattle.sect_graph.specs.{declared.flow.Node.{Node}, Graphs.{IsGraphOf}, Paths.{IsPath}}
use Rattle.sect_names.specs.{declared.lock.Lock.{Lock}, Schemes.{SchemeView}, Locks.{IsLockOf}}
use Rattle.sect_names.specs.{Needed.{end_locks, CarriedOver, IsNeededOn, IsNeeded, IsNeededFrom}, Order.{AreMaximal}}
use Rattle.sect_names.proofs.shared.Maximals.{maximal_as, maximal_least}
use Rattle.sect_infer.specs.steps.{Needs.{need, IsDerived, AreLawful}, Working.{IsSettled}, Listing.{IsOrder, listed}}
use Rattle.sect_infer.specs.steps.Found.{AreFound, AreAllOnAll, IsFound, IsOnAll, AreFirstFound}
use Rattle.sect_infer.specs.Numberings.{NumberingView, HasLock, AreNumbers, IsNumbering}
use Rattle.sect_infer.specs.Sets.{LocksView, AreNeeded, AreLocksOf, AreTaken}
use Rattle.sect_infer.proofs.{Settling.{derived_lock}, Listing.{maximal_of, listed_maximal}, Meaning.{derived_from}}
use Rattle.sect_front.specs.declared.tree.Locking.TheVariants as locking
use Rattle.sect_names.specs.declared.lock.Lock.TheVariants as lock

-- a lock that the end of a section generates is on all
pub end_is_all : (l : Locking) (x : Lock) → end_locks l ≡ x ∷ [] → x ≡ lock.All
end_is_all locking.Inferred x is = absurd cc
end_is_all locking.All x is = cc

module _ (s : SchemeView) (t : ℕ) (g : List Node) where
  -- where the work has settled, each node's list has the maximal locks of those that are derived there
  pub are_found : (a : NumberingView) (lists : List (List ℕ)) (order : List ℕ) → IsSettled s t g a lists
      → IsOrder a.keys lists order → AreFound s t g (map (listed a order) lists)
  are_found a lists order settled o = record {
    count = length-map lists (listed a order) ∙ settled.numbered.count;
    each = λ j locks at.
        let ns = slice_get-map (listed a order) lists j locks at in
        let here : slice_index_or lists j [] ≡ ns.0 = get_or_from_slice_get lists j ns.0 [] ns.1 in
        let there = subst (AreNumbers a.keys) here (settled.numbered.numbers j) in
        subst (AreMaximal s (λ l. IsDerived s t g (need j l))) ns.2
        (maximal_of s (HasLock a.keys ns.0) (λ l. IsDerived s t g (need j l)) (listed a order ns.0)
        (λ l h. settled.derived j l (subst (λ ms. HasLock a.keys ms l) (sym here) h))
        (λ l d. let over = settled.covered j l d in
        (over.0, subst (λ ms. HasLock a.keys ms over.0) here over.1, over.2))
        (listed_maximal s a settled.numbered.numbering lists order o ns.0 there
        (λ n h. (j, subst (λ ms. Has ms n) (sym here) h))));
  }

  -- and so that of the first node alone
  pub first_found : (a : NumberingView) (lists : List (List ℕ)) (order : List ℕ) → IsSettled s t g a lists
      → IsOrder a.keys (slice_index_or lists 0 [] ∷ []) order
      → AreFirstFound s t g (listed a order (slice_index_or lists 0 []))
  first_found a lists order settled o =
      let ns = slice_index_or lists 0 [] in
      maximal_of s (HasLock a.keys ns) (λ l. IsDerived s t g (need 0 l)) (listed a order ns)
      (settled.derived 0) (settled.covered 0)
      (listed_maximal s a settled.numbered.numbering (ns ∷ []) order o ns (settled.numbered.numbers 0)
      (λ n h. (0, h)))

  pub first_lawful : AreLawful s t g → (locks : List Lock) → AreFirstFound s t g locks → (l : Lock) → Has locks l
      → IsLockOf s t l
  first_lawful lawful locks found l h =
      let d = ((found.kept_are l).0 h).0 in
      (derived_lock s t g lawful d.0 (need 0 l) d.1).1

  -- the locks at each node are the program's
  pub found_lawful : AreLawful s t g → (lists : List (List Lock)) → AreFound s t g lists → (j : ℕ) (locks : List Lock)
      → slice_get lists j ≡ Some locks → (l : Lock) → Has locks l → IsLockOf s t l
  found_lawful lawful lists found j locks at l h =
      let d = (((found.each j locks at).kept_are l).0 h).0 in
      (derived_lock s t g lawful d.0 (need j l) d.1).1

  module _ (last : List Lock) (body : TextView) (graph : IsGraphOf body g) where
    -- what is needed from the first node on is what is needed at the entry
    needed_first : (l : Lock) → IsNeededFrom s t last body g 0 l ↔ IsNeeded s t last body l
    needed_first l = (
      λ h. (h.0, (graph.paths h.0).0 ((graph.rests 0 (omega arith) h.0).1 h.1), h.2),
      λ h. (h.0, (graph.rests 0 (omega arith) h.0).0 ((graph.paths h.0).1 h.1), h.2),
    )

    -- what is needed from the first node on is taken at the entry
    pub taken_of : (entry : List Lock) → AreMaximal s (IsNeededFrom s t last body g 0) entry
        → AreTaken s last (record { thread = t; body = body }) entry
    taken_of entry most =
        let max = maximal_as s (IsNeededFrom s t last body g 0) (IsNeeded s t last body) entry needed_first most in
        record {
          needed = λ l h. ((max.kept_are l).0 h).0;
          least = maximal_least s t last body entry max;
          in_order = max.in_order;
        }

    -- lists that have what is needed at each node are the section's locks
    pub locks_of : (locks : LocksView) → slice_get locks.at 0 ≡ Some locks.entry → AreNeeded s t last body g locks.at
        → AreLocksOf s last (record { thread = t; body = body }) g locks
    locks_of locks first needed =
        let taken = taken_of locks.entry (needed.each 0 locks.entry first) in
        record {
          needed = needed;
          first = first;
          entry_needed = taken.needed;
          least = taken.least;
          in_order = taken.in_order;
        }

  module _ (body : TextView) (graph : IsGraphOf body g) where
    -- what is found is what is needed where the end generates nothing
    pub found_needed : (lists : List (List Lock)) → AreFound s t g lists → AreNeeded s t [] body g lists
    found_needed lists found = record {
      count = found.count;
      each = λ j locks at.
          maximal_as s (λ l. IsDerived s t g (need j l)) (IsNeededFrom s t [] body g j) locks
          (λ l. derived_from s t g body graph j l (omega (arith, slice_get_within lists j locks at, found.count)))
          (found.each j locks at);
    }

    abbrev on_all : List Lock
    on_all = lock.All ∷ []

    -- the lock on all stays over all steps
    carried_all : (steps : List Visit) → CarriedOver s t steps lock.All lock.All
    carried_all [] = refl
    carried_all (a ∷ steps) = (lock.All, carried_all steps, refl)

    needed_on_all : (steps : List Visit) → IsNeededOn s t on_all steps lock.All
    needed_on_all steps = (steps, [], lock.All, sym (append-nil steps), inl refl, carried_all steps)

    -- control goes on from each node to the exit
    goes_on : (j : ℕ) → j ≤ length g → (steps : List Visit) × IsPath g j steps (length g)
    goes_on j within = elim (cases_lt j (length g)) [
      | inl there ↦ graph.connected.exits j there
      | inr past ↦ ([], omega (arith, within, past))
    ]

    -- where the end generates the lock on all, it is needed from each node on
    needed_all : (j : ℕ) → j ≤ length g → IsNeededFrom s t on_all body g j lock.All
    needed_all j within =
        let p = goes_on j within in
        (p.0, (graph.rests j within p.0).0 p.1, needed_on_all p.0)

    -- the lock on all at each node is what is needed where the end generates it
    pub all_needed : (lists : List (List Lock)) → AreAllOnAll s (length g + 1) lists → AreNeeded s t on_all body g lists
    all_needed lists all = record {
      count = all.counted;
      each = λ j locks at.
          let within : j ≤ length g = omega (arith, slice_get_within lists j locks at, all.counted) in
          maximal_of s (λ l. l ≡ lock.All) (IsNeededFrom s t on_all body g j) locks
          (λ l e. subst (IsNeededFrom s t on_all body g j) (sym e) (needed_all j within))
          (λ l n. (lock.All, refl, tt)) (all.each j locks at);
    }

  -- what is found at the first node is taken
  pub first_taken : (body : TextView) → IsGraphOf body g → (locks : List Lock) → AreFirstFound s t g locks
      → AreTaken s [] (record { thread = t; body = body }) locks
  first_taken body graph locks found = taken_of [] body graph locks
      (maximal_as s (λ l. IsDerived s t g (need 0 l)) (IsNeededFrom s t [] body g 0) locks
      (λ l. derived_from s t g body graph 0 l (omega arith)) found)

  -- so what is found are the locks of a section that takes what it needs, or the lock on all
  pub inferred_of : (body : TextView) → IsGraphOf body g → (locks : LocksView) → IsFound s t g locks
      → AreLocksOf s [] (record { thread = t; body = body }) g locks
  inferred_of body graph locks found =
      locks_of [] body graph locks found.first (found_needed body graph locks.at found.found)

  pub on_all_of : (body : TextView) → IsGraphOf body g → (locks : LocksView) → IsOnAll s (length g + 1) locks
      → AreLocksOf s (lock.All ∷ []) (record { thread = t; body = body }) g locks
  on_all_of body graph locks found =
      locks_of (lock.All ∷ []) body graph locks found.first (all_needed body graph locks.at found.all)

-- the locks on all are the program's
pub all_lawful : (s : SchemeView) (t n : ℕ) (lists : List (List Lock)) → AreAllOnAll s n lists
    → (j : ℕ) (locks : List Lock) → slice_get lists j ≡ Some locks → (l : Lock) → Has locks l → IsLockOf s t l
all_lawful s t n lists all j locks at l h = subst (IsLockOf s t) (sym (((all.each j locks at).kept_are l).0 h).0) tt

-- lists that each have the number of the lock on all
pub are_on_all : (s : SchemeView) (a : NumberingView) (lists : List (List ℕ)) (order : List ℕ) (count n : ℕ)
    → IsNumbering s a
    → slice_get a.keys n ≡ Some lock.All → IsOrder a.keys lists order → length lists ≡ count
    → ((j : ℕ) → j < count → slice_index_or lists j [] ≡ n ∷ []) → AreAllOnAll s count (map (listed a order) lists)
are_on_all s a lists order count n is at o long each = record {
  counted = length-map lists (listed a order) ∙ long;
  each = λ j locks got.
      let ns = slice_get-map (listed a order) lists j locks got in
      let within = slice_get_within lists j ns.0 ns.1 in
      let here : ns.0 ≡ n ∷ [] = sym (get_or_from_slice_get lists j ns.0 [] ns.1)
      ∙ each j (omega (arith, within, long)) in
      let there : AreNumbers a.keys ns.0 =
      λ m h. (let w = slice_get_within a.keys n lock.All at in
      elim (subst (λ ms. Has ms m) here h) [ inl e ↦ omega (arith, w, e) | inr none ↦ absurd none ]) in
      subst (AreMaximal s (λ l. l ≡ lock.All)) ns.2
      (maximal_as s (HasLock a.keys ns.0) (λ l. l ≡ lock.All) (listed a order ns.0)
      (λ l. (
        λ h. elim (subst (λ ms. Has ms h.0) here h.1) [
          | inl e ↦ one_at a.keys n l lock.All (subst (λ m. slice_get a.keys m ≡ Some l) (sym e) h.2) at
          | inr none ↦
              absurd none
        ],
        λ e. (n, subst (λ ms. Has ms n) (sym here) (inl refl), at ∙ ap (λ x. Some x) (sym e)),
      ))
      (listed_maximal s a is lists order o ns.0 there
      (λ m h. (j, subst (λ ms. Has ms m) (sym (get_or_from_slice_get lists j ns.0 [] ns.1)) h))));
}
