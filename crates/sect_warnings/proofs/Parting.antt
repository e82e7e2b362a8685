-- Sections that exclude each other, though they have no field in common.
use Rattle.std.proofs.Common.{◌≡◌, ◌<◌, ℕ, ◌+◌, Bool, true, false, not, List, [], ◌∷◌, ◌++◌, map, length, take}
use Rattle.std.proofs.Common.{Option, Some, None, get_or, refl, sym, ap, ◌∙◌, subst, inl, inr, add-one}
use Rattle.std.proofs.{Common.{true≢false}, lemmas.List.{map-append, get_or_default, append_assoc}, Math.Seq.{take-suc}}
use Rattle.std.proofs.lemmas.Option.{slice_get_within}
use Rattle.std.specs.Prelude.{All, if◌then◌else◌, slice_index_or}
use Rattle.sect_lemmas.specs.Lists.{Has}
use Rattle.sect_lemmas.proofs.Membership.{Has-cases, Has-get_or, Has-unmap}
use Rattle.sect_front.specs.TreeView.{TreeView}
use Rattle.sect_types.specs.Sections.{sections_of}
use Rattle.sect_places.specs.SectionItems.{section_items_of}
use Rattle.sect_modes.specs.{declared.key.Key.{Key}, Key.{is_key_below}}
use Rattle.sect_emit.specs.Compiled.{CompiledView}
use Rattle.sect_conflicts.specs.{declared.conflict.Conflict.{Conflict}, declared.conflict.KeyClash.{KeyClash}}
use Rattle.sect_conflicts.specs.declared.conflict.Conflict.TheVariants.{Always, Sometimes, Never}
use Rattle.sect_conflicts.specs.{declared.conflict.SectionPair.{SectionPair}, Comparing.{AreCompared}}
use Rattle.sect_conflicts.specs.Conflicts.{AlwaysClash, IsConflict, IsFirstClash}
use Rattle.sect_conflicts.specs.Selecting.{Adds}
use Rattle.sect_conflicts.proofs.shared.Selecting.{adds_both, adds_none, adds_one, selected}
use Rattle.sect_warnings.specs.declared.warning.Warning.{Warning}
use Rattle.sect_warnings.specs.Apart.{ExcludeByPart, pair_warning, is_of, firsts_behind}
use Rattle.sect_warnings.specs.{Fields.{share_field, share_record}, steps.Usage.{is_all, by_part}}
use Rattle.sect_warnings.specs.Warnings.{IsDue, AreOfPairs, AreWarnings, to_section}
use Rattle.sect_warnings.proofs.Losing.{flows_due}
use Rattle.sect_modes.specs.declared.key.Key.TheVariants as key

was_false : (b : Bool) → not b ≡ true → b ≡ false
was_false true e = absurd (true≢false (sym e))
was_false false e = refl

was_true : (b : Bool) → not b ≡ false → b ≡ true
was_true true e = refl
was_true false e = absurd (true≢false e)

-- that of all comes before each other key
all_below : (k : Key) → is_all k ≡ false → is_key_below key.All k ≡ true
all_below key.All e = absurd (true≢false e)
all_below (key.Class n) e = refl
all_below (key.Global g) e = refl
all_below (key.Made t n) e = refl

all_is : (k : Key) → is_all k ≡ true → k ≡ key.All
all_is key.All e = refl
all_is (key.Class n) e = absurd (true≢false (sym e))
all_is (key.Global g) e = absurd (true≢false (sym e))
all_is (key.Made t n) e = absurd (true≢false (sym e))

module _ (c : CompiledView) (i j : ℕ) where
  clash_at : (clash : KeyClash) → IsFirstClash c i j clash → AlwaysClash c i j clash.key
  clash_at clash is = (clash.first, clash.second, is.first.0, is.second.0, is.apart)

  -- where they are told to, they exclude each other by an object or a class
  pub by_part_due : (x : Conflict) → IsConflict c i j x → by_part x ≡ true → ExcludeByPart c i j
  by_part_due (Always clash) is holds = (
    (clash.key, clash_at clash is),
    λ all. true≢false (sym (all_below clash.key (was_false (is_all clash.key) holds)) ∙ is.least key.All all),
  )
  by_part_due (Sometimes pairs) is holds = absurd (true≢false (sym holds))
  by_part_due Never is holds = absurd (true≢false (sym holds))

  -- and elsewhere they don't
  pub by_part_only : (x : Conflict) → IsConflict c i j x → by_part x ≡ false → ExcludeByPart c i j → ⊥
  by_part_only (Always clash) is none due =
      due.1 (subst (AlwaysClash c i j) (all_is clash.key (was_true (is_all clash.key) none)) (clash_at clash is))
  by_part_only (Sometimes pairs) is none due = is.0.free due.0.0 due.0.1
  by_part_only Never is none due = is.free due.0.0 due.0.1

-- what is told of a pair that is compared
module _ (c : CompiledView) (pair : SectionPair) (compared : AreCompared c pair.first pair.second)
    (told : IsConflict c pair.first pair.second pair.conflict) (old : List Warning)
  where
    abbrev w : Warning
    w = pair_warning c.scheme.program.source pair

    pub not_excluded : by_part pair.conflict ≡ false → Adds (IsDue c) (w ∷ []) old old
    not_excluded none = adds_none (IsDue c) w old
        (λ due. by_part_only c pair.first pair.second pair.conflict told none due.1)

    pub no_record : share_record c pair.first pair.second ≡ false → Adds (IsDue c) (w ∷ []) old old
    no_record none = adds_none (IsDue c) w old (λ due. true≢false (sym due.2 ∙ none))

    pub common : share_field c pair.first pair.second ≡ true → Adds (IsDue c) (w ∷ []) old old
    common some = adds_none (IsDue c) w old (λ due. true≢false (sym some ∙ due.3))

    pub apart : by_part pair.conflict ≡ true → share_record c pair.first pair.second ≡ true
        → share_field c pair.first pair.second ≡ false → (new : List Warning) → new ≡ old ++ w ∷ []
        → Adds (IsDue c) (w ∷ []) old new
    apart some one none new is = adds_one (IsDue c) w old new
        (compared, by_part_due c pair.first pair.second pair.conflict told some, one, none) is

-- one pair more
pub next_pair : (c : CompiledView) (pairs : List SectionPair) (k : ℕ) (x : SectionPair) (old mid new : List Warning)
    → k < length pairs → x ≡ get_or pairs k x
    → Adds (IsDue c) (map (pair_warning c.scheme.program.source) (take k pairs)) old mid
    → Adds (IsDue c) (pair_warning c.scheme.program.source x ∷ []) mid new
    → Adds (IsDue c) (map (pair_warning c.scheme.program.source) (take (k + 1) pairs)) old new
next_pair c pairs k x old mid new within is earlier here =
    let told = pair_warning c.scheme.program.source in
    subst (λ ws. Adds (IsDue c) ws old new) (sym (ap (λ n. map told (take n pairs)) (add-one k)
    ∙ ap (map told) (take-suc pairs k x within ∙ ap (λ y. take k pairs ++ y ∷ []) (sym is))
    ∙ map-append told (take k pairs) (x ∷ [])))
    (adds_both (IsDue c) (map told (take k pairs)) (told x ∷ []) old mid new earlier here)

-- the first warnings of sections are among all
first_cases : (b : Bool) (w v : Warning) → Has (if b then [] else w ∷ []) v → w ≡ v
first_cases true w v h = absurd h
first_cases false w v (inl e) = e
first_cases false w v (inr none) = absurd none

firsts_among : (last : Option ℕ) (ws : List Warning) (v : Warning) → Has (firsts_behind last ws) v → Has ws v
firsts_among last [] v h = absurd h
firsts_among last (w ∷ ws) v h =
    elim (Has-cases (if is_of last w.section then [] else w ∷ []) (firsts_behind (Some w.section) ws) v h) [
      | inl here ↦ inl (first_cases (is_of last w.section) w v here)
      | inr later ↦ inr (firsts_among (Some w.section) ws v later)
    ]

module _ (c : CompiledView) (ws : List Warning) (are : AreOfPairs c ws) where
  told_of : (w : Warning) → Has ws w → Has (map (pair_warning c.scheme.program.source) are.0) w × IsDue c w
  told_of w h = selected (IsDue c) (map (pair_warning c.scheme.program.source) are.0) are.1 are.3 w
      (firsts_among None are.1 w (subst (λ l. Has l w) are.4 h))

  -- each of the warnings of two sections is due
  pub pairs_due : (w : Warning) → Has ws w → IsDue c w
  pairs_due w h = (told_of w h).1

  -- and stands at the item of a section
  pub pairs_at : (w : Warning) → Has ws w
      → (i : ℕ) × (i < length (sections_of c.scheme.program.texts))
      × (w.item ≡ slice_index_or (section_items_of c.scheme.program.source) i 0)
  pairs_at w h =
      let from = Has-unmap (pair_warning c.scheme.program.source) are.0 w (told_of w h).0 in
      let compared : AreCompared c from.0.first from.0.second = (are.2.each from.0 from.1).0 in (
        from.0.first,
        slice_get_within (sections_of c.scheme.program.texts) from.0.first compared.one compared.first,
        ap (λ (v : Warning). v.item) (sym from.2),
      )

-- what holds of the elements of two lists holds of each of both
pub each_of_both : {X : Type 0} (P : X → Type 0) (xs ys : List X) → ((x : X) → Has xs x → P x)
    → ((x : X) → Has ys x → P x) → All P (xs ++ ys)
each_of_both P xs ys of_xs of_ys k d within =
    elim (Has-cases xs ys (get_or (xs ++ ys) k d) (Has-get_or (xs ++ ys) k d within)) [
      | inl before ↦ of_xs (get_or (xs ++ ys) k d) before
      | inr behind ↦ of_ys (get_or (xs ++ ys) k d) behind
    ]

-- each warning is due
pub all_due : (c : CompiledView) (ws : List Warning) → AreWarnings c ws → All (IsDue c) ws
all_due c ws (one, two, three, alone, paired, flowing, is) =
    subst (All (IsDue c)) (sym is) (each_of_both (IsDue c) (one ++ two) three
    (λ w h. elim (Has-cases one two w h) [
      | inl first ↦ (selected (IsDue c) (to_section c (length (sections_of c.scheme.program.texts))) one alone w first).1
      | inr second ↦ pairs_due c two paired w second
    ])
    (flows_due c three flowing))

-- sections that are compared are there
pub compared_within : (c : CompiledView) (i j : ℕ) → AreCompared c i j
    → (i < length (sections_of c.scheme.program.texts)) × (j < length (sections_of c.scheme.program.texts))
compared_within c i j compared = (
  slice_get_within (sections_of c.scheme.program.texts) i compared.one compared.first,
  slice_get_within (sections_of c.scheme.program.texts) j compared.other compared.second,
)

-- the item of a section
pub item_at : (t : TreeView) (list : List ℕ) → list ≡ section_items_of t → (i d : ℕ) → i < length list
    → get_or list i d ≡ slice_index_or (section_items_of t) i 0
item_at t list are i d within =
    get_or_default list i d 0 within ∙ ap (λ l. slice_index_or l i 0) are

-- texts of two sections, one behind the other
pub text_of_two : (a n x d y m t0 t1 t2 t3 t4 : List ℕ) → t0 ≡ [] → t1 ≡ t0 ++ a → t2 ≡ t1 ++ n
    → t3 ≡ t2 ++ (x ++ d ++ y) → t4 ≡ t3 ++ m → t4 ≡ a ++ n ++ x ++ d ++ y ++ m
text_of_two a n x d y m t0 t1 t2 t3 t4 none one two three four =
    let before : t2 ≡ a ++ n = two ∙ ap (λ l. l ++ n) (one ∙ ap (λ l. l ++ a) none) in
    let flat : a ++ n ++ (x ++ d ++ y) ≡ a ++ n ++ x ++ d ++ y =
    sym (append_assoc (a ++ n) (x ++ d) y) ∙ ap (λ l. l ++ y) (sym (append_assoc (a ++ n) x d)) in
    four ∙ ap (λ l. l ++ m) (three ∙ ap (λ l. l ++ (x ++ d ++ y)) before ∙ flat)
