-- Sets of states, as marks.
use Rattle.std.proofs.Common.{◌≡◌, ◌<◌, ◌+◌, ℕ, Bool, false, List, [], ◌∷◌, ◌++◌, length, get_or, sym}
use Rattle.std.proofs.{Common.{◌∙◌, ap, subst, inl, inr, arith, length-append}, lemmas.Bool.{cases_lt, cases_eq}}
use Rattle.std.proofs.lemmas.List.{get_or_append_left, get_or_push, get_or_past}
use Rattle.std.specs.Bool.{Decides}
use Rattle.sect_endings.specs.{Graphs.{GraphView}, steps.Sets.{In, AreMarks, AreKept, IsNarrowed}}
use Rattle.sect_endings.specs.steps.Sets.{AreRanks, AreAllRanks}
use Rattle.sect_endings.specs.steps.Sets.{Reaches, IsWay}
use Rattle.sect_endings.proofs.Ranked.{ranked_reaches, reaches_ranked}

pub marks_push : (n : ℕ) (marks new : List Bool) (b : Bool) (P : ℕ → Type 0) → AreMarks n marks P → Decides b (P n)
    → new ≡ marks ++ b ∷ [] → AreMarks (n + 1) new P
marks_push n marks new b P m d is = rw is (record {
  size = length-append marks (b ∷ []) ∙ ap (λ z. z + 1) m.size;
  is = λ s lt. elim (cases_eq s n) [
    | inl same ↦ subst (λ z. Decides (get_or (marks ++ b ∷ []) z false) (P z)) (sym same)
        (subst (λ z. Decides z (P n)) (sym (get_or_push marks b false n m.size)) d)
    | inr apart ↦ subst (λ z. Decides z (P s))
        (sym (get_or_append_left marks (b ∷ []) false s (omega (arith, m.size)))) (m.is s (omega arith))
  ];
})

-- what is marked is there
pub in_there : (marks : List Bool) (s : ℕ) → In marks s → s < length marks
in_there marks s i = elim (cases_lt s (length marks)) [
  | inl lt ↦ lt
  | inr past ↦ absurd (let none = get_or_past marks s false past in cc)
]

pub way_from : (g : GraphView) (within : List Bool) (order : List ℕ) (s q : ℕ) → IsWay g within s order q → In within s
way_from g within [] s q w = w.0
way_from g within (t ∷ order) s q w = w.0

pub reaches_from : (g : GraphView) (within goals : List Bool) (s : ℕ) → Reaches g within goals s → In within s
reaches_from g within goals s r = way_from g within r.0 s r.1 r.2

-- what is left is what reaches a goal
pub narrow_kept : (g : GraphView) (goals old new : List Bool) (ranks : List ℕ) (n : ℕ) (changed : Bool)
    → length old ≡ g.states → AreRanks g old goals ranks n → AreAllRanks g old goals ranks
    → AreKept g ranks old new g.states changed → IsNarrowed g goals old new changed
narrow_kept g goals old new ranks n changed size a all k = record {
  size = k.size;
  kept = λ s lt r. k.kept s lt (reaches_from g old goals s r) (reaches_ranked g old goals ranks s all lt r);
  reach = λ s lt i. ranked_reaches g old goals ranks n s a (k.ranked s lt i);
  among = k.among;
  fewer = k.fewer;
  same = k.same;
}
