-- The texts and the sections of a sound program are sound.
use Rattle.std.proofs.Common.{◌≡◌, ℕ, zero, suc, ◌+◌, ◌<◌, List, [], ◌∷◌, ◌++◌, map, length, get_or, sym, ap, ◌∙◌}
use Rattle.std.proofs.Common.{subst, inl, inr, arith, true, false, Some}
use Rattle.std.specs.Prelude.{slice_get}
use Rattle.sect_lemmas.specs.Lists.{Has}
use Rattle.sect_types.specs.Environments.{Environment}
use Rattle.sect_types.specs.Statements.{TextView, Stop, Do, Choose, Loop, Section, section_bodies}
use Rattle.sect_types.specs.{Sections.{SectionView, sections_from, sections_of}, Sound.{IsSound, AreSound}}
use Rattle.sect_types.specs.declared.declarations.types.ValueType.{ValueType}
use Rattle.sect_lemmas.proofs.Membership.{Has-cases, Has-slice_get, Has-unmap}

body_sound : (e : Environment) (p : TextView) (b : TextView) → IsSound e false p → Has (section_bodies p) b
    → IsSound e true b
body_sound e Stop b s h = absurd h
body_sound e (Do a k) b s h = body_sound e k b s.2 h
body_sound e (Choose c p q k) b s h = elim (Has-cases (section_bodies p) (section_bodies q ++ section_bodies k) b h) [
  | inl h ↦ body_sound e p b s.1 h
  | inr h ↦ elim (Has-cases (section_bodies q) (section_bodies k) b h) [
    | inl h ↦ body_sound e q b s.2 h
    | inr h ↦ body_sound e k b s.3 h
  ]
]
body_sound e (Loop c p k) b s h = elim (Has-cases (section_bodies p) (section_bodies k) b h) [
  | inl h ↦ body_sound e p b s.1 h
  | inr h ↦ body_sound e k b s.2 h
]
body_sound e (Section i p k) b s h = elim h [ inl is ↦ subst (IsSound e true) is s.1 | inr h ↦ body_sound e k b s.2 h ]

abbrev pub with_locals : List (List ValueType) → List ℕ → List ValueType → Environment
with_locals records globals ls = record { records = records; globals = globals; locals = ls }

sections_sound : (records : List (List ValueType)) (globals : List ℕ) (locals : List (List ValueType))
    (texts : List TextView) (t : ℕ) (s : SectionView)
    → AreSound records globals locals texts → Has (sections_from t texts) s
    → (j : ℕ) × (s.thread ≡ t + j) × (j < length texts)
    × IsSound (with_locals records globals (get_or locals j [])) true s.body
sections_sound records globals locals [] t s sound h = absurd h
sections_sound records globals [] (p ∷ ps) t s sound h = absurd sound
sections_sound records globals (ls ∷ more) (p ∷ ps) t s sound h =
    elim (Has-cases (map (λ (b : TextView). record { thread = t; body = b }) (section_bodies p))
    (sections_from (t + 1) ps) s h) [
      | inl h ↦
          let m = Has-unmap (λ (b : TextView). section_with t b) (section_bodies p) s h in
          let there : IsSound (with_locals records globals ls) true m.0 =
          body_sound (with_locals records globals ls) p m.0 sound.0 m.1 in (
            zero,
            sym (ap (λ x. x.thread) m.2)
                ∙ omega arith,
            omega arith,
            subst (IsSound (with_locals records globals ls) true) (ap (λ x. x.body) m.2)
                there,
          )
      | inr h ↦
          let r = sections_sound records globals more ps (t + 1) s sound.1 h in
          (suc r.0, omega (arith, r.1), omega (arith, r.2), r.3)
    ]
  where
    section_with : ℕ → TextView → SectionView
    section_with t b = record { thread = t; body = b }

pub section_sound : (records : List (List ValueType)) (globals : List ℕ) (locals : List (List ValueType))
    (texts : List TextView) (n : ℕ) (s : SectionView)
    → AreSound records globals locals texts → slice_get (sections_of texts) n ≡ Some s
    → (s.thread < length texts) × IsSound (with_locals records globals (get_or locals s.thread [])) true s.body
section_sound records globals locals texts n s sound at =
    let r = sections_sound records globals locals texts 0 s sound (Has-slice_get (sections_of texts) n s at) in
    let is : r.0 ≡ s.thread = omega (arith, r.1) in (
      omega (arith, r.1, r.2),
      subst (λ j. IsSound (with_locals records globals (get_or locals j [])) true s.body) is
          r.3,
    )
