-- Each statement of a typed program agrees with the declarations, and the site of a `new` is of its record.
use Rattle.std.proofs.Common.{◌≡◌, ℕ, zero, suc, ◌+◌, List, [], ◌∷◌, ◌++◌, map, length, get_or, Some, refl, sym, ap}
use Rattle.std.proofs.Common.{◌∙◌, subst, inl, inr, arith, false}
use Rattle.std.specs.Prelude.{⊤, slice_get}
use Rattle.sect_lemmas.specs.Lists.{Has}
use Rattle.sect_lemmas.proofs.{Membership.{Has-cases, Has-unmap}, Elements.{slice_get-left, slice_get-right}}
use Rattle.sect_types.specs.Environments.{Environment}
use Rattle.sect_types.specs.Statements.{TextView, Stop, Do, Choose, Loop, Section, made_by, made_in}
use Rattle.sect_types.specs.{Sections.{IsSite, AreSited, AllSited}, Programs.{ProgramView, environment_at, all_made}}
use Rattle.sect_types.specs.{Sound.{AreSound, IsSoundAction}, declared.declarations.types.ValueType.{ValueType}}
use Rattle.sect_types.specs.{declared.expansion.action.Action.{Action}, declared.expansion.action.Label.{Label}}
use Rattle.sect_points.specs.{declared.holders.ThreadAction.{ThreadAction}, Flow.{actions_of}}
use Rattle.sect_points.specs.Statements.{thread_action, actions_from, thread_actions}
use Rattle.sect_names.specs.{Schemes.{SchemeView}, Laws.{IsProgramStep, IsSoundStep}, Records.{IsTypedProgram, SiteOf}}
use Rattle.sect_names.proofs.SectionSteps.{sound_action}
use Rattle.sect_types.specs.declared.expansion.action.Action.TheVariants as action
use Rattle.sect_types.specs.declared.expansion.action.Label.TheVariants as label

-- a `new` has a site whose record is its own, where these are the records of the sites from n on
abbrev SitedAt : ℕ → List ℕ → Action → Type 0
SitedAt n made (action.Assign x v) = ⊤
SitedAt n made (action.Compute x v o w) = ⊤
SitedAt n made (action.New x r i) = (j : ℕ) × (i ≡ n + j) × (slice_get made j ≡ Some r)
SitedAt n made (action.Load x b f) = ⊤
SitedAt n made (action.Store b f v) = ⊤
SitedAt n made (action.Print v) = ⊤

sited_left : (n : ℕ) (xs ys : List ℕ) (a : Action) → SitedAt n xs a → SitedAt n (xs ++ ys) a
sited_left n xs ys (action.Assign x v) h = tt
sited_left n xs ys (action.Compute x v o w) h = tt
sited_left n xs ys (action.New x r i) (j, e, g) = (j, e, slice_get-left xs ys j r g)
sited_left n xs ys (action.Load x b f) h = tt
sited_left n xs ys (action.Store b f v) h = tt
sited_left n xs ys (action.Print v) h = tt

sited_right : (n : ℕ) (xs ys : List ℕ) (a : Action) → SitedAt (n + length xs) ys a → SitedAt n (xs ++ ys) a
sited_right n xs ys (action.Assign x v) h = tt
sited_right n xs ys (action.Compute x v o w) h = tt
sited_right n xs ys (action.New x r i) (j, e, g) = (length xs + j, omega (arith, e), slice_get-right xs ys j r g)
sited_right n xs ys (action.Load x b f) h = tt
sited_right n xs ys (action.Store b f v) h = tt
sited_right n xs ys (action.Print v) h = tt

sited_here : (n : ℕ) (a : Action) → IsSite n a → SitedAt n (made_by a) a
sited_here n (action.Assign x v) h = tt
sited_here n (action.Compute x v o w) h = tt
sited_here n (action.New x r i) e = (0, omega (arith, e), refl)
sited_here n (action.Load x b f) h = tt
sited_here n (action.Store b f v) h = tt
sited_here n (action.Print v) h = tt

text_sited : (n : ℕ) (text : TextView) → AreSited n text → (a : Action) → Has (actions_of text) a
    → SitedAt n (made_in text) a
text_sited n Stop sited a h = absurd h
text_sited n (Do b r) sited a h = elim h [
  | inl is ↦ subst (SitedAt n (made_by b ++ made_in r)) is
      (sited_left n (made_by b) (made_in r) b (sited_here n b sited.0))
  | inr k ↦ sited_right n (made_by b) (made_in r) a (text_sited (n + length (made_by b)) r sited.1 a k)
]
text_sited n (Choose t p q r) sited a h = elim (Has-cases (actions_of p) (actions_of q ++ actions_of r) a h) [
  | inl k ↦ sited_left n (made_in p) (made_in q ++ made_in r) a (text_sited n p sited.0 a k)
  | inr k ↦ sited_right n (made_in p) (made_in q ++ made_in r) a (elim (Has-cases (actions_of q) (actions_of r) a k) [
    | inl k ↦ sited_left (n + length (made_in p)) (made_in q) (made_in r) a
        (text_sited (n + length (made_in p)) q sited.1 a k)
    | inr k ↦ sited_right (n + length (made_in p)) (made_in q) (made_in r) a
        (text_sited (n + length (made_in p) + length (made_in q)) r sited.2 a k)
  ])
]
text_sited n (Loop t p r) sited a h = elim (Has-cases (actions_of p) (actions_of r) a h) [
  | inl k ↦ sited_left n (made_in p) (made_in r) a (text_sited n p sited.0 a k)
  | inr k ↦ sited_right n (made_in p) (made_in r) a (text_sited (n + length (made_in p)) r sited.1 a k)
]
text_sited n (Section i p r) sited a h = elim (Has-cases (actions_of p) (actions_of r) a h) [
  | inl k ↦ sited_left n (made_in p) (made_in r) a (text_sited n p sited.0 a k)
  | inr k ↦ sited_right n (made_in p) (made_in r) a (text_sited (n + length (made_in p)) r sited.1 a k)
]

all_sited : (n t : ℕ) (texts : List TextView) → AllSited n texts → (q : ThreadAction) → Has (actions_from t texts) q
    → SitedAt n (all_made texts) q.action
all_sited n t [] sited q h = absurd h
all_sited n t (p ∷ ps) sited q h =
    elim (Has-cases (map (thread_action t) (actions_of p)) (actions_from (t + 1) ps) q h) [
      | inl k ↦
          let from = Has-unmap (thread_action t) (actions_of p) q k in
          subst (λ (x : ThreadAction). SitedAt n (made_in p ++ all_made ps) x.action) from.2
          (sited_left n (made_in p) (all_made ps) from.0 (text_sited n p sited.0 from.0 from.1))
      | inr k ↦ sited_right n (made_in p) (all_made ps) q.action
          (all_sited (n + length (made_in p)) (t + 1) ps sited.1 q k)
    ]

abbrev with_locals : List (List ValueType) → List ℕ → List ValueType → Environment
with_locals records globals ls = record { records = records; globals = globals; locals = ls }

all_sound : (records : List (List ValueType)) (globals : List ℕ) (locals : List (List ValueType))
    (texts : List TextView) (t : ℕ) → AreSound records globals locals texts
    → (q : ThreadAction) → Has (actions_from t texts) q
    → (j : ℕ) × (q.thread ≡ t + j) × IsSoundAction (with_locals records globals (get_or locals j [])) q.action
all_sound records globals locals [] t sound q h = absurd h
all_sound records globals [] (p ∷ ps) t sound q h = absurd sound
all_sound records globals (ls ∷ more) (p ∷ ps) t sound q h =
    elim (Has-cases (map (thread_action t) (actions_of p)) (actions_from (t + 1) ps) q h) [
      | inl k ↦
          let from = Has-unmap (thread_action t) (actions_of p) q k in
          let there = sound_action (with_locals records globals ls) false p sound.0 from.0 from.1 in (
            zero,
            sym (ap (λ (x : ThreadAction). x.thread) from.2)
                ∙ omega arith,
            subst (λ (x : ThreadAction). IsSoundAction (with_locals records globals ls) x.action) from.2
                there,
          )
      | inr k ↦
          let r = all_sound records globals more ps (t + 1) sound.1 q k in
          (suc r.0, omega (arith, r.1), r.2)
    ]

-- a statement of a typed program agrees with the declarations
pub statement_sound : (p : ProgramView) → IsTypedProgram p → (q : ThreadAction) → Has (thread_actions p) q
    → IsSoundAction (environment_at p q.thread) q.action
statement_sound p typed q h =
    let r = all_sound p.records p.globals p.locals p.texts 0 typed.sound q h in
    let is : r.0 ≡ q.thread = omega (arith, r.1) in
    subst (λ j. IsSoundAction (with_locals p.records p.globals (get_or p.locals j [])) q.action) is r.2

-- and makes objects of its site's record
abbrev pub MakesOwn : ProgramView → Action → Type 0
MakesOwn p (action.Assign x v) = ⊤
MakesOwn p (action.Compute x v o w) = ⊤
MakesOwn p (action.New x r i) = SiteOf p i r
MakesOwn p (action.Load x b f) = ⊤
MakesOwn p (action.Store b f v) = ⊤
MakesOwn p (action.Print v) = ⊤

-- a `new` of the program makes objects of a site whose record is its own
pub statement_sited : (p : ProgramView) → IsTypedProgram p → (q : ThreadAction) → Has (thread_actions p) q
    → MakesOwn p q.action
statement_sited p typed q h = by q.action (all_sited (length p.globals) 0 p.texts typed.sited q h)
  where
    by : (a : Action) → SitedAt (length p.globals) (all_made p.texts) a → MakesOwn p a
    by (action.Assign x v) k = tt
    by (action.Compute x v o w) k = tt
    by (action.New x r i) (j, e, g) =
        subst (λ n. slice_get (p.globals ++ all_made p.texts) n ≡ Some r) (sym e)
        (slice_get-right p.globals (all_made p.texts) j r g)
    by (action.Load x b f) k = tt
    by (action.Store b f v) k = tt
    by (action.Print v) k = tt

-- a step of a typed program is sound
pub step_sound : (s : SchemeView) → IsTypedProgram s.program → (t : ℕ) (l : Label) → IsProgramStep s t l
    → IsSoundStep s.program t l
step_sound s typed t (label.Act a) h = statement_sound s.program typed (thread_action t a) h
step_sound s typed t (label.Test c) h = tt
step_sound s typed t (label.Section i) h = tt
