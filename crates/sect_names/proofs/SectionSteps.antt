-- The steps of a section are the program's, and sound.
use Rattle.std.proofs.Common.{◌≡◌, ℕ, ◌<◌, List, [], ◌∷◌, ◌++◌, length, Bool, true, Some, refl, subst, inl, inr, arith}
use Rattle.std.specs.Prelude.{slice_get}
use Rattle.sect_lemmas.specs.Lists.{Has}
use Rattle.sect_types.specs.{Environments.{Environment}, Statements.{TextView, Stop, Do, Choose, Loop, Section}}
use Rattle.sect_types.specs.{Sections.{SectionView, sections_of}, Programs.{environment_at}}
use Rattle.sect_types.specs.Sound.{IsSound, AreSound, IsSoundAction}
use Rattle.sect_types.specs.declared.declarations.types.ValueType.{ValueType}
use Rattle.sect_types.specs.{declared.expansion.action.Action.{Action}, declared.expansion.action.Label.{Label}}
use Rattle.sect_lemmas.proofs.Membership.{Has-cases}
use Rattle.sect_types.proofs.shared.SectionSound.{section_sound}
use Rattle.sect_graph.specs.declared.flow.Node.{Node}
use Rattle.sect_points.specs.Flow.{actions_of}
use Rattle.sect_names.specs.{Schemes.{SchemeView, IsScheme}, Laws.{IsSoundStep, StandsIn}}
use Rattle.sect_names.proofs.shared.SectionSteps.{IsAmong, node_among}
use Rattle.sect_types.specs.declared.expansion.action.Label.TheVariants as label

-- the statements of a sound text are sound
pub sound_action : (e : Environment) (inside : Bool) (text : TextView) → IsSound e inside text → (a : Action)
    → Has (actions_of text) a → IsSoundAction e a
sound_action e inside Stop sound a h = absurd h
sound_action e inside (Do b r) sound a h =
    elim h [ inl is ↦ subst (IsSoundAction e) is sound.0 | inr k ↦ sound_action e inside r sound.2 a k ]
sound_action e inside (Choose t p q r) sound a h = elim (Has-cases (actions_of p) (actions_of q ++ actions_of r) a h) [
  | inl k ↦ sound_action e inside p sound.1 a k
  | inr k ↦ elim (Has-cases (actions_of q) (actions_of r) a k)
      [ inl k ↦ sound_action e inside q sound.2 a k | inr k ↦ sound_action e inside r sound.3 a k ]
]
sound_action e inside (Loop t p r) sound a h = elim (Has-cases (actions_of p) (actions_of r) a h) [
  | inl k ↦ sound_action e inside p sound.1 a k
  | inr k ↦ sound_action e inside r sound.2 a k
]
sound_action e inside (Section i p r) sound a h = elim (Has-cases (actions_of p) (actions_of r) a h) [
  | inl k ↦ sound_action e true p sound.1 a k
  | inr k ↦ sound_action e inside r sound.2 a k
]

-- each text of a sound program has its thread's locals
as_many_locals : (records : List (List ValueType)) (globals : List ℕ) (locals : List (List ValueType))
    (texts : List TextView) → AreSound records globals locals texts → length texts ≡ length locals
as_many_locals records globals [] [] sound = refl
as_many_locals records globals [] (text ∷ texts) sound = absurd sound
as_many_locals records globals (ls ∷ locals) [] sound = absurd sound
as_many_locals records globals (ls ∷ locals) (text ∷ texts) sound = let e =
    as_many_locals records globals locals texts sound.1 in omega arith

-- and sound
pub section_step_sound : (s : SchemeView) → IsScheme s
    → AreSound s.program.records s.program.globals s.program.locals s.program.texts
    → (section : SectionView) (x : Node) → StandsIn s section x → IsSoundStep s.program section.thread x.label
section_step_sound s scheme sound section x (i, g, j, at, graph_at, node_at) =
    by x.label (node_among section.body g (scheme.graphed.sections i section g at graph_at) j x node_at)
  where
    body : IsSound (environment_at s.program section.thread) true section.body
    body = (section_sound s.program.records s.program.globals s.program.locals s.program.texts i section sound at).1

    by : (l : Label) → IsAmong (actions_of section.body) l → IsSoundStep s.program section.thread l
    by (label.Act a) h = sound_action (environment_at s.program section.thread) true section.body body a h
    by (label.Test c) h = tt
    by (label.Section n) h = tt

pub section_thread : (s : SchemeView) → AreSound s.program.records s.program.globals s.program.locals s.program.texts
    → (i : ℕ) (section : SectionView) → slice_get (sections_of s.program.texts) i ≡ Some section
    → section.thread < length s.program.locals
section_thread s sound i section at =
    let within = (section_sound s.program.records s.program.globals s.program.locals s.program.texts i section sound
    at).0 in
    let many = as_many_locals s.program.records s.program.globals s.program.locals s.program.texts sound in
    omega (arith, within, many)
