-- Each request gets one answer.
use Rattle.std.proofs.Common.{◌≡◌, ℕ, List, [], ◌∷◌, ◌++◌, Option, Some, None, refl, ap, ◌∙◌}
use Rattle.std.proofs.lemmas.Grind.{flat_map-append}
use Rattle.std.specs.{Prelude.{codes}, List.{flat_map}}
use Rattle.serde_json.specs.{Data.{Data, array, no_items}, Find.{get}}
use Rattle.sect_lsp.specs.{declared.server.Phase.{Phase}, declared.server.Told.{Told}}
use Rattle.sect_lsp.specs.Answered.{ids_by, ids_asked, ids_answered, listed, AreRead}
use Rattle.sect_lsp.specs.Protocol.{Kind, Request, Notification, Response, Invalid, kind_of, ReplyView, Result, Error}
use Rattle.sect_lsp.specs.Protocol.{response_json}
use Rattle.sect_lsp.specs.Server.{ServerView, Takes, Receives, Notes, NotesBy, NotesOf, Keeps, diagnostics_json, uri_of}
use Rattle.sect_lsp.specs.{Server.{text_at_opening, text_after, told_by}, Sessions.{Runs}}
use Rattle.sect_lsp.specs.declared.server.Phase.TheVariants as phase
use Rattle.sect_lsp.specs.declared.server.Told.TheVariants as told

-- an answer is one under its number or name, and what is told is none
answer_id : (id : Data) (reply : ReplyView) → ids_answered (response_json id reply ∷ []) ≡ id ∷ []
answer_id id (Result value) = refl
answer_id id (Error why) = refl

no_answer : (uri : List ℕ) (diagnostics : Data) → ids_answered (diagnostics_json uri diagnostics ∷ []) ≡ []
no_answer uri diagnostics = refl

module _ (s : ServerView) (out : List Data) (t : ServerView) where
  keeps_none : (uri : List ℕ) (text : Option (List ℕ)) → Keeps s uri text out t → ids_answered out ≡ []
  keeps_none uri None h = ap ids_answered h.0
  keeps_none uri (Some text) h = ap ids_answered h.0.2 ∙ no_answer uri h.0.0

  notes_of_none : (what : Told) (d : Data) (uri : Option (List ℕ)) → NotesOf s what d uri out t → ids_answered out ≡ []
  notes_of_none told.Opened d (Some uri) h = keeps_none uri (text_at_opening d) h
  notes_of_none told.Changed d (Some uri) h = keeps_none uri (text_after s uri d) h
  notes_of_none told.Closed d (Some uri) h = ap ids_answered h.0 ∙ no_answer uri (array no_items)
  notes_of_none told.Exit d (Some uri) h = ap ids_answered h.0
  notes_of_none told.Other d (Some uri) h = ap ids_answered h.0
  notes_of_none told.Opened d None h = ap ids_answered h.0
  notes_of_none told.Changed d None h = ap ids_answered h.0
  notes_of_none told.Closed d None h = ap ids_answered h.0
  notes_of_none told.Exit d None h = ap ids_answered h.0
  notes_of_none told.Other d None h = ap ids_answered h.0

  notes_by_none : (p : Phase) (what : Told) (d : Data) → NotesBy p s what d out t → ids_answered out ≡ []
  notes_by_none phase.Serving what d h = notes_of_none what d (uri_of d) h
  notes_by_none phase.Waiting what d h = ap ids_answered h.0
  notes_by_none phase.ShutDown what d h = ap ids_answered h.0
  notes_by_none phase.Done what d h = ap ids_answered h.0
  notes_by_none phase.Abandoned what d h = ap ids_answered h.0

  notes_none : (what : Told) (d : Data) → Notes s what d out t → ids_answered out ≡ []
  notes_none told.Exit d h = ap ids_answered h.0
  notes_none told.Opened d h = notes_by_none s.phase told.Opened d h
  notes_none told.Changed d h = notes_by_none s.phase told.Changed d h
  notes_none told.Closed d h = notes_by_none s.phase told.Closed d h
  notes_none told.Other d h = notes_by_none s.phase told.Other d h

  receives_one : (d : Data) (kind : Kind) → Receives s d kind out t → ids_answered out ≡ ids_by kind
  receives_one d (Request id method) h = ap ids_answered h.2 ∙ answer_id id h.0
  receives_one d (Notification method) h = notes_none (told_by method) d h
  receives_one d Response h = ap ids_answered h.0
  receives_one d Invalid h = ap ids_answered h.0 ∙ refl

  pub takes_one : (d : Option Data) → Takes s d out t → ids_answered out ≡ ids_asked d
  takes_one None h = ap ids_answered h.0 ∙ refl
  takes_one (Some d) h = receives_one d (kind_of d) h

pub runs_each : (s : ServerView) (ms : List (List ℕ)) (out : List Data) (t : ServerView) → Runs s ms out t
    → (ds : List (Option Data)) × AreRead ms ds × (ids_answered out ≡ flat_map ids_asked ds)
runs_each s [] out t h = ([], tt, ap ids_answered h.0)
runs_each s (m ∷ ms) out t h =
    let rest = runs_each h.2 ms h.3 t h.6 in (
      h.4.0 ∷ rest.0,
      (h.4.1, rest.1),
      ap ids_answered h.5 ∙ flat_map-append (λ d. listed (get (codes "id") d)) h.1 h.3
          ∙ ap (λ ids. ids ++ ids_answered h.3) (takes_one s h.1 h.2 h.4.0 h.4.2)
          ∙ ap (λ ids. ids_asked h.4.0 ++ ids) rest.2,
    )
