-- The document of turns has no float.
use Rattle.std.proofs.{Common.{ℕ, List, [], ◌∷◌, codes, length, refl}, lemmas.Bool.{or_from}}
use Rattle.std.specs.{Prelude.{slice_index_or}, List.{range_with_len}}
use Rattle.sect_types.specs.{Programs.{ProgramView}, Meaning.{WorkView, local_datum}}
use Rattle.sect_places.specs.NodeSpans.{NodeSpansView}
use Rattle.sect_store.specs.Outcomes.{OutcomeView}
use Rattle.sect_emit.specs.Compiled.{CompiledView, program_of}
use Rattle.sect_world.specs.{declared.standing.Standing.{Standing}, Sights.{work_of}}
use Rattle.sect_world.specs.declared.standing.Standing.TheVariants.{At, Broken}
use Rattle.sect_world.specs.declared.event.Deed.{Deed}
use Rattle.sect_world.specs.declared.event.Deed.TheVariants.{Local, Enter, Take, Begin, Again, Act, Leave}
use Rattle.sect_world.specs.declared.event.Event.{Event}
use Rattle.sect_json.specs.{Inspecting.{spans_at}, Changes.{next_change}}
use Rattle.sect_json.specs.Turns.{TurnView, Told, deed_json, event_json, told_json, own_json, events_json, told_of}
use Rattle.sect_json.specs.Turns.{turn_json, turns_json, local_json, locals_json, place_at}
use Rattle.sect_json.proofs.{Plain.{IsPlain, ArePlain, plain_map}, PlainKeys.{plain_key}, PlainOutcomes.{plain_outcome}}
use Rattle.sect_json.proofs.{PlainObjects.{plain_datum}, PlainChanges.{plain_changes}, PlainInspecting.{plain_origin}}

plain_deed : (p : ProgramView) (t : ℕ) (d : Deed) → IsPlain (deed_json p t d)
plain_deed p t Local = refl
plain_deed p t Enter = refl
plain_deed p t (Take k m) = or_from _ _ (plain_key p k) refl
plain_deed p t Begin = refl
plain_deed p t Again = refl
plain_deed p t Act = refl
plain_deed p t Leave = refl

plain_local : (p : ProgramView) (w : WorkView) (t x : ℕ) → IsPlain (local_json p w t x)
plain_local p w t x = or_from _ _ (plain_datum p (local_datum w.locals x)) refl

plain_locals : (c : CompiledView) (w : WorkView) (t : ℕ) → IsPlain (locals_json c w t)
plain_locals c w t =
    plain_map (local_json (program_of c) w t) (plain_local (program_of c) w t)
    (range_with_len 0 (length (slice_index_or (program_of c).locals t [])))

plain_place : (source : List ℕ) (v : NodeSpansView) (d : Standing) → IsPlain (place_at source v d)
plain_place source v (At of n) = plain_origin source (spans_at v of) n
plain_place source v (Broken why) = refl

-- what is told beside a deed has none
record IsToldPlain (told : Told) : Type 0 where
  fields : IsPlain told.fields
  locals : IsPlain told.locals
  next : IsPlain told.next
  place : IsPlain told.place

module _ (p : ProgramView) (told : Told) (plain : IsToldPlain told) where
  plain_told : (name : List ℕ) (t : ℕ) → IsPlain (told_json told name t)
  plain_told name t =
      or_from _ _ plain.fields (or_from _ _ plain.locals (or_from _ _ plain.next (or_from _ _ plain.place refl)))

  plain_own : (t : ℕ) (d : Deed) → IsPlain (own_json p told t d)
  plain_own t Local = plain_told (codes "local") t
  plain_own t Enter = plain_told (codes "enter") t
  plain_own t (Take k m) =
      or_from _ _ plain.fields
      (or_from _ _ (plain_key p k) (or_from _ _ plain.locals (or_from _ _ plain.next (or_from _ _ plain.place refl))))
  plain_own t Begin = plain_told (codes "begin") t
  plain_own t Again = plain_told (codes "again") t
  plain_own t Act = plain_told (codes "act") t
  plain_own t Leave = plain_told (codes "leave") t

  plain_events : (es : List Event) → ArePlain (events_json p told es)
  plain_events [] = refl
  plain_events (e ∷ es) =
      or_from _ _ (plain_own e.thread e.deed) (plain_map (event_json p) (λ x. plain_deed p x.thread x.deed) es)

module _ (c : CompiledView) (source : List ℕ) (v : NodeSpansView) where
  plain_turn : (x : TurnView) → IsPlain (turn_json c source v x)
  plain_turn x = plain_events (program_of c) (told_of c source v x) (record {
    fields = plain_changes (program_of c) x.before.store x.thread (work_of x.before x.thread).made
        (next_change c x.before x.thread);
    locals = plain_locals c (work_of x.after x.thread) x.thread;
    next = or_from _ _ (plain_place source v x.stands) refl;
    place = plain_place source v x.stood;
  }) x.events

  pub plain_turns : (turns : List TurnView) (o : OutcomeView) → IsPlain (turns_json c source v turns o)
  plain_turns turns o =
      or_from _ _ (plain_outcome (program_of c) o)
      (or_from _ _ (plain_map (turn_json c source v) plain_turn turns) refl)
