-- Turns one after another are the turns of a schedule.
use Rattle.std.proofs.Common.{◌≡◌, inl, inr, ℕ, ◌<◌, ◌++◌, List, [], ◌∷◌, map, length, refl, sym, ◌∙◌, ap, subst}
use Rattle.std.proofs.{Common.{append_assoc}, lemmas.List.{append-nil, map-append}}
use Rattle.sect_lemmas.specs.Lists.{Has}
use Rattle.sect_lemmas.proofs.Membership.{Has-cases}
use Rattle.sect_emit.specs.{Compiled.{CompiledView, program_of}, State.{State, start}}
use Rattle.sect_world.specs.{declared.event.Event.{Event}, declared.turned.Turned.{Turned}}
use Rattle.sect_world.specs.{declared.schedule.Progress.{Progress}, Blocked.{IsStuck}}
use Rattle.sect_world.specs.{Runs.{IsRun, IsComplete, order_of}, Schedules.{TakeTurns, IsProgress, all_events}}
use Rattle.sect_world.specs.Worlds.{WorldView, Does, AllEnded, outcome_at}
use Rattle.sect_types.specs.Whole.{SerialEndView, RunsWhole}
use Rattle.sect_world.specs.steps.Counting.{IsCounted}

-- one turn more
turns_more : (c : CompiledView) (s between after : State) (ts : List ℕ) (blocks : List (List Event)) (t : ℕ)
    (turned : Turned) (es : List Event)
    → TakeTurns c s ts blocks between → Does c between t turned es after
    → TakeTurns c s (ts ++ t ∷ []) (blocks ++ es ∷ []) after
turns_more c s between after [] [] t turned es turns does =
    (turned, after, subst (λ z. Does c z t turned es after) (sym turns) does, refl)
turns_more c s between after [] (b ∷ blocks) t turned es turns does = absurd turns
turns_more c s between after (u ∷ ts) [] t turned es turns does = absurd turns
turns_more c s between after (u ∷ ts) (b ∷ blocks) t turned es turns does =
    (turns.0, turns.1, turns.2, turns_more c turns.1 between after ts blocks t turned es turns.3 does)

-- their events come at the end
events_more : (blocks : List (List Event)) (es : List Event) → all_events (blocks ++ es ∷ []) ≡ all_events blocks ++ es
events_more [] es = append-nil es
events_more (b ∷ blocks) es = ap (λ z. b ++ z) (events_more blocks es) ∙ sym (append_assoc b (all_events blocks) es)

-- what the turns of these threads have made of the first world
pub record SoFar (c : CompiledView) (fuel : ℕ) (ts : List ℕ) (w : WorldView) (counts : List ℕ) : Type 0 where
  pub compiled : w.compiled ≡ c
  pub fuelled : w.fuel ≡ fuel
  pub blocks : List (List Event)
  pub turns : TakeTurns c (start c fuel) ts blocks w.state
  pub trace : w.trace ≡ all_events blocks
  pub made : counts ≡ map length blocks
  pub within : (t : ℕ) → Has ts t → t < length (program_of c).texts

pub so_far_more : (c : CompiledView) (fuel : ℕ) (ts : List ℕ) (w v : WorldView) (counts counts' : List ℕ) (t n : ℕ)
    → SoFar c fuel ts w counts → IsCounted t n w v → t < length (program_of w.compiled).texts
    → counts' ≡ counts ++ n ∷ [] → SoFar c fuel (ts ++ t ∷ []) v counts'
so_far_more c fuel ts w v counts counts' t n so counted lt counts_is = record {
  compiled = counted.turned.compiled ∙ so.compiled;
  fuelled = counted.turned.fuel ∙ so.fuelled;
  blocks = so.blocks ++ counted.turned.events ∷ [];
  turns = turns_more c (start c fuel) w.state v.state ts so.blocks t counted.what counted.turned.events so.turns
      (subst (λ z. Does z w.state t counted.what counted.turned.events v.state) so.compiled counted.turned.does);
  trace = counted.turned.trace ∙ (ap (λ z. z ++ counted.turned.events) so.trace
      ∙ sym (events_more so.blocks counted.turned.events));
  made = counts_is ∙ (ap (λ z. z ++ n ∷ []) so.made
      ∙ (ap (λ k. map length so.blocks ++ k ∷ []) counted.count
      ∙ sym (map-append length so.blocks (counted.turned.events ∷ []))));
  within = λ u there. elim (Has-cases ts (t ∷ []) u there) [
    | inl old ↦ so.within u old
    | inr new ↦ elim new [
      | inl same ↦ subst (λ z. z < length (program_of c).texts) same
          (subst (λ z. t < length (program_of z).texts) so.compiled lt)
      | inr off ↦ absurd off
    ]
  ];
}

-- what all turns have come to
pub progress : (c : CompiledView) (fuel : ℕ) (schedule : List ℕ) (w : WorldView) (p : Progress)
    → SoFar c fuel schedule w p.made.items
    → p.run.events.items ≡ w.trace → p.run.outcome ≡ outcome_at w.state w.order
    → (AllEnded w.state → (e : SerialEndView) × IsComplete w.state e
    × RunsWhole (program_of w.compiled) w.fuel w.order e)
    → IsRun w.compiled w.fuel w.trace w.state → w.order ≡ order_of w.trace → (IsStuck w.state → ⊥)
    → IsProgress c fuel schedule p
progress c fuel schedule w p so events outcome serial run order going = record {
  state = w.state;
  blocks = so.blocks;
  turns = so.turns;
  events = events ∙ so.trace;
  made = so.made;
  run = subst (λ es. IsRun c fuel es w.state) (sym events)
      (subst (λ z. IsRun z fuel w.trace w.state) so.compiled
      (subst (λ n. IsRun w.compiled n w.trace w.state) so.fuelled run));
  going = going;
  outcome = outcome ∙ ap (outcome_at w.state) ordered;
  serial = λ all.
      let e = serial all in (
        e.0,
        e.1,
        subst (λ o. RunsWhole (program_of c) fuel o e.0) ordered
            (subst (λ z. RunsWhole (program_of z) fuel w.order e.0) so.compiled
            (subst (λ n. RunsWhole (program_of w.compiled) n w.order e.0) so.fuelled e.2)),
      );
} where
  ordered : w.order ≡ order_of p.run.events.items
  ordered = order ∙ ap order_of (sym events)
