-- Turns that lead from one world to another.
use Rattle.std.proofs.Common.{◌≡◌, ℕ, List, [], ◌∷◌, ◌++◌, Option, map, refl, sym, ap, ◌∙◌, subst, append_assoc}
use Rattle.std.proofs.{lemmas.Grind.{flat_map-append}, lemmas.List.{append-nil}}
use Rattle.std.specs.List.{flat_map}
use Rattle.sect_emit.specs.Compiled.{CompiledView, program_of}
use Rattle.sect_world.specs.{declared.event.Event.{Event}, declared.standing.Standing.{Standing}, Runs.{order_of}}
use Rattle.sect_world.specs.Worlds.{WorldView, AllEnded, first_world}
use Rattle.sect_draw.specs.Chart.{TurnView, Noted, AreTurns, AreRanInOrder}
use Rattle.sect_draw.specs.Chart.{nothing_noted}
use Rattle.sect_draw.specs.steps.Turning.{IsCharted, GoesOn}
use Rattle.sect_draw.proofs.Turns.{turns_then}
use Rattle.std.proofs.Common.{length}

-- the events of turns
abbrev events_in : List TurnView → List Event
events_in turns = flat_map (λ (x : TurnView). x.events) turns

-- no turn leads to another world
abbrev pub goes_nowhere : (old w : WorldView) (n m : Noted) → w ≡ old → m ≡ n → GoesOn old n w m
goes_nowhere old w n m is same = record {
  compiled = ap (λ (z : WorldView). z.compiled) is;
  turns = [];
  lead = (ap (λ (z : WorldView). z.state) (sym is), sym same);
  trace = ap (λ (z : WorldView). z.trace) is ∙ sym (append-nil old.trace);
}

-- turns, and others behind them
abbrev pub goes_then : (old w v : WorldView) (n m noted : Noted) → GoesOn old n w m → GoesOn w m v noted
    → GoesOn old n v noted
goes_then old w v n m noted first then = record {
  compiled = then.compiled ∙ first.compiled;
  turns = first.turns ++ then.turns;
  lead = turns_then old.compiled old.state n first.turns w.state m then.turns v.state noted first.lead
      (subst (λ c. AreTurns c w.state m then.turns v.state noted) first.compiled then.lead);
  trace = then.trace ∙ (ap (λ es. es ++ events_in then.turns) first.trace
      ∙ (append_assoc old.trace (events_in first.turns) (events_in then.turns)
      ∙ ap (λ es. old.trace ++ es) (sym (flat_map-append (λ (x : TurnView). x.events) first.turns then.turns))));
}

-- one turn more
abbrev pub goes_more : (old w v : WorldView) (n m noted : Noted) (t : ℕ) (x : TurnView) → GoesOn old n w m
    → IsCharted t w v m noted x → GoesOn old n v noted
goes_more old w v n m noted t x gone charted =
    goes_then old w v n m noted gone (record {
      compiled = charted.compiled;
      turns = x ∷ [];
      lead = (charted.from, (charted.after, charted.kept));
      trace = charted.trace ∙ ap (λ es. w.trace ++ es) (sym (append-nil x.events));
    })

-- what has been kept of all turns from the start, which have led to the end of a run
pub ran_so : (c : CompiledView) (fuel : ℕ) (order : List ℕ) (w : WorldView) (n : Noted) (ran : List (Option Standing))
    → GoesOn (first_world c fuel) (nothing_noted (length (program_of c).texts)) w n → AllEnded w.state
    → w.order ≡ order_of w.trace → w.order ≡ order → n.ran ≡ ran → AreRanInOrder c fuel order ran
ran_so c fuel order w n ran gone ended ordered same kept = (
  map (λ (x : TurnView). x.thread) gone.turns,
  gone.turns,
  w.state,
  n,
  record { threads = refl; lead = gone.lead },
  ap order_of (sym gone.trace) ∙ (sym ordered ∙ same),
  ended,
  kept,
)
