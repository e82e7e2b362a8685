-- What is told of a turn is what the world before it and the world after it show.
use Rattle.std.proofs.Common.{◌≡◌, ◌++◌, length, drop, refl, sym, ap, ◌∙◌, subst}
use Rattle.std.proofs.Math.Seq.{drop-append_seam}
use Rattle.sect_draw.specs.{Chart.{TurnView}, Places.{ran_after}, Waits.{waiting_after}, Placing.{AreThere}}
use Rattle.sect_draw.proofs.Placed.{ran_there}
use Rattle.sect_draw.proofs.noting.noted_turn.Goals as goal

pub returns-in_ok-made-in-Ok-clause-noted : goal.returns-in_ok-made-in-Ok-clause-noted
returns-in_ok-made-in-Ok-clause-noted c =
    let t = c.args.thread in
    let old = c.args.world.now in
    let new = c.turn.new.self in
    let ok = c.in-Ok.ensures.ok in
    let turned = c.in-Ok.turned in
    let stood = c.standing-stood.result in
    let x : TurnView = record {
      thread = t;
      turned = turned;
      events = ok.events;
      delivered = drop (length old.state.output) new.state.output;
      after = new.state;
      waiting = c.note_turn.new.waiting.items;
      stood = stood;
      ran = c.note_ran.new.ran.items;
    } in
    let made : c.in_ok-made-in-Ok.made.items ≡ ok.events = c.in_ok-made-in-Ok.ensures
    ∙ (ap (drop c.len-events.result) (c.trace-in-Ok.ensures ∙ ok.trace)
    ∙ (ap (λ n. drop n (old.trace ++ ok.events)) (c.len-events.ensures ∙ ap length c.trace.ensures)
    ∙ drop-append_seam old.trace ok.events)) in (
      x,
      record { turned = refl; events = made; stood = refl; delivered = ap length c.output.ensures },
      record {
        compiled = ok.compiled;
        trace = ok.trace;
        thread = refl;
        after = refl;
        from = record {
          does = ok.does;
          delivered = refl;
          waiting = c.in_ok-note_turn-in-Ok.ensures
              ∙ ap (λ us. waiting_after t turned us c.args.kept.now.waiting.items) (c.granted.ensures ∙ ok.granted);
          stood = c.standing-stood.ensures;
          ran = c.note_ran.ensures
              ∙ ap (λ es. ran_after t stood es c.args.kept.now.ran.items) (c.as_slice.ensures.value ∙ made);
        };
        kept = refl;
      },
    )

pub returns-in_ok-made-in-Ok-clause-there : goal.returns-in_ok-made-in-Ok-clause-there
returns-in_ok-made-in-Ok-clause-there c =
    let old = c.args.world.now in
    subst (λ z. AreThere z c.note_ran.new.ran.items) (sym c.in-Ok.ensures.ok.compiled)
    (subst (AreThere old.compiled) (sym c.note_ran.ensures)
    (ran_there old.compiled c.args.thread c.standing-stood.result c.as_slice.result.now c.args.kept.now.ran.items
    c.standing-stood.ensures.there c.requires))
