-- What is told of a turn is what the world before it and the world after it show.
use Rattle.std.proofs.Common.{◌≡◌, ◌<◌, ◌++◌, List, length, map, drop, refl, sym, ap, ◌∙◌, subst, arith}
use Rattle.std.proofs.Math.Seq.{drop-append_seam}
use Rattle.serde_json.specs.View.{view}
use Rattle.sect_types.specs.{Programs.{ProgramView}, Meaning.{WorkView}}
use Rattle.sect_names.specs.Schemes.{SchemeView}
use Rattle.sect_store.specs.Printing.{state_text}
use Rattle.sect_emit.specs.Compiled.{CompiledView, program_of}
use Rattle.sect_world.specs.{declared.event.Event.{Event}, Sights.{work_of}}
use Rattle.sect_world.specs.Standings.{IsStanding, IsStandingThere}
use Rattle.sect_json.specs.{Changes.{changes_json, next_change}, Values.{list}}
use Rattle.sect_json.specs.Turns.{TurnView, Told, events_json, told_of, locals_json, standing_json}
use Rattle.sect_json.specs.Turns.{place_at, deed_at, end_at}
use Rattle.sect_json.specs.steps.Turning.{told_shown}
use Rattle.sect_json.proofs.SameTold.{same_told}
use Rattle.sect_json.proofs.turns.told_turn.Goals as goal

pub changed_values-requires-clause-printer : goal.changed_values-requires-clause-printer
changed_values-requires-clause-printer c = c.requires.printer ∙ ap program_of (sym c.requires.compiled)

pub standing-stands-requires : goal.standing-stands-requires
standing-stands-requires c =
    let as_many = ap (λ (z : CompiledView). length (program_of z).texts) c.in-Ok.ensures.ok.compiled in
    omega (
      arith,
      as_many,
      c.thread_count-count.ensures.count,
      c.thread_count-count.ensures.texts,
      c.thread_count.ensures.texts,
      c.if-thread-thread_count.false,
    )

pub work-requires : goal.work-requires
work-requires c =
    let as_many = ap (λ (z : CompiledView). length (program_of z).texts) c.in-Ok.ensures.ok.compiled in
    omega (
      arith,
      as_many,
      c.thread_count-count.ensures.count,
      c.thread_count-count.ensures.texts,
      c.thread_count.ensures.texts,
      c.if-thread-thread_count.false,
    )

pub end_of-requires : goal.end_of-requires
end_of-requires c =
    let as_many = ap (λ (z : CompiledView). length (program_of z).texts) c.in-Ok.ensures.ok.compiled in
    omega (
      arith,
      as_many,
      c.thread_count-count.ensures.count,
      c.thread_count-count.ensures.texts,
      c.thread_count.ensures.texts,
      c.if-thread-thread_count.false,
    )

pub told_of-requires-clause-thread : goal.told_of-requires-clause-thread
told_of-requires-clause-thread c =
    subst (λ (z : CompiledView). c.args.thread < length (program_of z).texts) c.requires.compiled
    (omega (arith, c.thread_count.ensures.texts, c.if-thread-thread_count.false))

pub told_of-requires-clause-before : goal.told_of-requires-clause-before
told_of-requires-clause-before c =
    subst (λ z. IsStandingThere z c.standing-stood.result) c.requires.compiled c.standing-stood.ensures.there

pub told_of-requires-clause-after : goal.told_of-requires-clause-after
told_of-requires-clause-after c =
    subst (λ z. IsStandingThere z c.standing-stands.result) (c.in-Ok.ensures.ok.compiled ∙ c.requires.compiled)
    c.standing-stands.ensures.there

pub returns-in_ok-turn_value-in-Ok-clause-told : goal.returns-in_ok-turn_value-in-Ok-clause-told
returns-in_ok-turn_value-in-Ok-clause-told c =
    let of = c.args.of.now in
    let t = c.args.thread in
    let old = c.args.world.now in
    let new = c.turn.new.self in
    let ok = c.in-Ok.ensures.ok in
    let compiled = c.requires.compiled in
    let stood = c.standing-stood.result in
    let stands = c.standing-stands.result in
    let x : TurnView = record {
      thread = t;
      turned = c.in-Ok.field-0;
      events = ok.events;
      before = old.state;
      after = new.state;
      stood = stood;
      stands = stands;
    } in
    let made : c.as_slice.result.now ≡ ok.events = c.as_slice.ensures.value ∙ (c.in_ok-events-in-Ok.ensures
    ∙ (ap (drop c.len-before.result) (c.trace-in-Ok.ensures ∙ ok.trace)
    ∙ (ap (λ n. drop n (old.trace ++ ok.events)) (c.len-before.ensures ∙ ap length c.trace.ensures)
    ∙ drop-append_seam old.trace ok.events))) in
    let program = c.program-program.ensures ∙ ap (λ (s : SchemeView). s.program) c.scheme.ensures in
    let fields = ap list (subst (λ (z : CompiledView). map view c.in_ok-fields.fields.items
    ≡ changes_json (program_of z) old.state.store t (work_of old.state t).made (next_change z old.state t)) compiled
    c.in_ok-fields.ensures) in
    let ends = c.end_at.ensures ∙ ap (end_at stands) c.end_of.ensures in
    let shown = told_shown c.in_ok-told-in-Ok.told in
    let by : Told = record {
      fields = list (map view c.in_ok-fields.fields.items);
      locals = locals_json of.compiled.now c.work.result.now t;
      next = standing_json of.compiled.now of.source.now of.spans.now stands;
      place = place_at of.source.now of.spans.now stood;
      state = state_text c.end_at.result;
      text = deed_at of.compiled.now stood;
    } in
    let told = c.in_ok-told-in-Ok.ensures
    ∙ same_told by (told_of of.compiled.now of.source.now of.spans.now x) fields
    (ap (λ (w : WorkView). locals_json of.compiled.now w t) c.work.ensures) refl refl (ap state_text ends) refl in (
      x,
      record {
        compiled = ok.compiled;
        trace = ok.trace;
        thread = refl;
        before = refl;
        after = refl;
        does = ok.does;
        stood = c.standing-stood.ensures;
        stands = subst (λ z. IsStanding z new.state t stands) ok.compiled c.standing-stands.ensures;
      },
      c.in_ok-turn_value-in-Ok.ensures
          ∙ (ap (λ (p : ProgramView). list (events_json p shown c.as_slice.result.now)) program
          ∙ (ap (λ (es : List Event). list (events_json (program_of of.compiled.now) shown es)) made
          ∙ ap (λ (d : Told). list (events_json (program_of of.compiled.now) d ok.events)) told)),
    )
