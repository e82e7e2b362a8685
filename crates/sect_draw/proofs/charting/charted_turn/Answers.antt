use Rattle.std.proofs.Common.{◌≡◌, ◌≢◌, [], length, sym, ap, subst, ◌∙◌, arith}
use Rattle.std.specs.Prelude.{IfSome}
use Rattle.sect_lemmas.specs.Lists.{Has}
use Rattle.sect_emit.specs.{Compiled.{CompiledView, program_of}, State.{State}}
use Rattle.sect_world.specs.Standings.{IsStandingThere}
use Rattle.sect_draw.specs.{Placing.{AreThere, IsPlaced}, steps.Turning.{HasEntered, WantsSome}}
use Rattle.sect_draw.proofs.Events.{are_told}
use Rattle.sect_draw.proofs.charting.charted_turn.Goals as goal

pub split_at-requires : goal.split_at-requires
split_at-requires c =
    let old = c.args.world.now in
    let (x, is, charted) = c.in-Ok.ensures.noted in
    let told = are_told old.compiled old.state x.thread x.turned x.events x.after charted.from.does in
    let after = ap (λ (s : State). length s.output) charted.after in
    let now = ap length c.output.ensures in
    omega (arith, is.delivered, told.keep.kept.output, after, now)

pub turn_row-requires : goal.turn_row-requires
turn_row-requires c =
    let old = c.args.world.now in
    let new = c.noted_turn.new.world in
    let t = c.args.turn.thread in
    let made = c.in-Ok.made in
    let (x, is, charted) = c.in-Ok.ensures.noted in
    let told = are_told old.compiled old.state x.thread x.turned x.events x.after charted.from.does in
    let events : c.as_slice.result.now ≡ x.events = c.as_slice.ensures.value ∙ is.events in
    let after = ap (λ (s : State). length s.threads) charted.after in
    let as_many = ap (λ (z : CompiledView). length (program_of z).texts) charted.compiled in
    let count = c.thread_count-count.ensures.count in
    let texts = c.thread_count-count.ensures.texts in
    record {
      there = omega (arith, told.keep.kept.threads, after, count, texts, c.in-Ok.ensures.within);
      waits = λ e. subst (λ s. WantsSome s t) charted.after
          (subst (WantsSome x.after) charted.thread (told.waits (sym is.turned ∙ e)));
      moved = λ k e. subst (λ es. es ≢ []) (sym events) (told.moved k (sym is.turned ∙ e));
      entered = λ e rest same enter. subst (λ s. HasEntered s t) charted.after
          (subst (HasEntered x.after) charted.thread (told.entered e rest (sym events ∙ same) enter));
      threads = λ e has.
          let there = told.keep.threads e (subst (λ es. Has es e) events has) in
          omega (arith, there, as_many, count, texts);
      placed = subst (λ z. IfSome c.args.turn.places (IsPlaced z)) (sym charted.compiled) c.requires.placed;
      stood = subst (λ z. IsStandingThere z made.stood) (sym charted.compiled)
          (subst (IsStandingThere old.compiled) (sym is.stood) charted.from.stood.there);
      ran = subst (AreThere new.compiled) (sym c.as_slice-3.ensures.value) c.in-Ok.ensures.there;
    }
