-- The outcome at its place, in the order that leads to it.
use Rattle.std.proofs.Common.{◌≡◌, ◌∙◌, ◌++◌, List, ℕ, Option, refl, sym, ap, subst}
use Rattle.std.proofs.lemmas.Result.{on_ok_weaker}
use Rattle.std.specs.{Map.Iter.{deref_pair}, String.{string_bytes}}
use Rattle.sect_lemmas.proofs.Membership.{Has-slice_get}
use Rattle.sect_types.specs.Whole.{RunsWhole}
use Rattle.sect_serial.specs.Judging.{outcome_of}
use Rattle.sect_emit.specs.Compiled.{program_of}
use Rattle.sect_store.specs.Outcomes.{OutcomeView}
use Rattle.sect_world.specs.declared.standing.Standing.{Standing}
use Rattle.sect_draw.specs.{Chart.{AreRanInOrder}, Places.{ran_numbered}, Placing.{AreThere}}
use Rattle.sect_answers.specs.Placed.{shown_of}
use Rattle.sect_answers.proofs.placed_list.put_one.Goals as goal

pub put_ran_numbered-requires : goal.put_ran_numbered-requires
put_ran_numbered-requires c = record {
  placed = c.requires.placed;
  there = subst (λ (ran : List (Option Standing)). AreThere c.args.replayed.compiled.now ran)
      (sym c.as_slice-2.ensures.value) c.in_ok-ran.ensures.there;
}

pub returns : goal.returns
returns c =
    let r = c.args.replayed in
    let n = c.args.number in
    let v = r.compiled.now in
    let x = deref_pair c.at.result in
    let end = c.at.result.0.now in
    let threads = c.in_ok-threads.threads.items in
    let ran = c.in_ok-ran.ran.items in
    let old = string_bytes c.args.text.now in
    let outcome = c.in_ok-outcome.ensures ∙ (ap (outcome_of threads) c.in_ok-try_clone.ensures
    ∙ ap (λ ts. outcome_of ts end) c.in_ok-threads.ensures) in
    let same : c.as_slice.result.now ≡ x.1 = c.as_slice.ensures.value ∙ c.in_ok-threads.ensures in
    let whole : RunsWhole (program_of v) r.fuel c.as_slice.result.now x.0 =
    subst (λ (ts : List ℕ). RunsWhole (program_of v) r.fuel ts x.0) (sym same)
    (c.requires.whole x (Has-slice_get c.args.outcomes.now.found n x c.at.ensures)) in
    on_ok_weaker c.put_ran_numbered.result (λ put. (
      x,
      ran_numbered (program_of v) (shown_of r) ran n (outcome_of x.1 x.0),
      c.at.ensures,
      (
        ran,
        subst (λ (ts : List ℕ). AreRanInOrder v r.fuel ts ran) same (c.in_ok-ran.ensures.told x.0 whole),
        refl,
      ),
      put
          ∙ ap (λ (at : List (Option Standing)). old ++ ran_numbered (program_of v) (shown_of r) at n
          c.in_ok-outcome.outcome) c.as_slice-2.ensures.value
          ∙ ap (λ (o : OutcomeView). old ++ ran_numbered (program_of v) (shown_of r) ran n o) outcome,
    )) c.put_ran_numbered.ensures
