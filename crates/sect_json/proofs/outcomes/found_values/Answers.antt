use Rattle.std.proofs.Common.{◌≡◌, ap, ◌∙◌}
use Rattle.std.specs.Map.Iter.{deref_pair}
use Rattle.serde_json.specs.View.{view}
use Rattle.sect_serial.specs.Judging.{outcome_of}
use Rattle.sect_json.specs.Outcomes.{found_json, outcome_json}
use Rattle.sect_json.proofs.Rows.{map_more}
use Rattle.sect_json.proofs.outcomes.found_values.Goals as goal

pub loop-number-preserved : goal.loop-number-preserved
loop-number-preserved c =
    let p = c.args.program.now in
    let end = c.at.result.0.now in
    let threads = c.in_ok-to_threads.field-0.items in
    let outcome = c.in_ok-outcome.ensures ∙ (ap (outcome_of threads) c.in_ok-try_clone.ensures
    ∙ ap (λ ts. outcome_of ts end) c.in_ok-to_threads.ensures) in
    let made : view c.in_ok-outcome_value.field-0 ≡ found_json p (deref_pair c.at.result) =
    c.in_ok-outcome_value.ensures ∙ (ap (λ q. outcome_json q c.in_ok-outcome.outcome) c.in_ok-printer.ensures
    ∙ ap (λ o. outcome_json p o) outcome) in
    map_more c.args.outcomes.now.found c.loop-number.number (deref_pair c.at.result) c.at.ensures (found_json p)
    c.loop-number.values.items c.push.new.self.items c.in_ok-outcome_value.field-0 c.loop-number.invariant
    c.in_ok-push.ensures.items made
