use Rattle.std.proofs.{Common.{◌≡◌, ◌+◌, ◌++◌, ◌∙◌, sym, ap, drop}, lemmas.List.{append_assoc}}
use Rattle.std.specs.{Map.Iter.{deref_pair}, String.{string_bytes}}
use Rattle.sect_store.specs.Printing.{by_place, numbered_text}
use Rattle.sect_serial.specs.Judging.{outcome_of}
use Rattle.sect_answers.specs.Outcomes.{one_text}
use Rattle.sect_answers.proofs.Outcoming.{outcome_next}
use Rattle.sect_answers.proofs.outcomes.put_outcomes.Goals as goal

pub loop-number-preserved : goal.loop-number-preserved
loop-number-preserved c =
    let p = c.args.program.now in
    let found = c.args.outcomes.now.found in
    let n = c.loop-number.number in
    let x = deref_pair c.at.result in
    let old = string_bytes c.loop-number.text in
    let rest = by_place (one_text p) (n + 1) (drop (n + 1) found) in
    let end = c.at.result.0.now in
    let threads = c.in_ok-to_threads.field-0.items in
    let outcome = c.in_ok-outcome.ensures ∙ (ap (outcome_of threads) c.in_ok-try_clone.ensures
    ∙ ap (λ ts. outcome_of ts end) c.in_ok-to_threads.ensures) in
    let printed : string_bytes c.put_numbered.new.text ≡ old ++ one_text p n x =
    c.in_ok-put_numbered.ensures
    ∙ (ap (λ q. old ++ numbered_text q n c.in_ok-outcome.outcome) c.in_ok-printer.ensures
    ∙ ap (λ o. old ++ numbered_text p n o) outcome) in
    record {
      added = ap (λ bs. bs ++ rest) printed ∙ (append_assoc old (one_text p n x) rest
          ∙ (ap (λ bs. old ++ bs) (sym (outcome_next p found n x c.at.ensures)) ∙ c.loop-number.invariant.added));
    }
