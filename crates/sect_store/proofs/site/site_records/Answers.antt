use Rattle.std.proofs.{Common.{◌≡◌, ◌++◌, ◌+◌, drop, ap, sym, ◌∙◌, append_assoc}, lemmas.List.{at_drop_more}}
use Rattle.std.proofs.lemmas.Option.{slice_get_within, get_or_from_slice_get}
use Rattle.sect_types.specs.{Statements.{Stop, made_in}, Programs.{all_made}}
use Rattle.sect_store.proofs.site.site_records.Goals as goal

pub loop-thread-preserved : goal.loop-thread-preserved
loop-thread-preserved c =
    let texts = c.args.program.now.texts in
    let n = c.loop-thread.thread in
    let text = c.text.result.now in
    let all = c.loop-thread.all.items in
    let first : all_made (drop n texts) ≡ made_in text ++ all_made (drop (n + 1) texts) =
    at_drop_more all_made texts n Stop (slice_get_within texts n text c.text.ensures.text)
    ∙ ap (λ t. made_in t ++ all_made (drop (n + 1) texts))
    (get_or_from_slice_get texts n text Stop c.text.ensures.text) in
    record {
      added =
          ap (λ xs. xs ++ all_made (drop (n + 1) texts)) c.in_ok-put_made.ensures
          ∙ append_assoc all (made_in text) (all_made (drop (n + 1) texts))
          ∙ ap (λ xs. all ++ xs) (sym first)
          ∙ c.loop-thread.invariant.added;
    }
