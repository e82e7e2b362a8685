use Rattle.std.proofs.{Common.{◌++◌, List, ℕ, Option, map, filter, sym, ap, ◌∙◌}, lemmas.Result.{on_ok_weaker}}
use Rattle.serde_json.specs.View.{view}
use Rattle.sect_editor.specs.Completing.{keyword_item, outer_keywords, inner_keywords, declared_item, is_offered}
use Rattle.sect_editor.specs.Completing.{offers}
use Rattle.sect_editor.proofs.Listing.{three_more}
use Rattle.sect_editor.proofs.completion.put_offers.Goals as goal

pub returns-in_ok-put_inner_keywords-in-None : goal.returns-in_ok-put_inner_keywords-in-None
returns-in_ok-put_inner_keywords-in-None c =
    let old = map view c.args.values.now.items in
    on_ok_weaker c.put_known.result
    (λ last. three_more old (map keyword_item outer_keywords) (map keyword_item inner_keywords)
    (map declared_item (filter (is_offered c.args.scope) c.args.all.now)) _ _ (map view c.put_known.new.values.items)
    c.in_ok-put_outer_keywords-in-None.ensures c.in_ok-put_inner_keywords-in-None.ensures last
    ∙ ap (λ (b : Option (List ℕ)). old ++ offers c.args.all.now c.args.scope b) (sym c.in-None.is)) c.put_known.ensures
