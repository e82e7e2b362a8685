use Rattle.std.proofs.{Common.{map, [], ◌∷◌}, lemmas.Result.{on_ok_weaker}}
use Rattle.std.specs.Prelude.{codes}
use Rattle.serde_json.specs.View.{view}
use Rattle.sect_editor.specs.Completing.{keyword_item}
use Rattle.sect_editor.proofs.Listing.{one_more}
use Rattle.sect_editor.proofs.completion.put_outer_keywords.Goals as goal

pub returns : goal.returns
returns c =
    let old = map view c.args.values.now.items in
    let w1 = keyword_item (codes "global") in
    let w2 = keyword_item (codes "int") in
    let w3 = keyword_item (codes "proc") in
    let w4 = keyword_item (codes "protected_by") in
    let w5 = keyword_item (codes "record") in
    let w6 = keyword_item (codes "thread") in
    let to_2 = one_more old (w1 ∷ []) _ _ w2 c.in_ok-put_keyword.ensures c.in_ok-put_keyword-2.ensures in
    let to_3 = one_more old (w1 ∷ w2 ∷ []) _ _ w3 to_2 c.in_ok-put_keyword-3.ensures in
    let to_4 = one_more old (w1 ∷ w2 ∷ w3 ∷ []) _ _ w4 to_3 c.in_ok-put_keyword-4.ensures in
    let to_5 = one_more old (w1 ∷ w2 ∷ w3 ∷ w4 ∷ []) _ _ w5 to_4 c.in_ok-put_keyword-5.ensures in
    on_ok_weaker c.put_keyword-6.result
    (λ last. one_more old (w1 ∷ w2 ∷ w3 ∷ w4 ∷ w5 ∷ []) _ _ w6 to_5 last) c.put_keyword-6.ensures
