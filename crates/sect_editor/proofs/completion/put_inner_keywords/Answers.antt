use Rattle.std.proofs.{Common.{map, [], ◌∷◌}, lemmas.Result.{on_ok_weaker}}
use Rattle.std.specs.Prelude.{codes}
use Rattle.serde_json.specs.View.{view}
use Rattle.sect_editor.specs.Completing.{keyword_item}
use Rattle.sect_editor.proofs.Listing.{one_more}
use Rattle.sect_editor.proofs.completion.put_inner_keywords.Goals as goal

pub returns : goal.returns
returns c =
    let old = map view c.args.values.now.items in
    let w1 = keyword_item (codes "all") in
    let w2 = keyword_item (codes "atomic") in
    let w3 = keyword_item (codes "call") in
    let w4 = keyword_item (codes "else") in
    let w5 = keyword_item (codes "if") in
    let w6 = keyword_item (codes "new") in
    let w7 = keyword_item (codes "null") in
    let w8 = keyword_item (codes "print") in
    let w9 = keyword_item (codes "while") in
    let to_2 = one_more old (w1 ∷ []) _ _ w2 c.in_ok-put_keyword.ensures c.in_ok-put_keyword-2.ensures in
    let to_3 = one_more old (w1 ∷ w2 ∷ []) _ _ w3 to_2 c.in_ok-put_keyword-3.ensures in
    let to_4 = one_more old (w1 ∷ w2 ∷ w3 ∷ []) _ _ w4 to_3 c.in_ok-put_keyword-4.ensures in
    let to_5 = one_more old (w1 ∷ w2 ∷ w3 ∷ w4 ∷ []) _ _ w5 to_4 c.in_ok-put_keyword-5.ensures in
    let to_6 = one_more old (w1 ∷ w2 ∷ w3 ∷ w4 ∷ w5 ∷ []) _ _ w6 to_5 c.in_ok-put_keyword-6.ensures in
    let to_7 = one_more old (w1 ∷ w2 ∷ w3 ∷ w4 ∷ w5 ∷ w6 ∷ []) _ _ w7 to_6 c.in_ok-put_keyword-7.ensures in
    let to_8 = one_more old (w1 ∷ w2 ∷ w3 ∷ w4 ∷ w5 ∷ w6 ∷ w7 ∷ []) _ _ w8 to_7 c.in_ok-put_keyword-8.ensures in
    on_ok_weaker c.put_keyword-9.result
    (λ last. one_more old (w1 ∷ w2 ∷ w3 ∷ w4 ∷ w5 ∷ w6 ∷ w7 ∷ w8 ∷ []) _ _ w9 to_8 last) c.put_keyword-9.ensures
