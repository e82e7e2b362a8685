use Rattle.std.proofs.{Common.{◌≡◌, ◌++◌, ◌∙◌, Some, map, sym, ap}, Math.ListN.{get_or-map}}
use Rattle.std.proofs.lemmas.Option.{get_or_from_slice_get}
use Rattle.std.specs.Prelude.{slice_get}
use Rattle.sect_json.specs.steps.Writes.{LockTextsView}
use Rattle.sect_json.proofs.lock_texts.LockTexts.put_old.Goals as goal

pub returns : goal.returns
returns c = λ text at.
    let n = c.args.number in
    let texts = c.self.inside.texts.items in
    let found = c.index.result.now in
    let here : slice_get (map (λ v. v.items) texts) n ≡ Some text =
    ap (λ (v : LockTextsView). slice_get v.texts n) c.self.view_is ∙ at in
    c.in_ok-extend_from_slice.ensures.items
    ∙ ap (λ r. c.args.out.now.items ++ r) (c.as_slice.ensures.value ∙ (ap (λ v. v.items) c.index.ensures
    ∙ (sym (get_or-map (λ v. v.items) texts n found)
    ∙ get_or_from_slice_get (map (λ v. v.items) texts) n text found.items here)))
