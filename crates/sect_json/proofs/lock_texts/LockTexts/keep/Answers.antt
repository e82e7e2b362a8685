use Rattle.std.proofs.{Common.{◌≡◌, ◌∙◌, [], ◌∷◌, ◌++◌, map, ap, subst}, lemmas.List.{map-append}}
use Rattle.sect_lemmas.specs.Lists.{Has}
use Rattle.sect_json.specs.steps.Writes.{LockTextsView}
use Rattle.sect_json.proofs.LockTexts.{put_last}
use Rattle.sect_json.proofs.lock_texts.LockTexts.keep.Goals as goal

pub returns : goal.returns
returns c =
    let t = c.args.self.now in
    let l = c.args.lock.now in
    let locks = c.self.inside.locks.keys in
    let was : locks ≡ t.keys = ap (λ (v : LockTextsView). v.keys) c.self.view_is in
    let copy = c.in_ok-try_clone.field-0 in
    let same : copy ≡ l = c.in_ok-try_clone.ensures in
    record {
      keys = c.in_ok-insert.ensures.keys
          ∙ put_last locks copy (λ h. c.requires (subst (λ ks. Has ks l) was (subst (Has locks) same h)))
          ∙ ap (λ k. locks ++ k ∷ []) same ∙ ap (λ ks. ks ++ l ∷ []) was;
      texts = ap (map (λ v. v.items)) c.in_ok-push.ensures.items
          ∙ map-append (λ v. v.items) c.self.inside.texts.items (c.args.text ∷ [])
          ∙ ap (λ (v : LockTextsView). v.texts ++ c.args.text.items ∷ []) c.self.view_is;
    }
