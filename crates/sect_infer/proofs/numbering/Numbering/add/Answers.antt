use Rattle.std.proofs.Common.{◌≡◌, ℕ, List, ◌∙◌, [], ◌∷◌, ◌++◌, Some, true, false, true≢false, map, sym, ap, subst}
use Rattle.std.proofs.{Common.{refl}, lemmas.List.{map-append}}
use Rattle.std.specs.{Prelude.{if◌then◌else◌}, List.{list_any}}
use Rattle.sect_lemmas.specs.Lists.{Has}
use Rattle.sect_lemmas.proofs.Finding.{any_tells}
use Rattle.sect_names.specs.contracts.lock.LockPartialEq.TheImpl.{ghosts as the_lock_eq}
use Rattle.sect_names.proofs.shared.Telling.{lock_tells}
use Rattle.sect_infer.specs.Numberings.{NumberingView}
use Rattle.sect_infer.specs.steps.Putting.{IsWithin, AreWithin, AreWritesTold, AreBroadTold}
use Rattle.sect_infer.proofs.{Extending.{added_is, still_added}, Highest.{within_behind}}
use Rattle.sect_infer.proofs.numbering.Numbering.add.Goals as goal

pub returns-then-not-is_new-clause-there : goal.returns-then-not-is_new-clause-there
returns-then-not-is_new-clause-there c =
    let found = c.in_ok-number.ensures.stored in
    found.1 ∙ ap (λ x. Some x) (sym ((lock_tells c.args.lock found.0).0 found.2))

pub returns-clause-there : goal.returns-clause-there
returns-clause-there c =
    let found = c.in_ok-number.ensures.stored in
    found.1 ∙ ap (λ x. Some x) (sym ((lock_tells c.args.lock found.0).0 found.2))

pub returns-clause-new : goal.returns-clause-new
returns-clause-new c = λ new.
    let t = c.args.self.now in
    let l = c.args.lock in
    let keys = c.self.inside.locks.keys in
    let was : keys ≡ t.keys = ap (λ (v : NumberingView). v.keys) c.self.view_is in
    let none : list_any (the_lock_eq.eq l) keys ≡ false =
    added_is c.in_ok-number.is_new (list_any (the_lock_eq.eq l) keys) true c.in_ok-number.ensures.added new in
    record {
      absent = λ h. true≢false (sym ((any_tells the_lock_eq.eq lock_tells t.keys l).1 h)
          ∙ ap (list_any (the_lock_eq.eq l)) (sym was) ∙ none);
      keys = subst (λ b. c.insert_full.new.self.keys ≡ (if b then keys else keys ++ l ∷ [])) none
          c.in_ok-number.ensures.keys ∙ ap (λ ks. ks ++ l ∷ []) was;
      above = ap (map (λ v. v.items)) c.in_ok-push.ensures.items
          ∙ map-append (λ v. v.items) c.self.inside.above.items (c.args.above ∷ [])
          ∙ ap (λ (v : NumberingView). v.above ++ c.args.above.items ∷ []) c.self.view_is;
      classes = c.in_ok-push-2.ensures.items
          ∙ ap (λ (v : NumberingView). v.classes ++ c.args.class ∷ []) c.self.view_is;
    }

pub invariant_of-self-in_err-push : goal.invariant_of-self-in_err-push
invariant_of-self-in_err-push c =
    let keys = c.self.inside.locks.keys in
    let l = c.args.lock in
    let there = list_any (the_lock_eq.eq l) keys in
    record {
      writes_told = still_added (AreWritesTold c.has_writes_with-self-inside.result) keys c.args.self.now.keys
          c.insert_full.new.self.keys l there (ap (λ (v : NumberingView). v.keys) c.self.view_is)
          c.in_ok-number.ensures.keys c.has_writes_with-self-inside.ensures.there
          c.has_writes_with-self-inside.ensures.behind;
      broad_told = still_added (AreBroadTold c.has_broad_with-self-inside.result) keys keys
          c.insert_full.new.self.keys l there refl c.in_ok-number.ensures.keys
          c.has_broad_with-self-inside.ensures.there c.has_broad_with-self-inside.ensures.behind;
      within = subst (AreWithin c.highest_with-self-inside.result)
          (sym (ap (map (λ v. v.items)) c.in_err-push.ensures.items)) c.highest_with-self-inside.ensures.there;
    }

pub invariant_of-self-in_err-push-2 : goal.invariant_of-self-in_err-push-2
invariant_of-self-in_err-push-2 c =
    let keys = c.self.inside.locks.keys in
    let l = c.args.lock in
    let there = list_any (the_lock_eq.eq l) keys in
    let highest = c.highest_with-self-inside.result in
    let lists : List (List ℕ) = map (λ v. v.items) c.self.inside.above.items in
    let pushed : map (λ v. v.items) c.push.new.self.items ≡ lists ++ c.args.above.items ∷ [] =
    ap (map (λ v. v.items)) c.in_ok-push.ensures.items
    ∙ map-append (λ v. v.items) c.self.inside.above.items (c.args.above ∷ []) in
    record {
      writes_told = still_added (AreWritesTold c.has_writes_with-self-inside.result) keys c.args.self.now.keys
          c.insert_full.new.self.keys l there (ap (λ (v : NumberingView). v.keys) c.self.view_is)
          c.in_ok-number.ensures.keys c.has_writes_with-self-inside.ensures.there
          c.has_writes_with-self-inside.ensures.behind;
      broad_told = still_added (AreBroadTold c.has_broad_with-self-inside.result) keys keys
          c.insert_full.new.self.keys l there refl c.in_ok-number.ensures.keys
          c.has_broad_with-self-inside.ensures.there c.has_broad_with-self-inside.ensures.behind;
      within = subst (AreWithin highest) (sym pushed) (within_behind highest lists c.args.above.items
          c.highest_with-self-inside.ensures.there
          (subst (λ ns. (n : ℕ) → Has ns n → IsWithin highest n) c.as_slice.ensures
          c.highest_with-self-inside.ensures.behind));
    }

pub invariant_of-self-3 : goal.invariant_of-self-3
invariant_of-self-3 c =
    let keys = c.self.inside.locks.keys in
    let l = c.args.lock in
    let there = list_any (the_lock_eq.eq l) keys in
    let highest = c.highest_with-self-inside.result in
    let lists : List (List ℕ) = map (λ v. v.items) c.self.inside.above.items in
    let pushed : map (λ v. v.items) c.push.new.self.items ≡ lists ++ c.args.above.items ∷ [] =
    ap (map (λ v. v.items)) c.in_ok-push.ensures.items
    ∙ map-append (λ v. v.items) c.self.inside.above.items (c.args.above ∷ []) in
    record {
      writes_told = still_added (AreWritesTold c.has_writes_with-self-inside.result) keys c.args.self.now.keys
          c.insert_full.new.self.keys l there (ap (λ (v : NumberingView). v.keys) c.self.view_is)
          c.in_ok-number.ensures.keys c.has_writes_with-self-inside.ensures.there
          c.has_writes_with-self-inside.ensures.behind;
      broad_told = still_added (AreBroadTold c.has_broad_with-self-inside.result) keys keys
          c.insert_full.new.self.keys l there refl c.in_ok-number.ensures.keys
          c.has_broad_with-self-inside.ensures.there c.has_broad_with-self-inside.ensures.behind;
      within = subst (AreWithin highest) (sym pushed) (within_behind highest lists c.args.above.items
          c.highest_with-self-inside.ensures.there
          (subst (λ ns. (n : ℕ) → Has ns n → IsWithin highest n) c.as_slice.ensures
          c.highest_with-self-inside.ensures.behind));
    }
