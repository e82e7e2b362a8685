use Rattle.std.proofs.Common.{◌≡◌, ◌↔◌, ◌⊎◌, sym, ◌∙◌, arith, length, ◌≤◌, true≢false, inl, inr, get_or, subst, IfOk}
use Rattle.std.proofs.{lemmas.Option.{slice_get_within, get_or_from_slice_get}, lemmas.Iterator.{items_from_collect}}
use Rattle.std.proofs.{lemmas.Iterator.Consumers.{YieldsList-from_rest}, lemmas.List.{take_all}}
use Rattle.sect_lemmas.specs.Lists.{Has}
use Rattle.sect_names.specs.{declared.lock.Lock.{Lock}, Locks.{IsOutdone}}
use Rattle.sect_lemmas.proofs.Making.{makes_put, makes_skip, makes_done, last_of}
use Rattle.sect_names.proofs.Maximals.{are_maximal}
use Rattle.sect_names.proofs.scheme.Scheme.maximal.Goals.{then-not-branch+in_ok-try_clone+in_ok-insert, else-not-branch}
use Rattle.sect_names.proofs.shared.Ranking.{in_order, put_has}
use Rattle.sect_names.proofs.scheme.Scheme.maximal.Goals as goal

pub loop-i-preserved : goal.loop-i-preserved
loop-i-preserved c =
    let s = c.args.self.now in
    let xs = c.args.locks.now.keys in
    let P : Lock → Lock → Type 0 = λ x y. (y ≡ x) × (IsOutdone s (Has xs) x → ⊥) in
    let i = c.loop-i.i in
    let x = c.index-lock.result.now in
    let within = slice_get_within xs i x c.index-lock.ensures in
    let is : x ≡ get_or xs i x = sym (get_or_from_slice_get xs i x x c.index-lock.ensures) in
    let tells = c.in_ok-is_outdone.ensures in
    let old = c.loop-i.kept.keys in
    let made = c.loop-i.invariant.made in
    let told = c.loop-i.invariant.told in
    elim c.if-not-branch.branch [
      | then-not-branch+in_ok-try_clone+in_ok-insert w ↦
          let new : w.in_ok-try_clone.field-0 ≡ x = w.in_ok-try_clone.ensures in
          let put : (y : Lock) → Has w.insert.new.self.keys y ↔ (Has old y ⊎ (y ≡ x)) =
          λ y. rw (w.in_ok-insert.ensures.keys, new) (put_has old x y) in
          rw w.kept-is (record {
            made = makes_put P xs i x old w.insert.new.self.keys within is made (λ y. (
              λ h. elim ((put y).0 h) [
                | inl a ↦ inl a
                | inr e ↦
                    inr (e, λ out. true≢false (sym (tells.1 out) ∙ w.if-not-branch.true))
              ],
              λ h. (put y).1 (elim h [ inl a ↦ inl a | inr b ↦ inr b.0 ]),
            ));
            told = λ y h. elim (last_of xs i x y within is h) [
              | inl a ↦ elim (told y a) [ inl k ↦ inl ((put y).1 (inl k)) | inr out ↦ inr out ]
              | inr e ↦ inl ((put y).1 (inr e))
            ];
          })
      | else-not-branch w ↦ rw w.kept-is (record {
        made = makes_skip P xs i x old within is made (λ y h. h.1 (tells.0 w.if-not-branch.false));
        told = λ y h. elim (last_of xs i x y within is h)
            [ inl a ↦ told y a | inr e ↦ inr (subst (IsOutdone s (Has xs)) (sym e) (tells.0 w.if-not-branch.false)) ];
      })
    ]

pub returns : goal.returns
returns c =
    let s = c.args.self.now in
    let xs = c.args.locks.now.keys in
    let kept = c.loop-i.kept.keys in
    let collected = items_from_collect c.collect.result c.collect.ensures.ran
    (YieldsList-from_rest {shows = λ x. x} {s = c.into_iter.result} kept c.into_iter.ensures.into_iter_gives.0) in
    let items : c.in_ok-collect.field-0.items ≡ kept =
    subst (λ r. IfOk r (λ w. w.items ≡ kept)) c.in_ok-collect.was collected in
    let past : length xs ≤ c.loop-i.i = omega (arith, c.len-i-end.ensures.len, c.loop-i-test.false) in
    rw items (are_maximal s xs kept
    (λ x h. c.loop-i.invariant.told x (subst (λ l. Has l x) (sym (take_all c.loop-i.i xs past)) h))
    (makes_done (λ (x y : Lock). (y ≡ x) × (IsOutdone s (Has xs) x → ⊥)) xs c.loop-i.i kept past
    c.loop-i.invariant.made) (in_order kept c.into_iter.ensures.into_iter_gives.4))
