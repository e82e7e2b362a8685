-- Locks that were named before.
use Rattle.std.proofs.Common.{◌≡◌, ℕ, inl, inr, List, Option, Some, None, length, set}
use Rattle.std.proofs.{Common.{sym, ap, ◌∙◌, subst}, lemmas.List.{length-set}}
use Rattle.sect_lemmas.specs.Lists.{Has}
use Rattle.sect_lemmas.proofs.{Membership.{Has-slice_get}, Replaced.{set_cases}}
use Rattle.sect_front.specs.TreeView.{TreeView}
use Rattle.sect_names.specs.declared.lock.Lock.{Lock}
use Rattle.sect_infer.specs.Numberings.{lock_at}
use Rattle.sect_cert.specs.{declared.lock.CertLock.{CertLock}, Texts.{IsLock}}
use Rattle.sect_emit.specs.{Words.{lock_words}, steps.Known.{AreKnown}}

module _ (t : TreeView) (keys : List Lock) where
  -- none is known at first
  pub known_none : (named : List (Option CertLock)) → length named ≡ length keys
      → ((o : Option CertLock) → Has named o → o ≡ None) → AreKnown t keys named
  known_none named count none = record {
    count = count;
    each = λ n c at. (let e = none (Some c) (Has-slice_get named n (Some c) at) in absurd cc);
  }

  -- one lock more
  pub known_more : (named : List (Option CertLock)) (n : ℕ) (c : CertLock) → AreKnown t keys named
      → c ≡ lock_words t (lock_at keys n) → IsLock c → AreKnown t keys (set named n (Some c))
  known_more named n c known is good = record {
    count = length-set named n (Some c) ∙ known.count;
    each = λ m d at. elim (set_cases named n (Some c) m (Some d) at) [
      | inl e ↦
          let same : c ≡ d = (let f = e.1 in cc) in (
            sym same ∙ is ∙ ap (λ k. lock_words t (lock_at keys k)) (sym e.0),
            subst IsLock same good,
          )
      | inr old ↦ known.each m d old
    ];
  }
