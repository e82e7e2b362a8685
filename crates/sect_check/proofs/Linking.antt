-- The links of steps, one after another.
use Rattle.std.proofs.Common.{◌≡◌, ℕ, ◌+◌, ◌-◌, ◌<◌, ◌∙◌, List, [], ◌∷◌, ◌++◌, Some, Result, Err, IsErrAnd, length}
use Rattle.std.proofs.{Common.{take, refl, sym, ap, subst, arith}, lemmas.List.{length-take-le}}
use Rattle.std.proofs.lemmas.Slice.Zip.{AllZip-long}
use Rattle.std.specs.{Prelude.{slice_get}, Option.{option_map}, List.{AllZip}}
use Rattle.sect_lemmas.proofs.{Places.{told_at, zipped_at}, Elements.{taken}}
use Rattle.sect_cert.specs.{declared.lock.CertLock.{CertLock}, declared.certificate.CertStep.{CertStep}}
use Rattle.sect_names.specs.{declared.link.Link.{Link}, declared.lock.Lock.{Lock}, Schemes.{SchemeView}}
use Rattle.sect_check.specs.declared.unresolved.Unresolved.{Unresolved}
use Rattle.sect_check.specs.{declared.unresolved.Unresolved.TheVariants.{Memory, Wrong}, Names.{Denotes}}
use Rattle.sect_check.specs.Meaning.{DenotesStep}
use Rattle.sect_check.specs.steps.Resolving.{Resolves, Extends}
use Rattle.sect_check.proofs.shared.Repeating.{zip_one_more}
use Rattle.sect_check.proofs.Resolving.{extends_not}

abbrev node_of : CertStep → ℕ
node_of x = x.node

abbrev lock_of : CertStep → CertLock
lock_of x = x.lock

module _ (s : SchemeView) (t : ℕ) (steps : List CertStep) (n : ℕ) (links : List Link) (within : n < length steps) where
  module _ (before : AllZip (DenotesStep s t) (take n steps) links) where
    -- so many steps have so many links
    pub links_long : length links ≡ n
    links_long = omega (
      arith,
      AllZip-long (DenotesStep s t) (take n steps) links before,
      length-take-le n steps (let le : n < length steps = within in omega (arith, le)),
    )

    module _ (node : ℕ) (l : Lock) (more : List Link)
        (at_node : option_map (λ (x : CertStep). x.node) (slice_get steps n) ≡ Some node)
        (is : more ≡ links ++ record { node = node; lock = l } ∷ []) where
      -- one link more, whose lock is what the words stand for
      pub link_more : (words : CertLock) → option_map (λ (x : CertStep). x.lock) (slice_get steps n) ≡ Some words
          → Denotes s t words l → AllZip (DenotesStep s t) (take (n + 1) steps) more
      link_more words at_lock denoted =
          let x = told_at lock_of steps n words at_lock in
          let number : Some x.0.node ≡ Some node = sym (ap (option_map node_of) x.1) ∙ at_node in
          let same : x.0.node ≡ node = cc in
          zip_one_more (DenotesStep s t) steps n x.0 links more (record { node = node; lock = l }) within x.1 before
          (same, subst (λ w. Denotes s t w l) (sym x.2) denoted) is

      -- one whose lock is that of the last link
      pub link_again : (last : Link) → 0 < n → slice_get links (n - 1) ≡ Some last → l ≡ last.lock
          → option_map (λ (x : CertStep). x.lock) (slice_get steps n)
          ≡ option_map (λ (x : CertStep). x.lock) (slice_get steps (n - 1))
          → AllZip (DenotesStep s t) (take (n + 1) steps) more
      link_again last some at copy same =
          let x = zipped_at (DenotesStep s t) (take n steps) links before (n - 1) last at in
          let there : slice_get steps (n - 1) ≡ Some x.0 = sym (taken steps n (n - 1) (omega (arith, some))) ∙ x.1 in
          link_more x.0.lock (same ∙ ap (option_map lock_of) there)
          (subst (Denotes s t x.0.lock) (sym copy) x.2.1)

  -- no link, where the words of the lock stand for nothing
  pub link_not : {C : Type 0} (words : CertLock) (r : Result C Unresolved) (e : Unresolved)
      → option_map (λ (x : CertStep). x.lock) (slice_get steps n) ≡ Some words → IsErrAnd r (λ u. u ≡ e)
      → Resolves {A = Lock} (Err e) (Denotes s t words) → Extends (DenotesStep s t) steps n links r
  link_not words r e at_lock err given =
      let x = told_at lock_of steps n words at_lock in
      extends_not (DenotesStep s t) steps n x.0 x.0 links r e within x.1 refl err (go x.0 x.2 e given)
    where
      go : (x : CertStep) → x.lock ≡ words → (e : Unresolved) → Resolves {A = Lock} (Err e) (Denotes s t words)
          → Resolves {A = Link} (Err e) (DenotesStep s t x)
      go x same Wrong g = λ link h. g link.lock (subst (λ w. Denotes s t w link.lock) same h.1)
      go x same Memory g = tt
