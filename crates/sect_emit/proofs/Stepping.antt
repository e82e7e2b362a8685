-- Chains with their locks by number, by the names of the text.
use Rattle.std.proofs.{Common.{◌≡◌, ℕ, List, [], ◌∷◌, Some, sym, ap, ◌∙◌}, lemmas.Option.{slice_get-map}}
use Rattle.std.specs.{Prelude.{slice_get}, Option.{option_map}, List.{AllZip}}
use Rattle.sect_front.specs.TreeView.{TreeView}
use Rattle.sect_graph.specs.declared.flow.Node.{Node}
use Rattle.sect_names.specs.{declared.link.Link.{Link}, declared.lock.Lock.{Lock}, Schemes.{SchemeView}}
use Rattle.sect_names.specs.Chains.{IsChain}
use Rattle.sect_cert.specs.{declared.lock.CertLock.{CertLock}, declared.certificate.CertStep.{CertStep}}
use Rattle.sect_chains.specs.{declared.numbered.NumberedStep.{NumberedStep}, Chains.{AreChains}}
use Rattle.sect_chains.specs.Numbered.{step_link, links_by}
use Rattle.sect_emit.specs.{Words.{lock_words, list_words}, steps.Known.{IsFirstNamed}}

-- what the step at an index stands for
pub linked_at : (keys : List Lock) (steps : List NumberedStep) (i : ℕ) (x : NumberedStep) → slice_get steps i ≡ Some x
    → slice_get (links_by keys steps) i ≡ Some (step_link keys x)
linked_at keys steps i x at = slice_get-map (step_link keys) steps i ∙ ap (option_map (step_link keys)) at

-- a step is its node and its lock
pub same_step : (x : CertStep) (n : ℕ) (l : CertLock) → x.node ≡ n → x.lock ≡ l → x ≡ record { node = n; lock = l }
same_step x n l node lock =
    ap (λ m. record { node = m; lock = x.lock }) node ∙ ap (λ k. record { node = n; lock = k }) lock

module _ (s : SchemeView) (thread : ℕ) (last : List Lock) (g : List Node) (t : TreeView) where
  -- a chain begins with its lock
  first_named : (l : Lock) (links : List Link) → IsChain s thread last g l links
      → IsFirstNamed t (lock_words t l) links
  first_named l [] h = absurd h
  first_named l (a ∷ links) h = λ b at.
      let same : a ≡ b = cc in
      ap (λ (x : Link). lock_words t x.lock) (sym h.0 ∙ same)

  -- so do the chains of these locks
  pub firsts_named : (locks : List Lock) (chains : List (List Link)) → AreChains s thread last g locks chains
      → AllZip (IsFirstNamed t) (list_words t locks) chains
  firsts_named [] [] h = tt
  firsts_named [] (c ∷ cs) h = absurd h
  firsts_named (l ∷ ls) [] h = absurd h
  firsts_named (l ∷ ls) (c ∷ cs) h = (first_named l c h.0.is, firsts_named ls cs h.1)
