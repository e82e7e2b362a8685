-- The words of a certificate stand for what was inferred.
use Rattle.std.proofs.Common.{◌≡◌, ℕ, ◌+◌, List, [], ◌∷◌, map, Some, length, refl, ap, ◌∙◌, inl, inr}
use Rattle.std.proofs.lemmas.List.{length-map}
use Rattle.std.specs.{Prelude.{slice_get}, List.{AllZip}, Option.{option_map}}
use Rattle.sect_lemmas.specs.Lists.{Has}
use Rattle.sect_types.specs.{First.{IsTyped}, Programs.{IsOfTree}}
use Rattle.sect_lemmas.proofs.Places.{Has-index}
use Rattle.sect_graph.specs.declared.flow.Node.{Node}
use Rattle.sect_names.specs.{declared.link.Link.{Link}, declared.lock.Lock.{Lock}, Schemes.{SchemeView}}
use Rattle.sect_names.specs.Locks.{IsLockOf}
use Rattle.sect_infer.specs.Sets.{LocksView, AreOfProgram}
use Rattle.sect_check.specs.{Names.{Denotes}, Meaning.{DenotesStep, DenotesChain, DenotesSection}}
use Rattle.sect_check.proofs.shared.Calling.{path_called}
use Rattle.sect_emit.specs.Claimed.{chain_claims, claims_of}
use Rattle.sect_emit.specs.Words.{lock_words, list_words, step_words, chains_words, section_words}
use Rattle.sect_names.specs.declared.lock.Effect.TheVariants as effect
use Rattle.sect_names.specs.declared.lock.Right.TheVariants as right
use Rattle.sect_names.specs.declared.lock.Lock.TheVariants as lock

module _ (s : SchemeView) (typed : IsTyped s.program.source) (tree : IsOfTree s.program) (t : ℕ) where
  -- the words of a lock stand for it
  lock_denoted : (l : Lock) → IsLockOf s t l → Denotes s t (lock_words s.program.source l) l
  lock_denoted lock.All is = (refl, is)
  lock_denoted (lock.Class c right.Read) is = (refl, is)
  lock_denoted (lock.Class c right.Write) is = (refl, is)
  lock_denoted (lock.Class c right.Make) is = (refl, is)
  lock_denoted (lock.Path q effect.Read) is =
      (ap (option_map (λ x. lock.Path x effect.Read)) (path_called s.program typed tree t q is.of is.own is.refers), is)
  lock_denoted (lock.Path q effect.Write) is = (
    ap (option_map (λ x. lock.Path x effect.Write)) (path_called s.program typed tree t q is.of is.own is.refers),
    is,
  )

  -- those of a list for the list
  list_denoted : (locks : List Lock) → ((l : Lock) → Has locks l → IsLockOf s t l)
      → AllZip (Denotes s t) (list_words s.program.source locks) locks
  list_denoted [] all = tt
  list_denoted (l ∷ locks) all = (lock_denoted l (all l (inl refl)), list_denoted locks (λ m h. all m (inr h)))

  -- those of each node's list for it
  lists_denoted : (at : List (List Lock))
      → ((list : List Lock) → Has at list → (l : Lock) → Has list l → IsLockOf s t l)
      → AllZip (AllZip (Denotes s t)) (map (list_words s.program.source) at) at
  lists_denoted [] all = tt
  lists_denoted (list ∷ at) all =
      (list_denoted list (all list (inl refl)), lists_denoted at (λ other h. all other (inr h)))

  -- those of steps for the steps
  steps_denoted : (links : List Link) → ((a : Link) → Has links a → IsLockOf s t a.lock)
      → AllZip (DenotesStep s t) (map (step_words s.program.source) links) links
  steps_denoted [] all = tt
  steps_denoted (a ∷ links) all =
      ((refl, lock_denoted a.lock (all a (inl refl))), steps_denoted links (λ b h. all b (inr h)))

  -- those of chains for the chains
  chains_denoted : (n : ℕ) (chains : List (List Link))
      → ((links : List Link) → Has chains links → (a : Link) → Has links a → IsLockOf s t a.lock)
      → AllZip (DenotesChain s t) (chains_words s.program.source n chains) (chain_claims n chains)
  chains_denoted n [] all = tt
  chains_denoted n (links ∷ chains) all =
      ((refl, steps_denoted links (all links (inl refl))), chains_denoted (n + 1) chains (λ other h. all other (inr h)))

  -- and those of a section for what is claimed of it
  pub section_denoted : (g : List Node) (locks : LocksView) (chains : List (List Link)) → length locks.at ≡ length g + 1
      → slice_get locks.at 0 ≡ Some locks.entry → AreOfProgram s t locks
      → ((links : List Link) → Has chains links → (a : Link) → Has links a → IsLockOf s t a.lock)
      → DenotesSection s t g (section_words s.program.source locks chains) (claims_of locks chains)
  section_denoted g locks chains count first lawful linked = record {
    count = length-map locks.at (list_words s.program.source) ∙ count;
    nodes = lists_denoted locks.at (λ list has. (let at = Has-index locks.at list has in lawful at.0 list at.1));
    entry = list_denoted locks.entry (lawful 0 locks.entry first);
    chains = chains_denoted 0 chains linked;
  }
