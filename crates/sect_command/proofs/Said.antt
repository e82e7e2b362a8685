-- Turns of words, one word after another.
use Rattle.std.proofs.Common.{◌≡◌, ◌∙◌, ℕ, zero, suc, ◌+◌, ◌-◌, ◌<◌, List, [], ◌∷◌, ◌++◌, length, take, drop, map}
use Rattle.std.proofs.{Common.{get_or, refl, sym, ap, subst, arith}, lemmas.List.{map-append, take_more, append_assoc}}
use Rattle.std.specs.Prelude.{replicate}
use Rattle.sect_answers.specs.declared.naming.ThreadWord.{ThreadWord}
use Rattle.sect_command.specs.{Saying.{AreTurns, SaysTurns}, Requests.{turns_of}, declared.request.Turns.{Turns}}
use Rattle.sect_command.specs.steps.Turning.{AddsTurns}

said_more : (ws : List (List ℕ)) (ts : List ThreadWord) (ns : List ℕ) (w : List ℕ) (t : ThreadWord) (n : ℕ)
    → AreTurns ws ts ns → SaysTurns w t n → AreTurns (ws ++ w ∷ []) (ts ++ t ∷ []) (ns ++ n ∷ [])
said_more [] [] [] w t n are says = (says, tt)
said_more [] [] (m ∷ ns) w t n are says = absurd are
said_more [] (u ∷ ts) ns w t n are says = absurd are
said_more (v ∷ ws) [] ns w t n are says = absurd are
said_more (v ∷ ws) (u ∷ ts) [] w t n are says = absurd are
said_more (v ∷ ws) (u ∷ ts) (m ∷ ns) w t n are says = (are.0, said_more ws ts ns w t n are.1 says)

-- the turns of one word more behind others
pub turns_more : {X : Type 0} (f : X → List ℕ) (first : List (List ℕ)) (xs : List X) (i : ℕ) (d : X) (old new : Turns)
    → i < length xs → AreTurns (first ++ map f (take i xs)) old.threads.items old.counts.items
    → AddsTurns (f (get_or xs i d)) old new
    → AreTurns (first ++ map f (take (i + 1) xs)) new.threads.items new.counts.items
turns_more f first xs i d old new within are adds =
    let ws = first ++ map f (take i xs) in
    let w = f (get_or xs i d) in
    let next : first ++ map f (take (i + 1) xs) ≡ ws ++ w ∷ [] =
    ap (λ vs. first ++ map f vs) (take_more xs i d within)
    ∙ ap (λ vs. first ++ vs) (map-append f (take i xs) (get_or xs i d ∷ []))
    ∙ sym (append_assoc first (map f (take i xs)) (w ∷ [])) in
    subst (λ vs. AreTurns vs new.threads.items new.counts.items) (sym next)
    (subst (λ ts. AreTurns (ws ++ w ∷ []) ts new.counts.items) (sym adds.threads)
    (subst (λ ns. AreTurns (ws ++ w ∷ []) (old.threads.items ++ adds.thread ∷ []) ns) (sym adds.counts)
    (said_more ws old.threads.items old.counts.items w adds.thread adds.count are adds.says)))

-- the turns of the thread at a place, and of those behind it
pub turns_next : (ns ts : List ℕ) (i d e : ℕ) → i < length ns → i < length ts
    → turns_of (drop i ns) (drop i ts)
    ≡ replicate (get_or ns i d) (get_or ts i e) ++ turns_of (drop (i + 1) ns) (drop (i + 1) ts)
turns_next [] ts i d e lt less = absurd (omega (arith, lt))
turns_next (n ∷ ns) [] i d e lt less = absurd (omega (arith, less))
turns_next (n ∷ ns) (t ∷ ts) zero d e lt less = refl
turns_next (n ∷ ns) (t ∷ ts) (suc i) d e lt less =
    subst (λ k. turns_of (drop i ns) (drop i ts)
    ≡ replicate (get_or ns i d) (get_or ts i e) ++ turns_of (drop k (n ∷ ns)) (drop k (t ∷ ts)))
    (let next : suc (i + 1) ≡ suc i + 1 = omega arith in next)
    (turns_next ns ts i d e (omega (arith, lt)) (omega (arith, less)))

-- one of the turns of a thread more
pub times_more : (old new all : List ℕ) (n i t : ℕ) → i < n → new ≡ old ++ t ∷ [] → old ++ replicate (n - i) t ≡ all
    → new ++ replicate (n - (i + 1)) t ≡ all
times_more old new all n i t lt pushed had =
    let rest = replicate (n - (i + 1)) t in
    ap (λ ts. ts ++ rest) pushed
    ∙ (append_assoc old (t ∷ []) rest
    ∙ (ap (λ k. old ++ replicate k t) (let left : suc (n - (i + 1)) ≡ n - i = omega (arith, lt) in left) ∙ had))

-- behind the last place there are none
pub turns_done : (ns ts : List ℕ) (i : ℕ) → (i < length ns → i < length ts → ⊥) → turns_of (drop i ns) (drop i ts) ≡ []
turns_done [] [] zero none = refl
turns_done [] [] (suc i) none = refl
turns_done [] (t ∷ ts) zero none = refl
turns_done [] (t ∷ ts) (suc i) none = refl
turns_done (n ∷ ns) [] zero none = refl
turns_done (n ∷ ns) [] (suc i) none = behind (drop i ns) where
  behind : (ms : List ℕ) → turns_of ms [] ≡ []
  behind [] = refl
  behind (m ∷ ms) = refl
turns_done (n ∷ ns) (t ∷ ts) zero none = absurd (none (omega arith) (omega arith))
turns_done (n ∷ ns) (t ∷ ts) (suc i) none =
    turns_done ns ts i (λ lt less. none (omega (arith, lt)) (omega (arith, less)))
