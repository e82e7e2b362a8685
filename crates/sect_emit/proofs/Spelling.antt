-- Lists of what a certificate says, one element more.
use Rattle.std.proofs.Common.{◌≡◌, ◌≢◌, ℕ, ◌+◌, ◌-◌, ◌<◌, List, [], ◌∷◌, ◌++◌, length, take}
use Rattle.std.proofs.Common.{get_or, refl, sym, ap, ◌∙◌, arith}
use Rattle.std.proofs.lemmas.List.{length-take-le, length-map, map-append}
use Rattle.std.proofs.lemmas.Option.{slice_get_within, get_or_from_slice_get, slice_get-map}
use Rattle.std.specs.{Prelude.{slice_get, Some, map}, Option.{option_map}}
use Rattle.std.specs.List.{AllByRecursion}
use Rattle.sect_lemmas.proofs.Elements.{taken}
use Rattle.sect_front.specs.TreeView.{TreeView}
use Rattle.sect_names.specs.{declared.link.Link.{Link}, declared.lock.Lock.{Lock}}
use Rattle.sect_cert.specs.{declared.lock.CertLock.{CertLock}, declared.certificate.CertChain.{CertChain}}
use Rattle.sect_cert.specs.{Texts.{AreRising}}
use Rattle.sect_cert.specs.declared.certificate.CertStep.{CertStep}
use Rattle.sect_emit.specs.Words.{list_words, lock_words, step_words, chain_words, chains_words}
use Rattle.sect_emit.proofs.Adding.{take_next}

-- what holds of each element and of one more
pub all_more : {X : Type 0} (P : X → Type 0) (xs : List X) (x : X) → AllByRecursion P xs → P x
    → AllByRecursion P (xs ++ x ∷ [])
all_more P [] x all here = (here, tt)
all_more P (y ∷ xs) x all here = (all.0, all_more P xs x all.1 here)

-- one chain more
chains_more : (t : TreeView) (n : ℕ) (cs : List (List Link)) (c : List Link)
    → chains_words t n (cs ++ c ∷ []) ≡ chains_words t n cs ++ chain_words t (n + length cs) c ∷ []
chains_more t n [] c = let e : n ≡ n + 0 = omega arith in ap (λ m. chain_words t m c ∷ []) e
chains_more t n (d ∷ cs) c =
    let e : n + 1 + length cs ≡ n + length (d ∷ cs) = omega arith in
    ap (λ ws. chain_words t n d ∷ ws)
    (chains_more t (n + 1) cs c ∙ ap (λ m. chains_words t (n + 1) cs ++ chain_words t m c ∷ []) e)

pub next_chain : (t : TreeView) (chains : List (List Link)) (i : ℕ) (c : List Link) (made : CertChain)
    (old new : List CertChain) → i < length chains → c ≡ get_or chains i c
    → made ≡ chain_words t i c → old ≡ chains_words t 0 (take i chains) → new ≡ old ++ made ∷ []
    → new ≡ chains_words t 0 (take (i + 1) chains)
next_chain t chains i c made old new within is words before pushed =
    let e : 0 + length (take i chains) ≡ i =
    (let l = length-take-le i chains (omega (arith, within)) in omega (arith, l)) in
    pushed ∙ ap (λ xs. xs ++ made ∷ []) before
    ∙ ap (λ x. chains_words t 0 (take i chains) ++ x ∷ []) (words ∙ ap (λ m. chain_words t m c) (sym e))
    ∙ sym (chains_more t 0 (take i chains) c) ∙ ap (chains_words t 0) (sym (take_next chains i c within is))

-- the numbers of chains rise
pub rising : (t : TreeView) (n : ℕ) (cs : List (List Link)) → AreRising (chains_words t n cs)
rising t n [] = tt
rising t n (c ∷ []) = tt
rising t n (c ∷ d ∷ cs) = (omega arith, rising t (n + 1) (d ∷ cs))

-- one list more
pub next_list : (t : TreeView) (at : List (List Lock)) (i : ℕ) (locks : List Lock) (made : List CertLock)
    (old new : List (List CertLock)) → slice_get at i ≡ Some locks
    → made ≡ list_words t locks → old ≡ map (list_words t) (take i at) → new ≡ old ++ made ∷ []
    → new ≡ map (list_words t) (take (i + 1) at)
next_list t at i locks made old new there words before pushed =
    pushed ∙ ap (λ xs. xs ++ made ∷ []) before ∙ ap (λ x. map (list_words t) (take i at) ++ x ∷ []) words
    ∙ sym (map-append (list_words t) (take i at) (locks ∷ []))
    ∙ ap (map (list_words t)) (sym
    (take_next at i locks (slice_get_within at i locks there) (sym (get_or_from_slice_get at i locks locks there))))

-- one step more of a chain
pub next_step : (t : TreeView) (links : List Link) (i : ℕ) (link : Link) (old new : List CertStep) → i < length links
    → slice_get links i ≡ Some link → old ≡ map (step_words t) (take i links) → new ≡ old ++ step_words t link ∷ []
    → new ≡ map (step_words t) (take (i + 1) links)
next_step t links i link old new within at before pushed =
    pushed ∙ ap (λ xs. xs ++ step_words t link ∷ []) before
    ∙ sym (map-append (step_words t) (take i links) (link ∷ []))
    ∙ ap (map (step_words t))
    (sym (take_next links i link within (sym (get_or_from_slice_get links i link link at))))

-- the last lock once more, where a link has the lock of the one before
pub step_again : (t : TreeView) (links : List Link) (i : ℕ) (last link : Link) (old new : List CertStep) → 0 < i
    → i < length links → slice_get links (i - 1) ≡ Some last → slice_get links i ≡ Some link → last.lock ≡ link.lock
    → old ≡ map (step_words t) (take i links)
    → ((x : CertStep) → slice_get old (length old - 1) ≡ Some x
    → new ≡ old ++ record { node = link.node; lock = x.lock } ∷ [])
    → new ≡ map (step_words t) (take (i + 1) links)
step_again t links i last link old new some within at_last at same before again =
    let long : length old ≡ i =
    ap length before ∙ length-map (take i links) (step_words t) ∙ length-take-le i links (omega (arith, within)) in
    let there : slice_get old (length old - 1) ≡ Some (step_words t last) =
    ap (λ n. slice_get old (n - 1)) long
    ∙ ap (λ (xs : List CertStep). slice_get xs (i - 1)) before
    ∙ slice_get-map (step_words t) (take i links) (i - 1)
    ∙ ap (option_map (step_words t)) (taken links i (i - 1) (omega (arith, some)) ∙ at_last) in
    next_step t links i link old new within at before
    (again (step_words t last) there
    ∙ ap (λ l. old ++ record { node = link.node; lock = lock_words t l } ∷ []) same)

-- a list that isn't empty has a last place
pub some_long : {X : Type 0} (xs : List X) → xs ≢ [] → length xs - 1 < length xs
some_long [] some = absurd (some refl)
some_long (x ∷ xs) some = omega arith
