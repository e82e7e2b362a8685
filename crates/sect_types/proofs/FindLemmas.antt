-- The section of a number is found.
use Rattle.std.proofs.Common.{◌≡◌, ℕ, ◌+◌, ◌<◌, ◌≤◌, Bool, true, false, List, drop, get_or, length, Option, Some, None}
use Rattle.std.proofs.{Common.{nat_eq, if◌then◌else◌, refl, sym, ap, ◌∙◌}, lemmas.List.{drop_all}}
use Rattle.std.specs.Option.{option_or}
use Rattle.sect_lemmas.proofs.Elements.{drop_next}
use Rattle.sect_types.specs.{Statements.{TextView, Stop, section_body}, Texts.{step_then, statements_of}}
use Rattle.sect_types.specs.declared.expansion.text.Step.{Step}
use Rattle.sect_types.specs.declared.expansion.text.Step.TheVariants as step

or_none : {A : Type 0} (x : Option A) → option_or x None ≡ x
or_none None = refl
or_none (Some a) = refl

or_again : {A : Type 0} (x y z : Option A) → option_or x (option_or y z) ≡ option_or (option_or x y) z
or_again None y z = refl
or_again (Some a) y z = refl

-- a section is this statement or in it, or it follows
first_or_rest : (n : ℕ) (st : Step) (k : TextView)
    → section_body n (step_then st k) ≡ option_or (section_body n (step_then st Stop)) (section_body n k)
first_or_rest n (step.Do a) k = refl
first_or_rest n (step.If t p q) k =
    or_again (section_body n p) (section_body n q) (section_body n k)
    ∙ ap (λ x. option_or x (section_body n k)) (ap (option_or (section_body n p)) (sym (or_none (section_body n q))))
first_or_rest n (step.While t p) k = ap (λ x. option_or x (section_body n k)) (sym (or_none (section_body n p)))
first_or_rest n (step.Section i p) k = by (nat_eq i n)
  where
    by : (b : Bool) → (if b then Some p else section_body n k) ≡ option_or (if b then Some p else None)
        (section_body n k)
    by true = refl
    by false = refl

-- in the steps from i on there is what is sought in the whole text
pub record IsSought (n : ℕ) (text : TextView) (ss : List Step) (i : ℕ) : Type 0 where
  pub whole : statements_of ss ≡ text
  pub same : section_body n text ≡ section_body n (statements_of (drop i ss))

next_of : (n : ℕ) (ss : List Step) (i : ℕ) (x : Step) → i < length ss → x ≡ get_or ss i x
    → section_body n (statements_of (drop i ss)) ≡ option_or (section_body n (step_then x Stop))
    (section_body n (statements_of (drop (i + 1) ss)))
next_of n ss i x h e =
    ap (λ l. section_body n (statements_of l)) (drop_next ss i x h e)
    ∙ first_or_rest n x (statements_of (drop (i + 1) ss))

pub begins : (n : ℕ) (text : TextView) (ss : List Step) → statements_of ss ≡ text → IsSought n text ss 0
begins n text ss e = record { whole = e; same = ap (section_body n) (sym e) }

pub not_here : (n : ℕ) (text : TextView) (ss : List Step) (i : ℕ) (x : Step) → i < length ss → x ≡ get_or ss i x
    → None ≡ section_body n (step_then x Stop)
    → IsSought n text ss i → IsSought n text ss (i + 1)
not_here n text ss i x h e none so_far = record {
  whole = so_far.whole;
  same = so_far.same ∙ (next_of n ss i x h e
      ∙ ap (λ y. option_or y (section_body n (statements_of (drop (i + 1) ss)))) (sym none));
}

pub here : (n : ℕ) (text : TextView) (ss : List Step) (i : ℕ) (x : Step) (body : TextView) → i < length ss
    → x ≡ get_or ss i x → Some body ≡ section_body n (step_then x Stop)
    → IsSought n text ss i → Some body ≡ section_body n text
here n text ss i x body h e found so_far =
    sym (so_far.same ∙ (next_of n ss i x h e
    ∙ ap (λ y. option_or y (section_body n (statements_of (drop (i + 1) ss)))) (sym found)))

pub nowhere : (n : ℕ) (text : TextView) (ss : List Step) (i : ℕ) → length ss ≤ i → IsSought n text ss i
    → None ≡ section_body n text
nowhere n text ss i h so_far = sym (so_far.same ∙ ap (λ l. section_body n (statements_of l)) (drop_all i ss h))
