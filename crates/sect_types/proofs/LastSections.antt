-- Texts that end with a section.
use Rattle.std.proofs.Common.{◌≡◌, ℕ, ◌+◌, ◌-◌, ◌<◌, ◌≤◌, suc, true, false, List, [], ◌∷◌, length, Some, None}
use Rattle.std.proofs.Common.{zero, slice_get, nat_eq, if◌then◌else◌, refl, sym, ap, ◌∙◌, subst, arith}
use Rattle.std.proofs.{lemmas.Option.{slice_get_past}, lemmas.Bool.Decides.{nat_tests}}
use Rattle.std.specs.Option.{option_or}
use Rattle.sect_types.specs.{Statements.{TextView, section_body, section_bodies}, Sections.{AreNumbered, AllNumbered}}
use Rattle.sect_types.specs.{Texts.{step_then, statements_of}, declared.expansion.text.Step.{Step}}
use Rattle.sect_types.specs.declared.expansion.text.Step.TheVariants as step
use Rattle.sect_types.specs.steps.FoundSections.{IsSectionBelow}
use Rattle.sect_types.proofs.NumberedSections.{body_at}

-- no section of a text has a number behind those of its sections
none_behind : (p : TextView) (m n : ℕ) → AreNumbered m p → m + length (section_bodies p) ≤ n → section_body n p ≡ None
none_behind p m n h le =
    ap (λ k. section_body k p) (omega (arith, le))
    ∙ (body_at p m (n - m) h ∙ slice_get_past (section_bodies p) (n - m) (omega (arith, le)))

less_is_other : (i n : ℕ) → i < n → nat_eq i n ≡ false
less_is_other i n lt = grind (arith, nat_tests)

-- where no section that follows a statement has a number or a greater one, none with the statement has it
behind : (s : Step) (k : TextView) (m n : ℕ) → AreNumbered m (step_then s k)
    → ((l : ℕ) → AreNumbered l k → (l < n) × (section_body n k ≡ None))
    → (m < n) × (section_body n (step_then s k) ≡ None)
behind (step.Do a) k m n h rest = rest m h
behind (step.If c p q) k m n (first, second, more) rest =
    let r = rest (m + length (section_bodies p) + length (section_bodies q)) more in (
      omega (arith, r.0),
      ap (λ o. option_or o (option_or (section_body n q) (section_body n k)))
          (none_behind p m n first (omega (arith, r.0)))
          ∙ (ap (λ o. option_or o (section_body n k))
          (none_behind q (m + length (section_bodies p)) n second (omega (arith, r.0))) ∙ r.1),
    )
behind (step.While c p) k m n (first, more) rest =
    let r = rest (m + length (section_bodies p)) more in (
      omega (arith, r.0),
      ap (λ o. option_or o (section_body n k)) (none_behind p m n first (omega (arith, r.0))) ∙ r.1,
    )
behind (step.Section j p) k m n (same, more) rest =
    let r = rest (m + 1) more in (
      omega (arith, r.0),
      ap (λ b. if b then Some p else section_body n k) (less_is_other j n (omega (arith, same, r.0))) ∙ r.1,
    )

alone : (s : Step) (m n : ℕ) → AreNumbered m (statements_of (s ∷ [])) → IsSectionBelow n s
    → (m < n) × (section_body n (statements_of (s ∷ [])) ≡ None)
alone (step.Do a) m n h below = absurd below
alone (step.If c p q) m n h below = absurd below
alone (step.While c p) m n h below = absurd below
alone (step.Section i p) m n (same, rest) below =
    (omega (arith, same, below), ap (λ b. if b then Some p else None) (less_is_other i n below))

-- a text that ends with a section has none with a greater number
ending : (ss : List Step) (s : Step) (m n : ℕ) → AreNumbered m (statements_of ss)
    → slice_get ss (length ss - 1) ≡ Some s → IsSectionBelow n s → (m < n) × (section_body n (statements_of ss) ≡ None)
ending [] s m n h last below = absurd cc
ending (r ∷ []) s m n h last below =
    let e : s ≡ r = cc in alone r m n h (subst (IsSectionBelow n) e below)
ending (r ∷ t ∷ ts) s m n h last below =
    let e : suc (length (t ∷ ts) - 1) ≡ length (r ∷ t ∷ ts) - 1 = omega arith in
    behind r (statements_of (t ∷ ts)) m n h
    (λ l g. ending (t ∷ ts) s l n g (ap (slice_get (r ∷ t ∷ ts)) e ∙ last) below)

pub ends_at : (ss : List Step) (n : ℕ) (s : Step) → slice_get ss (length ss - 1) ≡ Some s → IsSectionBelow n s
    → (m : ℕ) → AreNumbered m (statements_of ss) → section_body n (statements_of ss) ≡ None
ends_at ss n s last below m h = (ending ss s m n h last below).1

-- the sections of each of the texts are numbered
pub numbered_at : (ps : List TextView) (n i : ℕ) (p : TextView) → AllNumbered n ps → slice_get ps i ≡ Some p
    → (m : ℕ) × AreNumbered m p
numbered_at [] n i p h there = absurd cc
numbered_at (q ∷ ps) n zero p (here, more) there =
    let e : q ≡ p = cc in (n, subst (AreNumbered n) e here)
numbered_at (q ∷ ps) n (suc i) p (here, more) there = numbered_at ps (n + length (section_bodies q)) i p more there
