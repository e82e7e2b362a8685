-- The texts of a program's threads.
use Rattle.std.proofs.Common.{◌≡◌, ℕ, zero, suc, ◌+◌, Bool, true, false, refl, sym, ap, ◌∙◌, subst, inl, inr, List, []}
use Rattle.std.proofs.Common.{◌∷◌, ◌++◌, length, Some, arith, None}
use Rattle.std.proofs.{lemmas.Option.{get_or_from_slice_get, slice_get-map}, lemmas.List.{length-map}}
use Rattle.std.proofs.lemmas.Bool.{false≢true}
use Rattle.sect_lemmas.proofs.{Membership.{Has-left, Has-right}, Elements.{slice_get-left}}
use Rattle.sect_lemmas.proofs.{Options.{some_injective, none_or_some}, Listing.{Has-map}}
use Rattle.std.specs.{Prelude.{slice_get, map}, Option.{option_map}}
use Rattle.sect_lemmas.specs.Lists.{Has}
use Rattle.sect_types.specs.declared.declarations.types.ValueType.{ValueType}
use Rattle.sect_types.specs.declared.expansion.action.Action.{Action}
use Rattle.sect_types.specs.Statements.{TextView, Stop, Do, Choose, Loop, Section, joined, section_bodies}
use Rattle.sect_types.specs.Sections.{SectionView, sections_from, sections_of, AreNumbered, AllNumbered}
use Rattle.sect_types.specs.{Environments.{Environment}, Sound.{IsSound, AreSound}}
use Rattle.sect_types.specs.Programs.{ProgramView, environment_at}
use Rattle.sect_points.specs.{Flow.{actions_of}, Statements.{thread_action, actions_from, thread_actions}}
use Rattle.sect_points.specs.declared.holders.ThreadAction.{ThreadAction}
use Rattle.sect_world.specs.Kept.{Each, IsTextOf}
use Rattle.sect_types.proofs.shared.Joining.{sound_joined}

-- what holds of the statements of both holds of the joined ones
pub each_joined : (A : Action → Type 0) (S : ℕ → TextView → Type 0) (p k : TextView) → Each A S p → Each A S k
    → Each A S (joined p k)
each_joined A S Stop k a b = b
each_joined A S (Do x r) k a b = (a.0, each_joined A S r k a.1 b)
each_joined A S (Choose c p q r) k a b = (a.0, a.1, each_joined A S r k a.2 b)
each_joined A S (Loop c p r) k a b = (a.0, each_joined A S r k a.1 b)
each_joined A S (Section i p r) k a b = (a.0, a.1, each_joined A S r k a.2 b)

-- texts of a thread joined are a text of the thread
pub text_joined : (p : ProgramView) (t : ℕ) (inside : Bool) (a b : TextView) → IsTextOf p t inside a
    → IsTextOf p t inside b → IsTextOf p t inside (joined a b)
text_joined p t inside a b x y = record {
  sound = sound_joined (environment_at p t) inside a b x.sound y.sound;
  listed =
      each_joined (λ z. Has (thread_actions p) (thread_action t z))
      (λ i b. slice_get (sections_of p.texts) i ≡ Some (record { thread = t; body = b })) a b x.listed y.listed;
}

-- a text in which no section stands
each_inside : (A : Action → Type 0) (S : ℕ → TextView → Type 0) (e : Environment) (k : TextView) → IsSound e true k
    → ((a : Action) → Has (actions_of k) a → A a) → Each A S k
each_inside A S e Stop s all = tt
each_inside A S e (Do a r) s all = (all a (inl refl), each_inside A S e r s.2 (λ b h. all b (inr h)))
each_inside A S e (Choose c p q r) s all = (
  each_inside A S e p s.1 (λ b h. all b (Has-left (actions_of p) (actions_of q ++ actions_of r) b h)),
  each_inside A S e q s.2 (λ b h. all b
      (Has-right (actions_of p) (actions_of q ++ actions_of r) b (Has-left (actions_of q) (actions_of r) b h))),
  each_inside A S e r s.3 (λ b h. all b
      (Has-right (actions_of p) (actions_of q ++ actions_of r) b (Has-right (actions_of q) (actions_of r) b h))),
)
each_inside A S e (Loop c p r) s all = (
  each_inside A S e p s.1 (λ b h. all b (Has-left (actions_of p) (actions_of r) b h)),
  each_inside A S e r s.2 (λ b h. all b (Has-right (actions_of p) (actions_of r) b h)),
)
each_inside A S e (Section i p r) s all = absurd (false≢true (sym s.0))

-- what stands in the second of two lists
pub get-append_right : {X : Type 0} (xs ys : List X) (j n : ℕ) → n ≡ length xs + j
    → slice_get (xs ++ ys) n ≡ slice_get ys j
get-append_right [] ys j n e = ap (slice_get ys) (let f : n ≡ j = omega (arith, e) in f)
get-append_right (x ∷ xs) ys j zero e = absurd (omega (arith, e))
get-append_right (x ∷ xs) ys j (suc n) e = get-append_right xs ys j n (omega (arith, e))

-- a text whose sections have the numbers from n on
each_outside : (A : Action → Type 0) (S : ℕ → TextView → Type 0) (e : Environment) (n : ℕ) (k : TextView)
    → IsSound e false k → AreNumbered n k
    → ((a : Action) → Has (actions_of k) a → A a)
    → ((j : ℕ) (b : TextView) → slice_get (section_bodies k) j ≡ Some b → S (n + j) b) → Each A S k
each_outside A S e n Stop s numbered all at = tt
each_outside A S e n (Do a r) s numbered all at =
    (all a (inl refl), each_outside A S e n r s.2 numbered (λ b h. all b (inr h)) at)
each_outside A S e n (Choose c p q r) s numbered all at = (
  each_outside A S e n p s.1 numbered.0 (λ b h. all b (Has-left (actions_of p) (actions_of q ++ actions_of r) b h))
      (λ j b is. at j b (slice_get-left (section_bodies p) (section_bodies q ++ section_bodies r) j b is)),
  each_outside A S e (n + length (section_bodies p)) q s.2 numbered.1
      (λ b h. all b (Has-right (actions_of p) (actions_of q ++ actions_of r) b
      (Has-left (actions_of q) (actions_of r) b h)))
      (λ j b is. subst (λ m. S m b) (omega arith)
      (at (length (section_bodies p) + j) b
      (get-append_right (section_bodies p) (section_bodies q ++ section_bodies r) j (length (section_bodies p) + j)
      refl ∙ slice_get-left (section_bodies q) (section_bodies r) j b is))),
  each_outside A S e (n + length (section_bodies p) + length (section_bodies q)) r s.3 numbered.2
      (λ b h. all b (Has-right (actions_of p) (actions_of q ++ actions_of r) b
      (Has-right (actions_of q) (actions_of r) b h)))
      (λ j b is. subst (λ m. S m b) (omega arith)
      (at (length (section_bodies p) + (length (section_bodies q) + j)) b
      (get-append_right (section_bodies p) (section_bodies q ++ section_bodies r) (length (section_bodies q) + j)
      (length (section_bodies p) + (length (section_bodies q) + j)) refl
      ∙ get-append_right (section_bodies q) (section_bodies r) j (length (section_bodies q) + j) refl ∙ is))),
)
each_outside A S e n (Loop c p r) s numbered all at = (
  each_outside A S e n p s.1 numbered.0 (λ b h. all b (Has-left (actions_of p) (actions_of r) b h))
      (λ j b is. at j b (slice_get-left (section_bodies p) (section_bodies r) j b is)),
  each_outside A S e (n + length (section_bodies p)) r s.2 numbered.1
      (λ b h. all b (Has-right (actions_of p) (actions_of r) b h))
      (λ j b is. subst (λ m. S m b) (omega arith)
      (at (length (section_bodies p) + j) b
      (get-append_right (section_bodies p) (section_bodies r) j (length (section_bodies p) + j) refl ∙ is))),
)
each_outside A S e n (Section i p r) s numbered all at = (
  subst (λ m. S m p) (omega (arith, numbered.0)) (at 0 p refl),
  each_inside A S e p s.1 (λ b h. all b (Has-left (actions_of p) (actions_of r) b h)),
  each_outside A S e (n + 1) r s.2 numbered.1 (λ b h. all b (Has-right (actions_of p) (actions_of r) b h))
      (λ j b is. subst (λ m. S m b) (omega arith) (at (suc j) b is)),
)

-- lists of one length end at one index
pub none_in_both : {A B : Type 0} (xs : List A) (ys : List B) (i : ℕ) → length xs ≡ length ys → slice_get xs i ≡ None
    → slice_get ys i ≡ None
none_in_both [] [] i same e = refl
none_in_both [] (y ∷ ys) i same e = absurd (omega (arith, same))
none_in_both (x ∷ xs) [] i same e = refl
none_in_both (x ∷ xs) (y ∷ ys) zero same e = absurd (none_or_some x (sym e))
none_in_both (x ∷ xs) (y ∷ ys) (suc i) same e = none_in_both xs ys i (omega (arith, same)) e

module _ (p : ProgramView) where
  abbrev IsListed : ℕ → TextView → Type 0
  IsListed t k = Each (λ a. Has (thread_actions p) (thread_action t a))
      (λ i b. slice_get (sections_of p.texts) i ≡ Some (record { thread = t; body = b })) k

  -- the texts from thread t on
  texts_from : (t n : ℕ) (locals : List (List ValueType)) (texts : List TextView)
      → AreSound p.records p.globals locals texts → AllNumbered n texts
      → ((x : ThreadAction) → Has (actions_from t texts) x → Has (thread_actions p) x)
      → ((j : ℕ) (y : SectionView) → slice_get (sections_from t texts) j ≡ Some y
      → slice_get (sections_of p.texts) (n + j) ≡ Some y)
      → (j : ℕ) (k : TextView) → slice_get texts j ≡ Some k
      → (ls : List ValueType) × (slice_get locals j ≡ Some ls)
      × IsSound (record { records = p.records; globals = p.globals; locals = ls }) false k × IsListed (t + j) k
  texts_from t n locals [] sound numbered statements sections j k at = absurd (none_or_some k at)
  texts_from t n [] (text ∷ texts) sound numbered statements sections j k at = absurd sound
  texts_from t n (ls ∷ locals) (text ∷ texts) sound numbered statements sections zero k at = (
    ls,
    refl,
    subst (λ x. IsSound (record { records = p.records; globals = p.globals; locals = ls }) false x)
        (some_injective text k at) sound.0,
    subst (λ m. IsListed m k) (let e : t ≡ t + zero = omega arith in e) (subst (IsListed t) (some_injective text k at)
        (each_outside (λ a. Has (thread_actions p) (thread_action t a))
        (λ i b. slice_get (sections_of p.texts) i ≡ Some (record { thread = t; body = b }))
        (record { records = p.records; globals = p.globals; locals = ls }) n text sound.0 numbered.0
        (λ a h. statements (thread_action t a)
        (Has-left (map (thread_action t) (actions_of text)) (actions_from (t + 1) texts) (thread_action t a)
        (Has-map (thread_action t) (actions_of text) a h)))
        (λ j b is. sections j (record { thread = t; body = b })
        (slice_get-left (map (λ (b : TextView). record { thread = t; body = b }) (section_bodies text))
        (sections_from (t + 1) texts) j (record { thread = t; body = b })
        (slice_get-map (λ (b : TextView). record { thread = t; body = b }) (section_bodies text) j
        ∙ ap (option_map (λ (b : TextView). record { thread = t; body = b })) is))))),
  )
  texts_from t n (ls ∷ locals) (text ∷ texts) sound numbered statements sections (suc j) k at =
      let front : List SectionView = map (λ (b : TextView). record { thread = t; body = b }) (section_bodies text) in
      let long : length front ≡ length (section_bodies text) =
      length-map (section_bodies text) (λ (b : TextView). record { thread = t; body = b }) in
      let r = texts_from (t + 1) (n + length (section_bodies text)) locals texts sound.1 numbered.1
      (λ x h. statements x (Has-right (map (thread_action t) (actions_of text)) (actions_from (t + 1) texts) x h))
      (λ i y is. subst (λ m. slice_get (sections_of p.texts) m ≡ Some y) (omega (arith, long))
      (sections (length front + i) y
      (get-append_right front (sections_from (t + 1) texts) i (length front + i) refl ∙ is)))
      j k at in
      (r.0, r.1, r.2, subst (λ m. IsListed m k) (let e : (t + 1) + j ≡ t + suc j = omega arith in e) r.3)

  -- the program's text of a thread is a text of the thread
  pub text_of : AreSound p.records p.globals p.locals p.texts → AllNumbered 0 p.texts → (t : ℕ) (k : TextView)
      → slice_get p.texts t ≡ Some k → IsTextOf p t false k
  text_of sound numbered t k at =
      let r = texts_from 0 0 p.locals p.texts sound numbered (λ x h. h)
      (λ j y is. subst (λ m. slice_get (sections_of p.texts) m ≡ Some y) (let e : j ≡ 0 + j = omega arith in e) is)
      t k at in
      record {
        sound = subst (λ ls. IsSound (record { records = p.records; globals = p.globals; locals = ls }) false k)
            (sym (get_or_from_slice_get p.locals t r.0 [] r.1)) r.2;
        listed = subst (λ m. IsListed m k) (let e : 0 + t ≡ t = omega arith in e) r.3;
      }
