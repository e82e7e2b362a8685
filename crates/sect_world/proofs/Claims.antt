-- Small facts on holds, claims and threads.
use Rattle.std.proofs.Common.{◌≡◌, ◌≢◌, ◌⊎◌, inl, inr, ℕ, zero, suc, List, [], ◌∷◌, ◌++◌, Bool, true, false}
use Rattle.std.proofs.Common.{Option, Some, None, refl, sym, ◌∙◌, ap, subst, arith}
use Rattle.std.proofs.lemmas.Bool.{eqb-true, eq-eqb, and_parts, cases_Bool, or_parts}
use Rattle.std.specs.Prelude.{slice_get, ◌==◌, ◌||◌, ◌&&◌, if◌then◌else◌}
use Rattle.sect_lemmas.specs.{Lists.{Has, changed_at}, Numbers.{same_number}}
use Rattle.sect_modes.specs.{declared.mode.Mode.{Mode}, declared.key.Key.{Key}, Key.{is_same_key}}
use Rattle.sect_modes.specs.Mode.{are_compatible}
use Rattle.sect_table.specs.{declared.claims.Claim.{Claim}, declared.claims.Hold.{Hold}}
use Rattle.sect_table.specs.Contents.{mode_in, mode_for, may_join, is_among}
use Rattle.sect_table.proofs.shared.Claiming.{true_or_false, mode_in-here, mode_in-later, mode_for-here, mode_for-later}
use Rattle.sect_emit.specs.{declared.plan.Grip.{Grip}, Plan.{grip, held_mode}}
use Rattle.sect_world.specs.{Events.{all_but, lets}, Waiting.{grips}}
use Rattle.sect_lemmas.proofs.{Options.{some_injective, none_or_some, mapped}, Places.{all_pass}}
use Rattle.sect_lemmas.proofs.Replaced.{get-changed_at, same_number-true, same_number-refl}
use Rattle.sect_modes.proofs.shared.Keys.{key_itself, other_key, same_key}

pub this_key : (a b : Key) → is_same_key a b ≡ true → is_same_key b a ≡ true
this_key a b e = subst (λ z. is_same_key z a ≡ true) (same_key a b e) (key_itself a)

-- the mode of a key among grips
pub held-here : (k : Key) (g : Grip) (gs : List Grip) → is_same_key k g.key ≡ true → held_mode k (g ∷ gs) ≡ Some g.mode
held-here k g gs e = ap (λ b. if b then Some g.mode else held_mode k gs) e

pub held-later : (k : Key) (g : Grip) (gs : List Grip) → is_same_key k g.key ≡ false
    → held_mode k (g ∷ gs) ≡ held_mode k gs
held-later k g gs e = ap (λ b. if b then Some g.mode else held_mode k gs) e

pub held-grips : (k : Key) (hs : List Hold) → held_mode k (grips hs) ≡ mode_in k hs
held-grips k [] = refl
held-grips k (h ∷ hs) = elim (cases_Bool (is_same_key k h.key)) [
  | inl here ↦ held-here k (grip h.key h.mode) (grips hs) here ∙ sym (mode_in-here k h hs (this_key k h.key here))
  | inr later ↦ held-later k (grip h.key h.mode) (grips hs) later
      ∙ (held-grips k hs ∙ sym (mode_in-later k h hs (other_key k h.key later)))
]

-- one more grip doesn't change the modes of other keys
pub held-push_other : (k : Key) (g : Grip) (gs : List Grip) → is_same_key k g.key ≡ false
    → held_mode k (gs ++ g ∷ []) ≡ held_mode k gs
held-push_other k g [] e = held-later k g [] e
held-push_other k g (h ∷ hs) e = elim (cases_Bool (is_same_key k h.key)) [
  | inl here ↦ held-here k h (hs ++ g ∷ []) here ∙ sym (held-here k h hs here)
  | inr later ↦ held-later k h (hs ++ g ∷ []) later ∙ (held-push_other k g hs e ∙ sym (held-later k h hs later))
]

pub held-push : (k : Key) (g : Grip) (gs : List Grip) → held_mode k gs ≡ None → is_same_key k g.key ≡ true
    → held_mode k (gs ++ g ∷ []) ≡ Some g.mode
held-push k g [] none e = held-here k g [] e
held-push k g (h ∷ hs) none e = elim (cases_Bool (is_same_key k h.key)) [
  | inl here ↦ absurd (none_or_some h.mode (sym none ∙ held-here k h hs here))
  | inr later ↦ held-later k h (hs ++ g ∷ []) later ∙ held-push k g hs (sym (held-later k h hs later) ∙ none) e
]

-- who may join is compatible with each holder other than itself
compatible_beside : (a b : ℕ) (c : Bool) → ((a == b) || c) ≡ true → a ≢ b → c ≡ true
compatible_beside a b c e ne = elim (cases_Bool (a == b)) [
  | inl same ↦ absurd (ne (eqb-true a b same))
  | inr other ↦ sym (ap (λ q. q || c) other) ∙ e
]

pub joins : (hs : List Claim) (t : ℕ) (m : Mode) (u : ℕ) (n : Mode) → may_join hs t m ≡ true → mode_for u hs ≡ Some n
    → u ≢ t → are_compatible n m ≡ true
joins [] t m u n j e ne = absurd (none_or_some n e)
joins (h ∷ hs) t m u n j e ne =
    let both = and_parts ((h.thread == t) || are_compatible h.mode m) (may_join hs t m) j in
    elim (cases_Bool (h.thread == u)) [
      | inl here ↦
          let mode : h.mode ≡ n = some_injective h.mode n (sym (mode_for-here u h hs here) ∙ e) in
          let own : h.thread ≢ t = λ same. ne (sym (eqb-true h.thread u here) ∙ same) in
          subst (λ z. are_compatible z m ≡ true) mode
          (compatible_beside h.thread t (are_compatible h.mode m) both.0 own)
      | inr later ↦ joins hs t m u n both.1 (sym (mode_for-later u h hs later) ∙ e) ne
    ]

-- and where it may not, some holder other than itself isn't
pub record InTheWay (hs : List Claim) (t : ℕ) (m : Mode) : Type 0 where
  pub who : Claim
  pub there : Has hs who
  pub other : who.thread ≢ t
  pub against : are_compatible who.mode m ≡ false

and_false : (a b : Bool) → (a && b) ≡ false → (a ≡ false) ⊎ ((a ≡ true) × (b ≡ false))
and_false true b e = inr (refl, e)
and_false false b e = inl refl

pub in_the_way : (hs : List Claim) (t : ℕ) (m : Mode) → may_join hs t m ≡ false → InTheWay hs t m
in_the_way [] t m e = absurd (let off : true ≡ false = e in cc)
in_the_way (h ∷ hs) t m e = elim (and_false ((h.thread == t) || are_compatible h.mode m) (may_join hs t m) e) [
  | inl off ↦
      let both = or_parts (h.thread == t) (are_compatible h.mode m) off in
      record {
        who = h;
        there = inl refl;
        other =
            λ same. true_or_false (h.thread == t) (eq-eqb h.thread t same) both.0;
        against = both.1;
      }
  | inr on ↦
      let r = in_the_way hs t m on.1 in
      record { who = r.who; there = inr r.there; other = r.other; against = r.against }
]

-- the test of all other threads
suc_apart : (u n : ℕ) → u ≢ n → suc u ≢ suc n
suc_apart u n ne e = ne (omega (arith, e))

pub all_but_of : {X : Type 0} (n : ℕ) (test : X → Bool) (xs : List X)
    → ((u : ℕ) (x : X) → slice_get xs u ≡ Some x → u ≢ n → test x ≡ true) → all_but n test xs ≡ true
all_but_of n test [] f = refl
all_but_of zero test (x ∷ xs) f = all_pass test xs (λ u y e. f (suc u) y e (λ z. omega (arith, z)))
all_but_of (suc n) test (x ∷ xs) f = ap (λ b. b && all_but n test xs) (f 0 x refl (λ z. omega (arith, z)))
    ∙ all_but_of n test xs (λ u y e ne. f (suc u) y e (suc_apart u n ne))

pub lets_of : (o : Option Mode) (m : Mode) → ((n : Mode) → o ≡ Some n → are_compatible n m ≡ true) → lets o m ≡ true
lets_of None m f = refl
lets_of (Some n) m f = f n refl

-- one element changed
pub get-changed_other : {A : Type 0} (n m : ℕ) (g : A → A) (xs : List A) → n ≢ m
    → slice_get (changed_at n g xs) m ≡ slice_get xs m
get-changed_other n m g xs ne = get-changed_at n m g xs ∙ by (cases_Bool (same_number n m)) where
  by : ((same_number n m ≡ true) ⊎ (same_number n m ≡ false))
      → (if same_number n m then mapped g (slice_get xs m) else slice_get xs m) ≡ slice_get xs m
  by (inl e) = absurd (ne (same_number-true n m e))
  by (inr e) = ap (λ b. if b then mapped g (slice_get xs m) else slice_get xs m) e

pub get-changed_here : {A : Type 0} (n : ℕ) (g : A → A) (xs : List A) (x : A) → slice_get xs n ≡ Some x
    → slice_get (changed_at n g xs) n ≡ Some (g x)
get-changed_here n g xs x e = get-changed_at n n g xs
    ∙ (ap (λ b. if b then mapped g (slice_get xs n) else slice_get xs n) (same_number-refl n) ∙ ap (mapped g) e)

-- what is replaced by what it becomes
pub changed-put : {A : Type 0} (n : ℕ) (g : A → A) (xs : List A) (x : A) → slice_get xs n ≡ Some x
    → changed_at n g xs ≡ changed_at n (λ old. g x) xs
changed-put n g [] x e = refl
changed-put zero g (y ∷ ys) x e = ap (λ z. g z ∷ ys) (some_injective y x e)
changed-put (suc n) g (y ∷ ys) x e = ap (λ zs. y ∷ zs) (changed-put n g ys x e)

-- a thread without a claim
pub not_claiming : (t : ℕ) (cs : List Claim) → is_among t cs ≡ false → (c : Claim) → Has cs c → c.thread ≢ t
not_claiming t (d ∷ ds) e c (inl same) =
    λ own. true_or_false (d.thread == t) (eq-eqb d.thread t (ap (λ (z : Claim). z.thread) same ∙ own))
    (or_parts (d.thread == t) (is_among t ds) e).0
not_claiming t (d ∷ ds) e c (inr h) = not_claiming t ds (or_parts (d.thread == t) (is_among t ds) e).1 c h
not_claiming t [] e c h = absurd h
