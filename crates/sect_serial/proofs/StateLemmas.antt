-- States that are kept while outcomes are sought, and all that whole sections lead to.
use Rattle.std.proofs.Common.{◌≡◌, ◌<◌, ◌≤◌, ◌+◌, inl, inr, ℕ, false, List, [], ◌∷◌, ◌++◌}
use Rattle.std.proofs.Common.{Option, Some, None, refl, sym, ap, subst, ◌∙◌, arith, length, slice_get}
use Rattle.std.proofs.{Common.{length-append}, lemmas.Bool.{cases_lt}, lemmas.List.{length-map, append-nil}}
use Rattle.std.proofs.{lemmas.Option.{slice_get_past, slice_get_within}, lemmas.List.{append_assoc}}
use Rattle.sect_lemmas.specs.Lists.{Has}
use Rattle.sect_lemmas.proofs.{Distinct.{distinct_none}, Membership.{Has-cases, Has-left, Has-right, Has-unmap}}
use Rattle.sect_lemmas.proofs.{Elements.{slice_get-left}, Listing.{Has-map}}
use Rattle.sect_lemmas.proofs.{Options.{some_injective, none_or_some}, Places.{Has-index}, Elements.{get_front}}
use Rattle.sect_types.specs.Programs.{ProgramView}
use Rattle.sect_types.specs.Whole.{RunView, SerialEndView, RunsWhole, begun, in_order, run_section}
use Rattle.sect_types.specs.Whole.{section_of_thread, option_then}
use Rattle.sect_serial.specs.{Comparing.{run_eq}, Exploring.{Found, HasMoreThan, HasStates, IsReached, AreOutcomes, IsBefore}}
use Rattle.sect_serial.specs.Exploring.{ends_in}
use Rattle.sect_serial.specs.Trimming.{trimmed}
use Rattle.sect_serial.specs.steps.Frames.{AreReady}
use Rattle.sect_serial.specs.steps.States.{States, states_in, Leads, AreStates, Grows, GoesOn, Keeps, AreAll, AreEnds}
use Rattle.sect_serial.specs.steps.States.{has_state, IsAtMost, IsKeptBy, IsFoundBy, IsAhead}
use Rattle.sect_serial.proofs.{Keys.{keys_push, lookup_has, lookup_none, one_of_distinct}, RunLemmas.{in_order_more}}
use Rattle.sect_serial.proofs.{TellLemmas.{run_tells}, Trimmed.{trimmed_section, trimmed_ends}}
use Rattle.sect_serial.proofs.Shortlex.{before_itself, before_at_most, at_most_longer, at_most_transitive, rising_push}
use Rattle.sect_serial.proofs.AheadLemmas.{behind_all}

-- a section more of a thread leads on
pub leads_on : (p : ProgramView) (fuel t : ℕ) (order : List ℕ) (s r : RunView) → Leads p fuel order s
    → run_section p t s ≡ Some r → AreReady p 0 r.frames → length r.frames ≡ length s.frames
    → Leads p fuel (order ++ t ∷ []) r
leads_on p fuel t order s r led ran ready many = record {
  there = in_order_more p order t (begun p fuel) s r led.there ran;
  ready = ready;
  many = many ∙ led.many;
}

-- a thread that isn't there has no section
pub no_thread : (p : ProgramView) (t : ℕ) (s : RunView) → length s.frames ≤ t → run_section p t s ≡ None
no_thread p t s le = ap (λ o. section_of_thread p t o s) (slice_get_past s.frames t le)

-- each state is led to, one more that is kept too
pub led_push : (p : ProgramView) (fuel : ℕ) (es : States) (r : RunView) (order : List ℕ)
    → ((e : RunView × List ℕ) → Has es e → Leads p fuel e.1 e.0) → Leads p fuel order r
    → (e : RunView × List ℕ) → Has (es ++ (r, order) ∷ []) e → Leads p fuel e.1 e.0
led_push p fuel es r order all led e h = elim (Has-cases es ((r, order) ∷ []) e h) [
  | inl before ↦ all e before
  | inr last ↦ elim last [
    | inl is ↦ subst (λ (x : RunView × List ℕ). Leads p fuel x.1 x.0) is led
    | inr no_more ↦ absurd no_more
  ]
]

-- a state more
states_push : (p : ProgramView) (fuel most : ℕ) (es : States) (r : RunView) (order : List ℕ)
    → AreStates p fuel most es → Leads p fuel order r → ((x : RunView × List ℕ) → Has es x → IsBefore x.1 order)
    → has_state es r ≡ false → length es < most → AreStates p fuel most (es ++ (r, order) ∷ [])
states_push p fuel most es r order all led behind new lt = record {
  led = led_push p fuel es r order all.led led;
  distinct = keys_push trimmed es r order all.distinct (lookup_none trimmed run_eq run_tells es r new);
  few = rw length-append (omega (arith, lt));
  rising = rising_push es (r, order) all.rising behind;
}

-- what is kept leaves states
pub states_keep : (p : ProgramView) (fuel most : ℕ) (es fs : States) (r : RunView) (order : List ℕ)
    → AreStates p fuel most es → Leads p fuel order r → ((x : RunView × List ℕ) → Has es x → IsBefore x.1 order)
    → Keeps most r order es fs → AreStates p fuel most fs
states_keep p fuel most es fs r order all led behind (inl k) = subst (AreStates p fuel most) (sym k.1) all
states_keep p fuel most es fs r order all led behind (inr k) =
    subst (AreStates p fuel most) (sym k.2) (states_push p fuel most es r order all led behind k.0 k.1)

-- what is kept is there, with its order or one before it
pub kept_is_there : (most : ℕ) (es fs : States) (r : RunView) (order : List ℕ)
    → ((x : RunView × List ℕ) → Has es x → IsBefore x.1 order) → Keeps most r order es fs → IsKeptBy fs r order
kept_is_there most es fs r order behind (inl k) =
    let there = Has-unmap (λ (x : RunView × List ℕ). trimmed x.0) es (trimmed r)
    (lookup_has trimmed run_eq run_tells es r k.0) in
    subst (λ (xs : States). IsKeptBy xs r order) (sym k.1)
    (there.0, there.1, there.2, inl (behind there.0 there.1))
kept_is_there most es fs r order behind (inr k) = subst (λ (xs : States). IsKeptBy xs r order) (sym k.2)
    ((r, order), Has-right es ((r, order) ∷ []) (r, order) (inl refl), refl, inr refl)

pub grows_none : (es : States) → Grows es es
grows_none es = ([], sym (append-nil es))

pub kept_grows : (most : ℕ) (es fs : States) (r : RunView) (order : List ℕ) → Keeps most r order es fs → Grows es fs
kept_grows most es fs r order (inl k) = ([], k.1 ∙ sym (append-nil es))
kept_grows most es fs r order (inr k) = ((r, order) ∷ [], k.2)

pub grows_more : (es fs gs : States) → Grows es fs → Grows fs gs → Grows es gs
grows_more es fs gs a b = (
  a.0 ++ b.0,
  b.1 ∙ ap (λ (xs : States). xs ++ b.0) a.1 ∙ append_assoc es a.0 b.0,
)

pub grows_kept : (es fs : States) (r : RunView) (order : List ℕ) → Grows es fs → IsKeptBy es r order
    → IsKeptBy fs r order
grows_kept es fs r order g k = subst (λ (xs : States). IsKeptBy xs r order) (sym g.1)
    (k.0, Has-left es g.0 k.0 k.1, k.2, k.3)

pub grows_get : (es fs : States) (n : ℕ) (e : RunView × List ℕ) → Grows es fs → slice_get es n ≡ Some e
    → slice_get fs n ≡ Some e
grows_get es fs n e g at = ap (λ (xs : States). slice_get xs n) g.1 ∙ slice_get-left es g.0 n e at

-- what was followed stays so
pub grows_on : (p : ProgramView) (es fs : States) (n t : ℕ) → Grows es fs → n < length es → GoesOn p es n t
    → GoesOn p fs n t
grows_on p es fs n t g lt on e r at ran =
    grows_kept es fs r (e.1 ++ t ∷ []) g (on e r (get_front es g.0 n e lt
    (sym (ap (λ (xs : States). slice_get xs n) g.1) ∙ at)) ran)

-- one state is at a place
on_at : (p : ProgramView) (es : States) (n t : ℕ) (e : RunView × List ℕ) → slice_get es n ≡ Some e
    → ((r : RunView) → run_section p t e.0 ≡ Some r → IsKeptBy es r (e.1 ++ t ∷ [])) → GoesOn p es n t
on_at p es n t e at has d r there ran =
    let same : d ≡ e = some_injective d e (sym there ∙ at) in
    subst (λ (x : RunView × List ℕ). IsKeptBy es r (x.1 ++ t ∷ [])) (sym same)
    (has r (ap (λ (x : RunView × List ℕ). run_section p t x.0) (sym same) ∙ ran))

-- states that are led to are reached
reached_in : (p : ProgramView) (fuel : ℕ) (es : States)
    → ((e : RunView × List ℕ) → Has es e → Leads p fuel e.1 e.0) → (s : RunView) → Has (states_in es) s
    → IsReached p fuel s
reached_in p fuel es led s h =
    let e = Has-unmap (λ (x : RunView × List ℕ). trimmed x.0) es s h in
    (e.0.1, e.0.0, (led e.0 e.1).there, e.2)

-- a state that finds no place is one too many
pub too_many : (p : ProgramView) (fuel most : ℕ) (es : States) (r : RunView) (order : List ℕ)
    → AreStates p fuel most es → Leads p fuel order r → has_state es r ≡ false → most ≤ length es
    → HasMoreThan p fuel most
too_many p fuel most es r order all led new full =
    let few = all.few in
    let more = es ++ (r, order) ∷ [] in
    let long : length more ≡ length es + 1 = length-append es ((r, order) ∷ []) in (
      states_in more,
      length-map more (λ (e : RunView × List ℕ). trimmed e.0) ∙ long ∙ omega (arith, few, full),
      keys_push trimmed es r order all.distinct (lookup_none trimmed run_eq run_tells es r new),
      reached_in p fuel more (led_push p fuel es r order all.led led),
    )

-- whatever whole sections lead to from a state that is there is there, with the order of that state and theirs behind
-- it, or one before that
closed_from : (p : ProgramView) (es : States) → ((n t : ℕ) → GoesOn p es n t) → (behind order : List ℕ)
    (s r : RunView) → IsKeptBy es s behind → in_order p order s ≡ Some r → IsKeptBy es r (behind ++ order)
closed_from p es on behind [] s r k ran =
    subst (λ x. IsKeptBy es x (behind ++ [])) (some_injective s r ran)
    (subst (IsKeptBy es s) (sym (append-nil behind)) k)
closed_from p es on behind (t ∷ ts) s r k ran =
    by (run_section p t s) refl ran (λ q. closed_from p es on (behind ++ t ∷ []) ts q r) where
      by : (o : Option RunView) → run_section p t s ≡ o → option_then o (in_order p ts) ≡ Some r
          → ((q : RunView) → IsKeptBy es q (behind ++ t ∷ []) → in_order p ts q ≡ Some r
          → IsKeptBy es r ((behind ++ t ∷ []) ++ ts))
          → IsKeptBy es r (behind ++ t ∷ ts)
      by None is g rest = absurd (none_or_some r g)
      by (Some q) is g rest =
          let at = Has-index es k.0 k.1 in
          let next = trimmed_section p t s k.0.0 q (sym k.2) is in
          let there = on at.0 t k.0 next.0 at.1 next.1 in
          subst (IsKeptBy es r) (append_assoc behind (t ∷ []) ts) (rest q (
            there.0,
            there.1,
            there.2 ∙ next.2,
            at_most_transitive there.0.1 (k.0.1 ++ t ∷ []) (behind ++ t ∷ []) there.3
                (at_most_longer k.0.1 behind t k.3),
          ) g)

-- each state that whole sections lead to is there, with their order or one before it
pub kept_by : (p : ProgramView) (fuel most : ℕ) (es : States) → AreAll p fuel most es → (order : List ℕ)
    (r : RunView) → in_order p order (begun p fuel) ≡ Some r → IsKeptBy es r order
kept_by p fuel most es all order r ran = closed_from p es all.closed [] order (begun p fuel) r all.first ran

-- so all of them are there
pub all_there : (p : ProgramView) (fuel most : ℕ) (es : States) → AreAll p fuel most es → (s : RunView)
    → IsReached p fuel s → Has (states_in es) s
all_there p fuel most es all s reached =
    let k = kept_by p fuel most es all reached.0 reached.1 reached.2 in
    subst (Has (states_in es)) (k.2 ∙ reached.3) (Has-map (λ (x : RunView × List ℕ). trimmed x.0) es k.0 k.1)

-- so these are the states, each once
pub all_states : (p : ProgramView) (fuel most : ℕ) (es : States) → AreAll p fuel most es
    → HasStates p fuel (length es)
all_states p fuel most es all = (
  states_in es,
  length-map es (λ (e : RunView × List ℕ). trimmed e.0),
  all.states.distinct,
  λ s. (reached_in p fuel es all.states.led s, all_there p fuel most es all s),
)

-- what some order comes to was found, with that order or one before it
found_by : (p : ProgramView) (fuel most : ℕ) (es : States) (all : Found) → AreAll p fuel most es
    → AreEnds p fuel es (length es) all → (order : List ℕ) (e : SerialEndView) → RunsWhole p fuel order e
    → IsFoundBy all e order
found_by p fuel most es all states ends order e w =
    let k = kept_by p fuel most es states order w.0 w.1 in
    let at = Has-index es k.0 k.1 in
    let f = ends.found at.0 k.0 e (slice_get_within es at.0 k.0 at.1) at.1 (trimmed_ends p w.0 k.0.0 e (sym k.2) w.2) in
    (f.0, f.1, f.2, at_most_transitive f.0.1 k.0.1 order f.3 k.3)

-- the ends of all states are all outcomes
pub all_outcomes : (p : ProgramView) (fuel most : ℕ) (es : States) (all : Found) → AreAll p fuel most es
    → AreEnds p fuel es (length es) all → AreOutcomes p fuel all
all_outcomes p fuel most es all states ends = record {
  right = ends.right;
  complete = λ order e w.
      let f = found_by p fuel most es all states ends order e w in
      subst (Has (ends_in all)) f.2 (Has-map (λ (x : SerialEndView × List ℕ). x.0) all f.0 f.1);
  once = ends.once;
  first = λ x h order w before.
      let f = found_by p fuel most es all states ends order x.0 w in
      let same = one_of_distinct (λ (y : SerialEndView × List ℕ). y.0) all f.0 x ends.once f.1 h f.2 in
      before_itself order (before_at_most order x.1 order before
      (subst (λ (y : SerialEndView × List ℕ). IsAtMost y.1 order) same f.3));
  rising = ends.rising;
}

-- one thread more is followed
module _ (p : ProgramView) (es : States) (n t : ℕ) (before : (u : ℕ) → u < t → GoesOn p es n u) where
  followed_to : GoesOn p es n t → (u : ℕ) → u < t + 1 → GoesOn p es n u
  followed_to here u lt = elim (cases_lt u t) [
    | inl less ↦ before u less
    | inr more ↦ subst (GoesOn p es n) (let e : t ≡ u = omega (arith, lt, more) in e) here
  ]

  pub followed_none : (e : RunView × List ℕ) → slice_get es n ≡ Some e → run_section p t e.0 ≡ None → (u : ℕ)
      → u < t + 1 → GoesOn p es n u
  followed_none e at none = followed_to (on_at p es n t e at (λ r ran. absurd (none_or_some r (sym none ∙ ran))))

-- a section leads on to a state that is kept
pub kept_leads : (p : ProgramView) (fuel t : ℕ) (e : RunView × List ℕ) (r : RunView) (longer : List ℕ)
    → Leads p fuel e.1 e.0 → run_section p t e.0 ≡ Some r → AreReady p 0 r.frames
    → length r.frames ≡ length e.0.frames → longer ≡ e.1 ++ t ∷ [] → Leads p fuel longer r
kept_leads p fuel t e r longer led ran ready many is =
    subst (λ (o : List ℕ). Leads p fuel o r) (sym is) (leads_on p fuel t e.1 e.0 r led ran ready many)

pub followed_some : (p : ProgramView) (most : ℕ) (es fs : States) (n t : ℕ) (e : RunView × List ℕ) (r : RunView)
    (longer : List ℕ)
    → ((u : ℕ) → u < t → GoesOn p es n u) → slice_get es n ≡ Some e → run_section p t e.0 ≡ Some r
    → longer ≡ e.1 ++ t ∷ [] → IsAhead es n t → Keeps most r longer es fs → (u : ℕ) → u < t + 1 → GoesOn p fs n u
followed_some p most es fs n t e r longer before at ran is ahead kept =
    let grown = kept_grows most es fs r longer kept in
    let within = slice_get_within es n e at in
    let there = kept_is_there most es fs r longer (behind_all es n t e longer at is ahead) kept in
    followed_to p fs n t (λ u lt. grows_on p es fs n u grown within (before u lt))
    (on_at p fs n t e (grows_get es fs n e grown at)
    (λ q other. subst (λ x. IsKeptBy fs x (e.1 ++ t ∷ [])) (some_injective r q (sym ran ∙ other))
    (subst (IsKeptBy fs r) is there)))

-- no states are states
pub none_states : (p : ProgramView) (fuel most : ℕ) → AreStates p fuel most []
none_states p fuel most = record {
  led = λ e h. absurd h;
  distinct = distinct_none;
  few = omega arith;
  rising = tt;
}

-- no section leads to the start
pub begun_leads : (p : ProgramView) (fuel : ℕ) (order : List ℕ) (r : RunView) → order ≡ [] → r ≡ begun p fuel
    → AreReady p 0 r.frames → length r.frames ≡ length p.texts → Leads p fuel order r
begun_leads p fuel order r none is ready many = record {
  there = ap (λ (o : List ℕ). in_order p o (begun p fuel)) none ∙ ap Some (sym is);
  ready = ready;
  many = many;
}
