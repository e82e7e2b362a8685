-- Turns of one thread, with what is kept of them, from where all threads stand outside until it is through.
use Rattle.std.proofs.Common.{◌≡◌, ◌<◌, ◌++◌, ◌∙◌, refl, sym, ap, subst, ℕ, List, [], ◌∷◌, append_assoc}
use Rattle.std.proofs.lemmas.List.{append-nil}
use Rattle.sect_types.specs.Whole.{RunView}
use Rattle.sect_emit.specs.Compiled.{CompiledView}
use Rattle.sect_world.specs.declared.{event.Event.{Event}, turned.Turned.{Turned}}
use Rattle.sect_world.specs.{Kept.{IsWellKept}, Runs.{leaver, order_of}, Worlds.{WorldView, Does}}
use Rattle.sect_draw.specs.{Chart.{TurnView, Noted}, steps.Turning.{IsCharted}, steps.Resting.{resting, IsLast}}
use Rattle.sect_draw.proofs.{Lone.{turns_left}, OnItsWay.{IsOnWay, TurnedSo, turn_on, last_so, nearer_so}}

-- sections that are left one after another
pub order_append : (es fs : List Event) → order_of (es ++ fs) ≡ order_of es ++ order_of fs
order_append [] fs = refl
order_append (e ∷ es) fs =
    ap (λ os. leaver e.thread e.deed ++ os) (order_append es fs)
    ∙ sym (append_assoc (leaver e.thread e.deed) (order_of es) (order_of fs))

module _ (c : CompiledView) (t : ℕ) (end : RunView) (os : List ℕ) (w v : WorldView) (m noted : Noted) (x : TurnView)
    (same : w.compiled ≡ c) (charted : IsCharted t w v m noted x) where
  charted_so : IsOnWay c t end os w.state → IsWellKept w.compiled w.state
      → TurnedSo c t end os w.state v.state x.events x.turned
  charted_so way kept =
      turn_on c t end os w.state way (subst (λ d. IsWellKept d w.state) same kept) x.turned x.events v.state
      (subst (λ s. Does c w.state t x.turned x.events s) charted.after
      (subst (λ u. Does c w.state u x.turned x.events x.after) charted.thread
      (subst (λ d. Does d w.state x.thread x.turned x.events x.after) same charted.from.does)))

  order_then : (before : List ℕ) → order_of w.trace ≡ before → (more : List ℕ) → order_of x.events ≡ more
      → order_of v.trace ≡ before ++ more
  order_then before was more is =
      ap order_of charted.trace ∙ (order_append w.trace x.events
      ∙ (ap (λ bs. bs ++ order_of x.events) was ∙ ap (λ ms. before ++ ms) is))

  -- the last turn of a thread that was on its way
  pub led_through : IsOnWay c t end os w.state → IsWellKept w.compiled w.state → (turned : Turned)
      → turned ≡ x.turned → IsLast turned → (before : List ℕ) → order_of w.trace ≡ before
      → (v.state ≡ resting end) × (order_of v.trace ≡ before ++ os)
  led_through way kept turned is last before was =
      let through = last_so c t end os w.state v.state x.events x.turned (subst IsLast is last)
      (charted_so way kept) in
      (through.0, order_then before was os through.1)

  -- another
  pub led_nearer : IsOnWay c t end os w.state → IsWellKept w.compiled w.state → (turned : Turned)
      → turned ≡ x.turned → (IsLast turned → ⊥) → (before : List ℕ) → order_of w.trace ≡ before
      → (order_of v.trace ≡ before) × IsOnWay c t end os v.state
      × (turns_left c t v.state < turns_left c t w.state)
  led_nearer way kept turned is other before was =
      let near = nearer_so c t end os w.state v.state x.events x.turned
      (λ last. other (subst IsLast (sym is) last)) (charted_so way kept) in
      (order_then before was [] near.none ∙ append-nil before, near.way, near.fewer)
