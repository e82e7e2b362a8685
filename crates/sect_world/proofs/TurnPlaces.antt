-- What a thread may do where it is: outside sections, entered, and in one.
use Rattle.std.proofs.Common.{◌≡◌, ◌≢◌, ℕ, ◌+◌, ◌<◌, ◌≤◌, List, [], length, drop, true, false, true≢false, is_some}
use Rattle.std.proofs.{Common.{Option, Some, None, refl, sym, ◌∙◌, ap, subst}, lemmas.List.{drop_all}}
use Rattle.std.specs.Prelude.{ℤ, slice_get}
use Rattle.sect_types.specs.{declared.meaning.store.End.{End}, Statements.{TextView, Stop, Section}, Store.{StoreView}}
use Rattle.sect_types.specs.{Meaning.{begins_step}, Whole.{has_ended}}
use Rattle.sect_lemmas.proofs.Places.{at_of}
use Rattle.sect_graph.specs.Rests.{rest_at}
use Rattle.sect_modes.specs.{declared.mode.Mode.{Mode}, declared.key.Key.{Key}}
use Rattle.sect_table.specs.Contents.{Contents, held_by}
use Rattle.sect_emit.specs.{Plan.{meets}, Compiled.{CompiledView}, Graphed.{text_at}}
use Rattle.sect_emit.specs.State.{Outside, Entered, ThreadState, State, IsThread, plan_at, with_thread}
use Rattle.sect_world.specs.{declared.event.Deed.TheVariants.{Again}, declared.event.Event.{Event}}
use Rattle.sect_world.specs.{declared.runner.Runner.{Runner}, Events.{Happens, IsReady, giving_back}, Kept.{IsAt}}
use Rattle.sect_world.specs.{Waiting.{grips, Asks}, Viewing.{state_of, IsWorld}}
use Rattle.sect_world.proofs.{MoveTurns.{stands, kept, text_is, section_on}, Viewing.{drop_first}}

-- a thread that has an end has ended
pub shown_ended : (o : Option End) → is_some o ≡ has_ended o
shown_ended None = refl
shown_ended (Some x) = refl

pub none_ended : (o : Option End) → has_ended o ≡ false → o ≡ None
none_ended None e = refl
none_ended (Some x) e = absurd (true≢false e)

-- a text that begins a section begins no step
pub no_step : (k : TextView) (i : ℕ) (body rest : TextView) → k ≡ Section i body rest → begins_step k ≡ true → ⊥
no_step k i body rest is begins = true≢false (sym begins ∙ ap begins_step is)

module _ (c : CompiledView) (fuel : ℕ) (trace : List Event) (order : List ℕ) (store : StoreView) (output : List ℤ)
    (rs : List Runner) (table : Contents)
    (w : IsWorld c fuel trace order store output rs table) (t : ℕ) (th : ThreadState)
    (at : IsThread (state_of c store output rs table.held) t th)
    (r : Runner) (r_at : slice_get rs t ≡ Some r) where
  pub ended_is : th.frame.ended ≡ r.ended
  ended_is = ap (λ (z : ThreadState). z.frame.ended) (stands c fuel trace order store output rs table w t th at r r_at)

  left_is : th.frame.text ≡ rest_at (text_at c t) r.node
  left_is = text_is c fuel trace order store output rs table w t th at r r_at

  -- outside, where it hasn't ended, it has something to do
  pub on_outside : th.position ≡ Outside → r.ended ≡ None → rest_at (text_at c t) r.node ≢ Stop
  on_outside outside none off =
      (subst (λ p. IsAt c store t p th) outside (kept c fuel trace order store output rs table w t th at r r_at).at).1
      (ended_is ∙ none) (left_is ∙ off)

  -- where it has entered, it stands before a section
  pub before_section : th.position ≡ Entered → (i : ℕ) × (body : TextView) × (rest : TextView)
      × (th.frame.text ≡ Section i body rest)
  before_section entered = (subst (λ p. IsAt c store t p th) entered
      (kept c fuel trace order store output rs table w t th at r r_at).at).2

  pub on_entered : th.position ≡ Entered → rest_at (text_at c t) r.node ≢ Stop
  on_entered entered off =
      let s = before_section entered in
      section_on th.frame.text s.0 s.1 s.2 s.3 (left_is ∙ off)

  pub no_step_entered : th.position ≡ Entered → begins_step (rest_at (text_at c t) r.node) ≡ true → ⊥
  no_step_entered entered begins =
      let s = before_section entered in
      no_step th.frame.text s.0 s.1 s.2 s.3 (ap begins_step left_is ∙ begins)

  -- and asks for the first key that it wants, if any
  pub asks_first : th.position ≡ Entered → r.taken < length r.wanted.items
      → (k : Key) × (m : Mode) × Asks (state_of c store output rs table.held) t k m
  asks_first entered few =
      let g = at_of r.wanted.items r.taken few in (
        g.0.key,
        g.0.mode,
        (
          th,
          at,
          entered,
          (
            drop (r.taken + 1) r.wanted.items,
            ap (λ (z : ThreadState). z.wanted) (stands c fuel trace order store output rs table w t th at r r_at)
                ∙ drop_first r.taken r.wanted.items g.0 g.1,
          ),
        ),
      )

  -- or wants none
  pub wants_none : length r.wanted.items ≤ r.taken → th.wanted ≡ []
  wants_none past =
      ap (λ (z : ThreadState). z.wanted) (stands c fuel trace order store output rs table w t th at r r_at)
      ∙ drop_all r.taken r.wanted.items past

  -- or is ready for the section
  pub ready_for : th.position ≡ Entered → length r.wanted.items ≤ r.taken → (i : ℕ) (body rest : TextView)
      → rest_at (text_at c t) r.node ≡ Section i body rest → IsReady th i body rest
  ready_for entered past i body rest is = record {
    entered = entered;
    wanted = ap (λ (z : ThreadState). z.wanted) (stands c fuel trace order store output rs table w t th at r r_at)
        ∙ drop_all r.taken r.wanted.items past;
    text = left_is ∙ is;
  }

  -- whose plan it meets as its runner does
  pub meets_as : (i : ℕ) → meets th.held (plan_at c i store th.frame.work.locals) ≡ meets (grips (held_by table t))
      (plan_at c i store r.work.locals)
  meets_as i = ap (λ (z : ThreadState). meets z.held (plan_at c i store z.frame.work.locals))
      (stands c fuel trace order store output rs table w t th at r r_at)

  -- or else gives all back
  pub may_go_again : (i : ℕ) (body rest : TextView) → IsReady th i body rest
      → meets (grips (held_by table t)) (plan_at c i store r.work.locals) ≡ false
      → (after : State) × Happens c (state_of c store output rs table.held) (record { thread = t; deed = Again }) after
  may_go_again i body rest ready unmet = (
    with_thread t (giving_back th) (state_of c store output rs table.held),
    (th, at, (i, body, rest, ready, meets_as i ∙ unmet, refl)),
  )
