-- Local steps of one thread in a row lead from a world to a world.
use Rattle.std.proofs.Common.{◌≡◌, ℕ, zero, suc, ◌++◌, List, [], ◌∷◌, Option, Some, None, true, refl, sym, ap, ◌∙◌}
use Rattle.std.proofs.Common.{subst}
use Rattle.std.specs.Prelude.{ℤ, slice_get, slice_set}
use Rattle.sect_types.specs.{declared.meaning.store.End.{End}, Store.{StoreView}, Meaning.{WorkView, begins_step}}
use Rattle.sect_table.specs.Contents.{Contents, held_by}
use Rattle.sect_emit.specs.{Compiled.{CompiledView}, Graphed.{text_at}, State.{ThreadState}}
use Rattle.sect_world.specs.{declared.event.Deed.TheVariants.{Local}, declared.event.Event.{Event}}
use Rattle.sect_world.specs.{declared.runner.Runner.{Runner}, Events.{IsFree}}
use Rattle.sect_world.specs.Viewing.{position_of, thread_of, IsWorld}
use Rattle.sect_world.specs.Locals.{locals_of, gone_to, StepsOnce, Steps}
use Rattle.sect_world.proofs.{MoveTurns.{stands, text_is, turns_local}, Viewing.{place_of}}
use Rattle.sect_world.proofs.Leading.{Led, repeated_more, none_led, one_led, local_is_lone, set_same}
use Rattle.sect_world.specs.declared.runner.Phase.TheVariants as phase
use Rattle.sect_world.specs.declared.turned.EventKind.TheVariants as kind

abbrev local : ℕ → Event
local t = record { thread = t; deed = Local }

module _ (c : CompiledView) (fuel : ℕ) (trace : List Event) (order : List ℕ) (store : StoreView) (output : List ℤ)
    (rs : List Runner) (table : Contents) (t : ℕ) (runner : Runner)
    (w : IsWorld c fuel trace order store output rs table) (there : slice_get rs t ≡ Some runner)
    (outside : runner.phase ≡ phase.Outside) (alive : runner.ended ≡ None) where
  -- one step more leads on
  one_step : (n i : ℕ) (u : WorkView) (m : ℕ) (v : WorkView) (e : Option End)
      → Led c fuel trace order store output rs table t (locals_of n t) (gone_to runner i u None) store
      → StepsOnce c t i u m v e
      → Led c fuel trace order store output rs table t (locals_of (suc n) t) (gone_to runner m v e) store
  one_step n i u m v e l once =
      let now : Runner = gone_to runner i u None in
      let new : Runner = gone_to runner m v e in
      let rs' : List Runner = slice_set rs t (gone_to runner i u None) in
      let es : List Event = trace ++ locals_of n t in
      let at : slice_get (slice_set rs t (gone_to runner i u None)) t ≡ Some (gone_to runner i u None) =
      set_same t runner (gone_to runner i u None) rs there in
      let place = place_of c fuel (trace ++ locals_of n t) order store output rs' table l.world t now at in
      let is : place.0 ≡ thread_of c (text_at c t) now (held_by table t) =
      stands c fuel (trace ++ locals_of n t) order store output rs' table l.world t place.0 place.1 now at in
      let free : IsFree place.0 = (
        ap (λ (z : ThreadState). z.position) is ∙ ap (position_of c) outside,
        ap (λ (z : ThreadState). z.frame.ended) is,
      ) in
      let begins : begins_step place.0.frame.text ≡ true =
      ap begins_step (text_is c fuel (trace ++ locals_of n t) order store output rs' table l.world t place.0 place.1 now
      at) ∙ once.0 in
      let into = turns_local c fuel (trace ++ locals_of n t) order store output rs' table l.world t place.0 place.1
      now at
      (trace ++ locals_of n t) ((trace ++ locals_of n t) ++ local t ∷ []) (slice_set rs' t new) [] [] refl new refl refl
      free begins refl once.1 refl refl refl in
      subst (λ fs. Led c fuel trace order store output rs table t fs (gone_to runner m v e) store) (repeated_more n
      (local t))
      (one_led c fuel trace order store output rs table t kind.Local Local local_is_lone (locals_of n t) now new store
      store l into)

  -- so do steps
  pub steps_led : (n m : ℕ) (v : WorkView) (e : Option End) → Steps c t n runner.node runner.work m v e
      → Led c fuel trace order store output rs table t (locals_of n t) (gone_to runner m v e) store
  steps_led zero m v e a =
      none_led c fuel trace order store output rs table t runner (gone_to runner m v e) store w there
      (λ k. gone_to runner (a.0 k) (a.1 k) ((a.2 ∙ sym alive) k)) refl
  steps_led (suc n) m v e a = one_step n a.0 a.1 m v e (steps_led n a.0 a.1 None a.2) a.3
