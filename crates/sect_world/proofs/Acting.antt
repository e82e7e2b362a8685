-- Acts of one thread in a row lead from a world to a world.
use Rattle.std.proofs.Common.{◌≡◌, ℕ, zero, suc, ◌<◌, ◌++◌, List, [], ◌∷◌, length, Some, Result, Ok, Err, true, refl}
use Rattle.std.proofs.Common.{sym}
use Rattle.std.proofs.Common.{ap, ◌∙◌, subst, append-nil}
use Rattle.std.specs.Prelude.{ℤ, slice_get, slice_set}
use Rattle.sect_types.specs.{declared.meaning.store.Fault.{Fault}, Sections.{sections_of}, Store.{StoreView}}
use Rattle.sect_types.specs.{Statements.{TextView}, Meaning.{WorkView, Next}}
use Rattle.sect_graph.specs.Rests.{rest_at}
use Rattle.sect_table.specs.{declared.claims.Hold.{Hold}, Contents.{Contents, held_by}}
use Rattle.sect_emit.specs.{declared.plan.Grip.{Grip}, Compiled.{CompiledView, program_of}}
use Rattle.sect_world.specs.{declared.event.Deed.TheVariants.{Act}, declared.event.Event.{Event}}
use Rattle.sect_world.specs.{declared.runner.Phase.{Phase}, declared.runner.Runner.{Runner}, Events.{step_in, acting}}
use Rattle.sect_world.specs.{Waiting.{grips}, Viewing.{body_at, thread_of, IsSited, IsWorld}}
use Rattle.sect_world.specs.{Acting.{acts_of, phase_by, moved_to, ActsOnce, Acts}, steps.Moves.{HoldsMore, grips_by}}
use Rattle.sect_world.proofs.{NodeSteps.{acted, acted_store, stage_by}, MoveTurns.{turns_inside}, Viewing.{place_of}}
use Rattle.sect_world.proofs.Leading.{Led, repeated_more, none_led, one_led, act_is_lone, set_same}
use Rattle.sect_world.specs.declared.runner.Phase.TheVariants as phase
use Rattle.sect_world.specs.declared.turned.EventKind.TheVariants as kind

abbrev act : ℕ → Event
act t = record { thread = t; deed = Act }

-- where no key comes, the table stays
same_table : (t : ℕ) (gs : List Grip) (table : Contents) → gs ≡ [] → HoldsMore t gs table table
same_table t gs table none = subst (λ z. HoldsMore t z table table) (sym none) refl

same_phase : (i : ℕ) (went : Result ℕ Fault) → phase_by i went ≡ stage_by i went
same_phase i (Ok m) = refl
same_phase i (Err why) = refl

came_sited : (c : CompiledView) (i : ℕ) (went : Result ℕ Fault) → i < length (sections_of (program_of c).texts)
    → IsSited c (phase_by i went)
came_sited c i (Ok m) within = within
came_sited c i (Err why) within = tt

module _ (c : CompiledView) (fuel : ℕ) (trace : List Event) (order : List ℕ) (store : StoreView) (output : List ℤ)
    (rs : List Runner) (table : Contents) (t i j : ℕ) (runner : Runner)
    (w : IsWorld c fuel trace order store output rs table) (there : slice_get rs t ≡ Some runner)
    (sited : i < length (sections_of (program_of c).texts)) (starts : runner.phase ≡ phase.Running i j) where
  -- one act more leads on
  one_act : (n j' : ℕ) (u : WorkView) (z : StoreView) (q : Phase) (v : WorkView) (r : StoreView)
      → Led c fuel trace order store output rs table t (acts_of n t) (moved_to runner (phase.Running i j') u) z
      → ActsOnce c t i j' u z q v r
      → Led c fuel trace order store output rs table t (acts_of (suc n) t) (moved_to runner q v) r
  one_act n j' u z q v r l once =
      let now : Runner = moved_to runner (phase.Running i j') u in
      let new : Runner = moved_to runner q v in
      let rs' : List Runner = slice_set rs t (moved_to runner (phase.Running i j') u) in
      let k : TextView = rest_at (body_at c i) j' in
      let step : Next = step_in c t (rest_at (body_at c i) j') u z in
      let went : Result ℕ Fault = once.2.0 in
      let hs : List Hold = held_by table t in
      let at : slice_get (slice_set rs t (moved_to runner (phase.Running i j') u)) t
      ≡ Some (moved_to runner (phase.Running i j') u) =
      set_same t runner (moved_to runner (phase.Running i j') u) rs there in
      let place = place_of c fuel (trace ++ acts_of n t) order z output rs' table l.world t now at in
      let keys : grips hs ≡ grips hs ++ grips_by c t u.made step =
      sym (append-nil (grips hs)) ∙ ap (λ gs. grips hs ++ gs) (sym once.1) in
      let acts : (text : TextView) → thread_of c text (moved_to runner q v) hs
      ≡ acting c t i step (thread_of c text now hs) =
      λ text. ap (λ p. thread_of c text (moved_to runner p v) hs) (once.2.2 ∙ same_phase i went)
      ∙ acted c t i step went text now v z r hs hs once.2.1 keys in
      let into = turns_inside c fuel (trace ++ acts_of n t) order z output rs' table l.world t place.0 place.1 now at
      (trace ++ acts_of n t) ((trace ++ acts_of n t) ++ act t ∷ []) (slice_set rs' t new) [] [] refl new refl refl i k r
      table place.2 once.0 refl acts (acted_store (rest_at (body_at c i)) t z r step went v once.2.1)
      (same_table t (grips_by c t u.made step) table once.1)
      (subst (IsSited c) (sym once.2.2) (came_sited c i went sited)) in
      subst (λ es. Led c fuel trace order store output rs table t es (moved_to runner q v) r) (repeated_more n (act t))
      (one_led c fuel trace order store output rs table t kind.Act Act act_is_lone (acts_of n t) now new z r l into)

  -- so do acts
  pub acts_led : (n : ℕ) (q : Phase) (v : WorkView) (r : StoreView)
      → Acts c t i n (phase.Running i j) runner.work store q v r
      → Led c fuel trace order store output rs table t (acts_of n t) (moved_to runner q v) r
  acts_led zero q v r a =
      none_led c fuel trace order store output rs table t runner (moved_to runner q v) r w there
      (λ k. moved_to runner ((a.0 ∙ sym starts) k) (a.1 k)) a.2
  acts_led (suc n) q v r a = one_act n a.0 a.1 a.2 q v r (acts_led n (phase.Running i a.0) a.1 a.2 a.3) a.4
