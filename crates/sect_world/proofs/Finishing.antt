-- How the threads of a world have ended.
use Rattle.std.proofs.Common.{◌≡◌, ℕ, suc, List, [], ◌∷◌, length, map, true, Option, Some, None, refl, sym, ◌∙◌}
use Rattle.std.proofs.Common.{ap, subst, arith, false}
use Rattle.std.specs.{Prelude.{slice_get}, List.{list_all}}
use Rattle.sect_types.specs.{declared.meaning.store.End.{End}, Statements.{TextView}}
use Rattle.sect_types.specs.Whole.{SerialEndView, RunsWhole, has_ended}
use Rattle.sect_lemmas.proofs.Places.{each_passes, all_pass}
use Rattle.sect_table.specs.declared.claims.Hold.{Hold}
use Rattle.sect_emit.specs.{Compiled.{CompiledView, IsCompiled, program_of}, State.{ThreadState, State}}
use Rattle.sect_world.specs.{declared.event.Event.{Event}, declared.runner.Runner.{Runner}}
use Rattle.sect_world.specs.{Runs.{IsRun, IsComplete, order_of}, Worlds.{AllEnded}, Viewing.{threads_of}}
use Rattle.sect_world.proofs.{Closing.{runs_are_serial}, Viewing.{seen, seen_at}}

-- how the runners have ended is how the threads have
pub runners_end : (c : CompiledView) (texts : List TextView) (rs : List Runner) (held : List (List Hold))
    → length rs ≡ length texts → length held ≡ length texts
    → map (λ (r : Runner). r.ended) rs ≡ map (λ (th : ThreadState). th.frame.ended) (threads_of c texts rs held)
runners_end c [] [] held m n = refl
runners_end c [] (r ∷ rs) held m n = absurd (omega (arith, m))
runners_end c (text ∷ texts) [] held m n = absurd (omega (arith, m))
runners_end c (text ∷ texts) (r ∷ rs) [] m n = absurd (omega (arith, n))
runners_end c (text ∷ texts) (r ∷ rs) (hs ∷ held) m n =
    ap (λ es. r.ended ∷ es) (runners_end c texts rs held (omega (arith, m)) (omega (arith, n)))

-- all threads have ended where all runners have
pub threads_ended : (c : CompiledView) (texts : List TextView) (rs : List Runner) (held : List (List Hold))
    → list_all (λ (r : Runner). has_ended r.ended) rs ≡ true
    → (t : ℕ) (th : ThreadState) → slice_get (threads_of c texts rs held) t ≡ Some th → has_ended th.frame.ended ≡ true
threads_ended c texts rs held all t th at =
    let s = seen c texts rs held t th at in
    ap (λ (z : ThreadState). has_ended z.frame.ended) s.is
    ∙ each_passes (λ (r : Runner). has_ended r.ended) rs all t s.runner s.runner_at

pub runners_ended : (c : CompiledView) (texts : List TextView) (rs : List Runner) (held : List (List Hold))
    → length rs ≡ length texts → length held ≡ length texts
    → ((t : ℕ) (th : ThreadState) → slice_get (threads_of c texts rs held) t ≡ Some th
    → has_ended th.frame.ended ≡ true)
    → list_all (λ (r : Runner). has_ended r.ended) rs ≡ true
runners_ended c texts rs held m n each =
    all_pass (λ (r : Runner). has_ended r.ended) rs
    (λ t r at. let s = seen_at c texts rs held t r m n at in each t _ s.4)

-- the ends of threads that all have ended
ends_there : (ths : List ThreadState)
    → ((t : ℕ) (th : ThreadState) → slice_get ths t ≡ Some th → has_ended th.frame.ended ≡ true)
    → (ends : List End) × (map (λ (th : ThreadState). th.frame.ended) ths ≡ map Some ends)
ends_there [] each = ([], refl)
ends_there (th ∷ ths) each = by th.frame.ended refl (ends_there ths (λ t. each (suc t))) where
  by : (o : Option End) → th.frame.ended ≡ o
      → (ends : List End) × (map (λ (th : ThreadState). th.frame.ended) ths ≡ map Some ends)
      → (ends : List End) × (map (λ (th : ThreadState). th.frame.ended) (th ∷ ths) ≡ map Some ends)
  by None is rest = absurd (let off : false ≡ true = sym (ap has_ended is) ∙ each 0 th refl in cc)
  by (Some e) is rest = (e ∷ rest.0, λ i. is i ∷ rest.1 i)

-- a run in whose state all threads have ended comes to what whole sections come to
pub whole_at_end : (c : CompiledView) (fuel : ℕ) (trace : List Event) (order : List ℕ) (s : State) → IsCompiled c
    → IsRun c fuel trace s → order ≡ order_of trace → AllEnded s
    → (e : SerialEndView) × IsComplete s e × RunsWhole (program_of c) fuel order e
whole_at_end c fuel trace order s compiled run ordered all =
    let ends = ends_there s.threads all in
    let e : SerialEndView = record { store = s.store; output = s.output; ends = ends.0 } in
    let complete : IsComplete s e = record { store = refl; output = refl; ends = ends.1 } in (
      e,
      complete,
      subst (λ o. RunsWhole (program_of c) fuel o e) (sym ordered)
          (runs_are_serial c compiled fuel trace s e run complete),
    )
