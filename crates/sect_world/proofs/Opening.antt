-- The world in which runs start; and where the text of a thread is at its end.
use Rattle.std.proofs.Common.{◌≡◌, ℕ, zero, suc, ◌<◌, ◌≤◌, List, [], ◌∷◌, ◌++◌, length, map, drop, Some, None, refl}
use Rattle.std.proofs.{Common.{sym, ◌∙◌, ap, subst, arith}, lemmas.List.{length-replicate}}
use Rattle.std.proofs.lemmas.Option.{get_or_from_slice_get}
use Rattle.std.specs.Prelude.{slice_get, slice_index_or, replicate}
use Rattle.sect_types.specs.declared.declarations.types.ValueType.{ValueType}
use Rattle.sect_types.specs.{declared.meaning.store.End.TheVariants.{Done}, Statements.{TextView, Stop}}
use Rattle.sect_types.specs.{Meaning.{WorkView}, Whole.{settled, first_work, first_frames, first_store}}
use Rattle.sect_lemmas.specs.Lists.{Has}
use Rattle.sect_lemmas.proofs.Options.{some_injective, none_or_some}
use Rattle.sect_graph.specs.{declared.flow.Node.{Node}, Rests.{rest_at}}
use Rattle.sect_table.specs.{Contents.{Contents, IsEmptyFor, entry_of}, Sound.{IsKept as IsTableKept}}
use Rattle.sect_emit.specs.{Compiled.{CompiledView, IsCompiled, program_of}, State.{outside, start}, Graphed.{text_at}}
use Rattle.sect_world.specs.{declared.runner.Runner.{Runner}, Events.{emptied}, Worlds.{first_world}}
use Rattle.sect_world.specs.Viewing.{position_of, frame_of, BeginsSo, EndsSo, IsFirst, AreFirst, IsSited}
use Rattle.sect_world.specs.Viewing.{IsWorld, thread_of, threads_of, state_of, shown}
use Rattle.sect_world.proofs.NodeSteps.{thread_graph, at_exit, before_exit, settled_at_exit}
use Rattle.sect_world.specs.declared.runner.Phase.TheVariants as phase

module _ (c : CompiledView) (is : IsCompiled c) (t : ℕ) (within : t < length (program_of c).texts) (g : List Node)
    (at : slice_get c.scheme.graphs.threads t ≡ Some g) where
  -- before the exit of its graph it goes on
  pub ends_on : (j : ℕ) → j < length g → EndsSo None (rest_at (text_at c t) j) None
  ends_on j before w old = before_exit c is t g j within at before (emptied w)

  -- and there it is done
  pub ends_off : (j : ℕ) → length g ≤ j → EndsSo None (rest_at (text_at c t) j) (Some Done)
  ends_off j past w old = sym (settled_at_exit (rest_at (text_at c t) j) (emptied w)
      (at_exit c is t g j within at past))

  -- the same at the start
  pub begins_on : 0 < length g → BeginsSo (text_at c t) None
  begins_on some w = sym (before_exit c is t g 0 within at some w)
      ∙ ap (λ z. settled z w) (thread_graph c is t within g at).running.start

  pub begins_off : length g ≤ 0 → BeginsSo (text_at c t) (Some Done)
  begins_off none w =
      settled_at_exit (rest_at (text_at c t) 0) w (at_exit c is t g 0 within at none)
      ∙ ap (λ z. settled z w) (thread_graph c is t within g at).running.start

-- a runner at the start
pub first_is : (c : CompiledView) (fuel : ℕ) (t : ℕ) (r : Runner) → r.phase ≡ phase.Outside → r.node ≡ 0
    → r.work ≡ first_work fuel (slice_index_or (program_of c).locals t [])
    → BeginsSo (text_at c t) r.ended → drop r.taken r.wanted.items ≡ [] → IsFirst c fuel t r
first_is c fuel t r out node work ends none = record {
  phase = out;
  thread = λ text at.
      let w : WorkView = first_work fuel (slice_index_or (program_of c).locals t []) in
      let same : text_at c t ≡ text = get_or_from_slice_get (program_of c).texts t text Stop at in
      let framed : frame_of text r ≡ settled text w =
      ap (λ n. record { text = rest_at text n; work = r.work; ended = r.ended }) node
      ∙ (ap (λ v. record { text = rest_at text 0; work = v; ended = r.ended }) work
      ∙ subst (λ z. record { text = rest_at z 0; work = w; ended = r.ended } ≡ settled z w) same (ends w)) in
      λ i. record { position = position_of c (out i); frame = framed i; wanted = none i; held = [] };
}

-- what holds of each element, and of one more by its place, holds of each then
pub each_more : {X : Type 0} (P : ℕ → X → Type 0) (xs : List X) (x : X)
    → ((t : ℕ) (y : X) → slice_get xs t ≡ Some y → P t y) → P (length xs) x
    → (t : ℕ) (y : X) → slice_get (xs ++ x ∷ []) t ≡ Some y → P t y
each_more P [] x each own zero y at = subst (P 0) (some_injective x y at) own
each_more P [] x each own (suc t) y at = absurd (none_or_some y at)
each_more P (z ∷ xs) x each own zero y at = each zero y at
each_more P (z ∷ xs) x each own (suc t) y at = each_more (λ n. P (suc n)) xs x (λ n. each (suc n)) own t y at

-- the threads at their start
first_threads : (c : CompiledView) (fuel : ℕ) (texts : List TextView) (locals : List (List ValueType))
    (rs : List Runner) → length rs ≡ length texts
    → ((t : ℕ) (r : Runner) (text : TextView) → slice_get rs t ≡ Some r → slice_get texts t ≡ Some text
    → thread_of c text r [] ≡ outside (settled text (first_work fuel (slice_index_or locals t []))))
    → threads_of c texts rs (replicate (length texts) []) ≡ map outside (first_frames fuel texts locals)
first_threads c fuel [] locals rs many each = refl
first_threads c fuel (text ∷ texts) locals [] many each = absurd (omega (arith, many))
first_threads c fuel (text ∷ texts) [] (r ∷ rs) many each =
    let rest = first_threads c fuel texts [] rs (omega (arith, many)) (λ t. each (suc t)) in
    λ i. each 0 r text refl refl i ∷ rest i
first_threads c fuel (text ∷ texts) (types ∷ locals) (r ∷ rs) many each =
    let rest = first_threads c fuel texts locals rs (omega (arith, many)) (λ t. each (suc t)) in
    λ i. each 0 r text refl refl i ∷ rest i

-- the state at the start
pub first_state : (c : CompiledView) (fuel : ℕ) (rs : List Runner) → length rs ≡ length (program_of c).texts
    → AreFirst c fuel rs
    → state_of c (first_store (program_of c)) [] rs (replicate (length (program_of c).texts) []) ≡ start c fuel
first_state c fuel rs many first =
    ap (λ ths. record { store = first_store (program_of c); output = []; threads = ths })
    (first_threads c fuel (program_of c).texts (program_of c).locals rs many
    (λ t r text at text_at. (first t r at).thread text text_at))

-- these parts are a world
pub opens : (c : CompiledView) (fuel : ℕ) (rs : List Runner) (table : Contents) → IsCompiled c
    → length rs ≡ length (program_of c).texts → AreFirst c fuel rs
    → IsEmptyFor (length (program_of c).texts) table → IsTableKept table
    → IsWorld c fuel [] [] (first_store (program_of c)) [] rs table
opens c fuel rs table compiled many first empty kept = record {
  compiled = compiled;
  run = sym (ap (state_of c (first_store (program_of c)) [] rs) empty.held ∙ first_state c fuel rs many first);
  ordered = refl;
  as_many = many;
  as_many_held = ap length empty.held ∙ length-replicate (length (program_of c).texts) [];
  sited = λ t r at. subst (IsSited c) (sym (first t r at).phase) tt;
  waits = λ k w there. absurd (subst (λ es. Has (entry_of k es).waiters w) empty.entries there);
  tabled = kept;
}

-- and are seen as the first world
pub opened : (c : CompiledView) (fuel : ℕ) (rs : List Runner) (table : Contents)
    → length rs ≡ length (program_of c).texts → AreFirst c fuel rs
    → IsEmptyFor (length (program_of c).texts) table
    → shown c fuel [] [] (first_store (program_of c)) [] rs table.held [] ≡ first_world c fuel
opened c fuel rs table many first empty =
    ap (λ z. record { compiled = c; fuel = fuel; trace = []; order = []; state = z; granted = [] })
    (ap (state_of c (first_store (program_of c)) [] rs) empty.held ∙ first_state c fuel rs many first)
