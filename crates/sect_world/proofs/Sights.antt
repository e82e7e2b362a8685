-- What the parts of a world tell of a thread.
use Rattle.std.proofs.Common.{◌≡◌, ℕ, zero, suc, ◌<◌, ◌≤◌, List, [], ◌∷◌, length, drop, Some, None, refl, sym, ap, ◌∙◌}
use Rattle.std.proofs.{Common.{arith}, lemmas.Option.{slice_get_past, get_or_from_slice_get}}
use Rattle.std.specs.Prelude.{ℤ, slice_get}
use Rattle.sect_lemmas.proofs.Places.{at_of}
use Rattle.sect_types.specs.Store.{StoreView}
use Rattle.sect_modes.specs.declared.key.Key.{Key}
use Rattle.sect_table.specs.Contents.{Contents, held_by}
use Rattle.sect_emit.specs.{Compiled.{CompiledView, program_of}, Plan.{held_mode}, State.{ThreadState}}
use Rattle.sect_world.specs.{declared.event.Event.{Event}, declared.runner.Runner.{Runner}}
use Rattle.sect_world.specs.Sights.{first_wish, wish_in, mode_of, mode_in, end_of, end_in}
use Rattle.sect_world.specs.Viewing.{state_of, IsWorld}
use Rattle.sect_world.proofs.{Claims.{held-grips}, Viewing.{seen, seen_at, length-threads_of}}
use Rattle.sect_table.specs.Contents as tables

-- what is left from a place begins with what stands there
left_first : {A : Type 0} (xs : List A) (n : ℕ) → slice_get (drop n xs) 0 ≡ slice_get xs n
left_first [] zero = refl
left_first [] (suc n) = refl
left_first (x ∷ xs) zero = refl
left_first (x ∷ xs) (suc n) = left_first xs n

module _ (c : CompiledView) (fuel : ℕ) (trace : List Event) (order : List ℕ) (store : StoreView) (output : List ℤ)
    (rs : List Runner) (table : Contents) (w : IsWorld c fuel trace order store output rs table) (t : ℕ) where
  many : length (state_of c store output rs table.held).threads ≡ length rs
  many = length-threads_of c (program_of c).texts rs table.held w.as_many w.as_many_held ∙ sym w.as_many

  pub wish_none : length rs ≤ t → None ≡ first_wish (state_of c store output rs table.held) t
  wish_none h = sym (ap wish_in (slice_get_past (state_of c store output rs table.held).threads t
      (omega (arith, many, h))))

  pub wish_some : (r : Runner) → slice_get rs t ≡ Some r
      → slice_get r.wanted.items r.taken ≡ first_wish (state_of c store output rs table.held) t
  wish_some r at =
      let s = seen_at c (program_of c).texts rs table.held t r w.as_many w.as_many_held at in
      sym (left_first r.wanted.items r.taken) ∙ sym (ap wish_in s.4)

  pub ended_so : (r : Runner) → slice_get rs t ≡ Some r → r.ended ≡ end_of (state_of c store output rs table.held) t
  ended_so r at =
      let s = seen_at c (program_of c).texts rs table.held t r w.as_many w.as_many_held at in
      sym (ap end_in s.4)

  pub holds_so : (k : Key) → t < length (state_of c store output rs table.held).threads
      → tables.mode_in k (held_by table t) ≡ mode_of (state_of c store output rs table.held) t k
  holds_so k there =
      let th = at_of (state_of c store output rs table.held).threads t there in
      let s = seen c (program_of c).texts rs table.held t th.0 th.1 in
      let held : held_by table t ≡ s.holds = get_or_from_slice_get table.held t s.holds [] s.holds_at in
      ap (tables.mode_in k) held ∙ sym (held-grips k s.holds)
      ∙ sym (ap (mode_in k) th.1 ∙ ap (λ (z : ThreadState). held_mode k z.held) s.is)
