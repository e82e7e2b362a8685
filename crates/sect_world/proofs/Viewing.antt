-- How the view of a world changes with its parts.
use Rattle.std.proofs.Common.{get_or, ◌≡◌, ℕ, zero, suc, ◌+◌, ◌<◌, List, [], ◌∷◌, ◌++◌, length, drop, Some, refl, sym}
use Rattle.std.proofs.{Common.{◌∙◌, ap, subst, arith}, lemmas.List.{map-append}}
use Rattle.std.proofs.lemmas.Option.{get_or_from_slice_get, slice_get_within, slice_get_read}
use Rattle.std.specs.Prelude.{ℤ, slice_get, slice_set}
use Rattle.sect_types.specs.{Statements.{TextView}, Store.{StoreView}}
use Rattle.sect_lemmas.specs.Lists.{changed_at, put_at}
use Rattle.sect_lemmas.proofs.Options.{some_injective, none_or_some}
use Rattle.sect_table.specs.{declared.claims.Hold.{Hold}, declared.claims.Grant.{Grant}}
use Rattle.sect_table.specs.Contents.{Contents, give, hold_of}
use Rattle.sect_modes.specs.{declared.mode.Mode.{Mode}, declared.key.Key.{Key}}
use Rattle.sect_emit.specs.{declared.plan.Grip.{Grip}, Plan.{grip}, Compiled.{CompiledView, program_of}}
use Rattle.sect_emit.specs.State.{ThreadState, IsThread}
use Rattle.sect_world.specs.{declared.event.Event.{Event}, declared.runner.Runner.{Runner}}
use Rattle.sect_world.specs.{declared.turned.Turned.{Turned}, Worlds.{WorldView, IsTurned}, Waiting.{grips}}
use Rattle.sect_world.specs.Viewing.{position_of, thread_of, threads_of, state_of, shown, IsWorld, HasRoom}
use Rattle.sect_world.specs.steps.Fits.{Fits, takes_first, granted, all_granted, given_to}
use Rattle.sect_world.specs.steps.Taking.{advanced, advanced_at, all_advanced}

-- numbers don't compute under a sum
plus_one : (n : ℕ) → suc n + 1 ≡ suc (n + 1)
plus_one n = omega arith

-- one more is dropped
dropped_more : {X : Type 0} (n : ℕ) (xs : List X) → drop (n + 1) xs ≡ drop 1 (drop n xs)
dropped_more zero xs = refl
dropped_more (suc n) [] = ap (λ z. drop z []) (plus_one n)
dropped_more (suc n) (x ∷ xs) = ap (λ z. drop z (x ∷ xs)) (plus_one n) ∙ dropped_more n xs

-- a runner that comes to hold what it wants first
advanced_thread : (c : CompiledView) (text : TextView) (r : Runner) (hs : List Hold) (k : Key) (m : Mode)
    → thread_of c text (advanced r) (hs ++ hold_of k m ∷ []) ≡ takes_first k m (thread_of c text r hs)
advanced_thread c text r hs k m =
    let old : ThreadState = thread_of c text r hs in
    ap (λ ws. record { position = old.position; frame = old.frame; wanted = ws; held = grips (hs ++ hold_of k m ∷ []) })
    (dropped_more r.taken r.wanted.items)
    ∙ ap (λ gs. record {
      position = old.position;
      frame = old.frame;
      wanted =
          drop 1 (drop r.taken r.wanted.items);
      held = gs;
    })
    (map-append (λ (h : Hold). grip h.key h.mode) hs (hold_of k m ∷ []))

given_threads : (c : CompiledView) (texts : List TextView) (rs : List Runner) (held : List (List Hold)) (t : ℕ)
    (k : Key) (m : Mode)
    → threads_of c texts (advanced_at t rs) (give t k m held) ≡ changed_at t (takes_first k m)
    (threads_of c texts rs held)
given_threads c [] rs held t k m = refl
given_threads c (text ∷ texts) [] held t k m = refl
given_threads c (text ∷ texts) (r ∷ rs) [] zero k m = refl
given_threads c (text ∷ texts) (r ∷ rs) [] (suc t) k m = refl
given_threads c (text ∷ texts) (r ∷ rs) (hs ∷ held) zero k m =
    ap (λ z. z ∷ threads_of c texts rs held) (advanced_thread c text r hs k m)
given_threads c (text ∷ texts) (r ∷ rs) (hs ∷ held) (suc t) k m =
    ap (λ zs. thread_of c text r hs ∷ zs) (given_threads c texts rs held t k m)

-- a grant in the view
pub state_granted : (c : CompiledView) (store : StoreView) (output : List ℤ) (rs : List Runner)
    (held : List (List Hold)) (g : Grant)
    → state_of c store output (advanced_at g.thread rs) (give g.thread g.key g.mode held) ≡ granted g
    (state_of c store output rs held)
state_granted c store output rs held g =
    ap (λ ths. record { store = store; output = output; threads = ths })
    (given_threads c (program_of c).texts rs held g.thread g.key g.mode)

-- and grants
pub states_granted : (c : CompiledView) (store : StoreView) (output : List ℤ) (gs : List Grant) (rs : List Runner)
    (held : List (List Hold))
    → state_of c store output (all_advanced gs rs) (given_to gs held) ≡ all_granted gs (state_of c store output rs held)
states_granted c store output [] rs held = refl
states_granted c store output (g ∷ gs) rs held =
    states_granted c store output gs (advanced_at g.thread rs) (give g.thread g.key g.mode held)
    ∙ ap (all_granted gs) (state_granted c store output rs held g)

-- one thread replaced
pub replaced_threads : (c : CompiledView) (texts : List TextView) (text : TextView) (rs : List Runner)
    (held : List (List Hold)) (t : ℕ) (r : Runner) (hs : List Hold)
    → slice_get texts t ≡ Some text
    → threads_of c texts (put_at t r rs) (slice_set held t hs) ≡ put_at t (thread_of c text r hs)
    (threads_of c texts rs held)
replaced_threads c [] text rs held t r hs at = refl
replaced_threads c (a ∷ texts) text [] held t r hs at = refl
replaced_threads c (a ∷ texts) text (q ∷ rs) [] zero r hs at = refl
replaced_threads c (a ∷ texts) text (q ∷ rs) [] (suc t) r hs at = refl
replaced_threads c (a ∷ texts) text (q ∷ rs) (j ∷ held) zero r hs at =
    ap (λ z. thread_of c z r hs ∷ threads_of c texts rs held) (some_injective a text at)
replaced_threads c (a ∷ texts) text (q ∷ rs) (j ∷ held) (suc t) r hs at =
    ap (λ zs. thread_of c a q j ∷ zs) (replaced_threads c texts text rs held t r hs at)

-- what stands for a thread of the view: its text, its runner, and what it holds
pub record Seen (c : CompiledView) (texts : List TextView) (rs : List Runner) (held : List (List Hold)) (t : ℕ)
    (th : ThreadState) : Type 0 where
  pub text : TextView
  pub text_at : slice_get texts t ≡ Some text
  pub runner : Runner
  pub runner_at : slice_get rs t ≡ Some runner
  pub holds : List Hold
  pub holds_at : slice_get held t ≡ Some holds
  pub is : th ≡ thread_of c text runner holds

pub seen : (c : CompiledView) (texts : List TextView) (rs : List Runner) (held : List (List Hold)) (t : ℕ)
    (th : ThreadState)
    → slice_get (threads_of c texts rs held) t ≡ Some th → Seen c texts rs held t th
seen c [] rs held t th at = absurd (none_or_some th at)
seen c (a ∷ texts) [] held t th at = absurd (none_or_some th at)
seen c (a ∷ texts) (q ∷ rs) [] t th at = absurd (none_or_some th at)
seen c (a ∷ texts) (q ∷ rs) (j ∷ held) zero th at =
    record {
      text = a;
      text_at = refl;
      runner = q;
      runner_at = refl;
      holds = j;
      holds_at = refl;
      is =
          sym (some_injective (thread_of c a q j) th at);
    }
seen c (a ∷ texts) (q ∷ rs) (j ∷ held) (suc t) th at =
    let s = seen c texts rs held t th at in
    record {
      text = s.text;
      text_at = s.text_at;
      runner = s.runner;
      runner_at = s.runner_at;
      holds = s.holds;
      holds_at =
          s.holds_at;
      is = s.is;
    }

-- each runner stands for a thread
pub seen_at : (c : CompiledView) (texts : List TextView) (rs : List Runner) (held : List (List Hold)) (t : ℕ)
    (r : Runner)
    → length rs ≡ length texts → length held ≡ length texts → slice_get rs t ≡ Some r
    → (text : TextView) × (hs : List Hold) × (slice_get texts t ≡ Some text) × (slice_get held t ≡ Some hs)
    × (slice_get (threads_of c texts rs held) t ≡ Some (thread_of c text r hs))
seen_at c texts [] held t r m n at = absurd (none_or_some r at)
seen_at c [] (q ∷ rs) held t r m n at = absurd (omega (arith, m))
seen_at c (a ∷ texts) (q ∷ rs) [] t r m n at = absurd (omega (arith, n))
seen_at c (a ∷ texts) (q ∷ rs) (j ∷ held) zero r m n at =
    (a, j, refl, refl, ap (λ z. Some (thread_of c a z j)) (some_injective q r at))
seen_at c (a ∷ texts) (q ∷ rs) (j ∷ held) (suc t) r m n at =
    seen_at c texts rs held t r (omega (arith, m)) (omega (arith, n)) at

-- there are as many threads as texts
pub length-threads_of : (c : CompiledView) (texts : List TextView) (rs : List Runner) (held : List (List Hold))
    → length rs ≡ length texts → length held ≡ length texts → length (threads_of c texts rs held) ≡ length texts
length-threads_of c [] rs held m n = refl
length-threads_of c (a ∷ texts) [] held m n = absurd (omega (arith, m))
length-threads_of c (a ∷ texts) (q ∷ rs) [] m n = absurd (omega (arith, n))
length-threads_of c (a ∷ texts) (q ∷ rs) (j ∷ held) m n =
    ap suc (length-threads_of c texts rs held (omega (arith, m)) (omega (arith, n)))

-- a thread of a world has a runner and a text
pub runs_here : (c : CompiledView) (fuel : ℕ) (trace : List Event) (order : List ℕ) (store : StoreView)
    (output : List ℤ) (rs : List Runner) (table : Contents)
    → IsWorld c fuel trace order store output rs table → (t : ℕ) (th : ThreadState)
    → IsThread (state_of c store output rs table.held) t th
    → (t < length rs) × (t < length (program_of c).texts)
runs_here c fuel trace order store output rs table w t th at =
    let s = seen c (program_of c).texts rs table.held t th at in
    (slice_get_within rs t s.runner s.runner_at, slice_get_within (program_of c).texts t s.text s.text_at)

-- the runner that is read at its place
pub read_here : (c : CompiledView) (fuel : ℕ) (trace : List Event) (order : List ℕ) (store : StoreView)
    (output : List ℤ) (rs : List Runner) (table : Contents)
    → IsWorld c fuel trace order store output rs table → (t : ℕ) (th : ThreadState)
    → IsThread (state_of c store output rs table.held) t th
    → (r : Runner) → r ≡ get_or rs t r → slice_get rs t ≡ Some r
read_here c fuel trace order store output rs table w t th at r is =
    slice_get_read rs _ t r refl (runs_here c fuel trace order store output rs table w t th at).0 is

-- a thread that the world has has a runner
pub runner_there : (c : CompiledView) (fuel : ℕ) (trace : List Event) (order : List ℕ) (store : StoreView)
    (output : List ℤ) (rs : List Runner) (table : Contents)
    → IsWorld c fuel trace order store output rs table → (t : ℕ)
    → t < length (state_of c store output rs table.held).threads → t < length rs
runner_there c fuel trace order store output rs table w t h =
    omega (arith, length-threads_of c (program_of c).texts rs table.held w.as_many w.as_many_held, w.as_many, h)

-- the runner says where its thread is
pub place_of : (c : CompiledView) (fuel : ℕ) (trace : List Event) (order : List ℕ) (store : StoreView) (output : List ℤ)
    (rs : List Runner) (table : Contents)
    → IsWorld c fuel trace order store output rs table → (t : ℕ) (r : Runner) → slice_get rs t ≡ Some r
    → (th : ThreadState) × IsThread (state_of c store output rs table.held) t th × (th.position ≡ position_of c r.phase)
place_of c fuel trace order store output rs table w t r at =
    let s = seen_at c (program_of c).texts rs table.held t r w.as_many w.as_many_held at in (_, s.4, refl)

-- the table of a world fits its state
pub world_fits : (c : CompiledView) (fuel : ℕ) (trace : List Event) (order : List ℕ) (store : StoreView)
    (output : List ℤ) (rs : List Runner) (table : Contents)
    → IsWorld c fuel trace order store output rs table → Fits table (state_of c store output rs table.held)
world_fits c fuel trace order store output rs table w = record {
  as_many = w.as_many_held ∙ sym (length-threads_of c (program_of c).texts rs table.held w.as_many w.as_many_held);
  held = λ t th at.
      let s = seen c (program_of c).texts rs table.held t th at in
      ap (λ (z : ThreadState). z.held) s.is ∙ ap grips (sym (get_or_from_slice_get table.held t s.holds [] s.holds_at));
  waits = w.waits;
}

-- what holds of each runner, and stays where it comes to hold a key, stays at each
pub each_advanced : (P : ℕ → Runner → Type 0) → ((u : ℕ) (r : Runner) → P u r → P u (advanced r))
    → (gs : List Grant) (rs : List Runner)
    → ((u : ℕ) (r : Runner) → slice_get rs u ≡ Some r → P u r) → (u : ℕ) (r : Runner)
    → slice_get (all_advanced gs rs) u ≡ Some r → P u r
each_advanced P stays [] rs each = each
each_advanced P stays (g ∷ gs) rs each =
    each_advanced P stays gs (advanced_at g.thread rs) (one P stays g.thread rs each) where
      one : (P : ℕ → Runner → Type 0) → ((u : ℕ) (r : Runner) → P u r → P u (advanced r)) → (t : ℕ) (rs : List Runner)
          → ((u : ℕ) (r : Runner) → slice_get rs u ≡ Some r → P u r) → (u : ℕ) (r : Runner)
          → slice_get (advanced_at t rs) u ≡ Some r → P u r
      one P stays t [] each u r at = each u r at
      one P stays zero (q ∷ rs) each zero r at =
          subst (P zero) (some_injective (advanced q) r at) (stays zero q (each zero q refl))
      one P stays zero (q ∷ rs) each (suc u) r at = each (suc u) r at
      one P stays (suc t) (q ∷ rs) each zero r at = each zero r at
      one P stays (suc t) (q ∷ rs) each (suc u) r at =
          one (λ v. P (suc v)) (λ v. stays (suc v)) t rs (λ v. each (suc v)) u r at

-- what a runner wants first
pub drop_first : (n : ℕ) (ws : List Grip) (g : Grip) → slice_get ws n ≡ Some g → drop n ws ≡ g ∷ drop (n + 1) ws
drop_first n [] g e = absurd (none_or_some g e)
drop_first zero (w ∷ ws) g e = ap (λ z. z ∷ ws) (some_injective w g e)
drop_first (suc n) (w ∷ ws) g e = drop_first n ws g e ∙ ap (λ z. g ∷ drop z (w ∷ ws)) (sym (plus_one n))

-- what is left from a place begins with what stands there
pub first_dropped : (n : ℕ) (ws : List Grip) (g : Grip) (rest : List Grip) → drop n ws ≡ g ∷ rest
    → slice_get ws n ≡ Some g
first_dropped n [] g rest e = absurd (by n e) where
  by : (n : ℕ) → drop n [] ≡ g ∷ rest → ⊥
  by zero f = let off : [] ≡ g ∷ rest = f in cc
  by (suc m) f = let off : [] ≡ g ∷ rest = f in cc
first_dropped zero (w ∷ ws) g rest e = ap Some (let same : w ∷ ws ≡ g ∷ rest = e in cc)
first_dropped (suc n) (w ∷ ws) g rest e = first_dropped n ws g rest e

-- a turn of thread t has led from a world to that of these parts
pub record TurnsInto (old : WorldView) (t : ℕ) (what : Turned) (c : CompiledView) (fuel : ℕ) (trace : List Event)
    (order : List ℕ) (store : StoreView) (output : List ℤ) (rs : List Runner) (table : Contents) (granted : List ℕ) :
    Type 0 where
  pub world : IsWorld c fuel trace order store output rs table
  pub turned : IsTurned t what old (shown c fuel trace order store output rs table.held granted)

-- room for as many threads as before
pub still_room : (n n' threads grants grants' granted granted' ends : ℕ) → n ≡ threads → n' ≡ threads
    → grants' ≡ grants → granted' ≡ granted → HasRoom n grants granted ends → HasRoom n' grants' granted' ends
still_room n n' threads grants grants' granted granted' ends old new same_grants same_granted room =
    (omega (arith, room.0), omega (arith, room.1), omega (arith, room.2))
