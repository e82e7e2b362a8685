-- A thread while all others stand outside: what its section comes to, and how many turns are left until it leaves.
use Rattle.std.proofs.Common.{true≢false, ◌≡◌, ◌<◌, ◌+◌, ◌∙◌, refl, sym, ap, subst, arith, ℕ, zero, suc}
use Rattle.std.proofs.Common.{inl, inr, Bool, true, false, List, [], ◌∷◌, map, length, Option, Some, None}
use Rattle.std.specs.Prelude.{ℤ, slice_get, if◌then◌else◌}
use Rattle.sect_lemmas.specs.Lists.{put_at, changed_at}
use Rattle.sect_lemmas.proofs.Options.{some_injective}
use Rattle.sect_types.specs.{Programs.{ProgramView}, Statements.{TextView, Stop, Do, Choose, Loop, Section}}
use Rattle.sect_types.specs.{Store.{StoreView}, Meaning.{WorkView, Change, On, begins_step, found_at, looks}}
use Rattle.sect_types.specs.Whole.{FrameView, RunView, body_of, ahead, is_standing, has_ended}
use Rattle.sect_types.specs.Whole.{begins_section, local_step, after_section, section_in, section_by}
use Rattle.sect_types.specs.Whole.{settled, frame_after}
use Rattle.sect_types.proofs.shared.Starts.{settled_work}
use Rattle.sect_types.proofs.shared.RunningAhead.{StandsOrSpent, step_spends, ahead_standing, ahead_after_local}
use Rattle.sect_emit.specs.Compiled.{CompiledView, program_of}
use Rattle.sect_emit.specs.State.{Position, Outside, Entered, Running, Faulted, ThreadState, State, outside}
use Rattle.sect_emit.specs.State.{plan_at}
use Rattle.sect_world.specs.Events.{step_in}

-- thread t is this, and all others stand outside with these frames
abbrev pub lone : ℕ → List FrameView → List ℤ → StoreView → ThreadState → State
lone t fs output store th = record { store = store; output = output; threads = put_at t th (map outside fs) }

-- an element that is put twice is put once
pub put_twice : {A : Type 0} (t : ℕ) (x y : A) (xs : List A) → put_at t y (put_at t x xs) ≡ put_at t y xs
put_twice t x y [] = refl
put_twice zero x y (z ∷ xs) = refl
put_twice (suc t) x y (z ∷ xs) = ap (λ zs. z ∷ zs) (put_twice t x y xs)

-- the element that is there, put there
pub put_back : {A : Type 0} (t : ℕ) (x : A) (xs : List A) → slice_get xs t ≡ Some x → put_at t x xs ≡ xs
put_back t x [] at = refl
put_back zero x (z ∷ xs) at = ap (λ y. y ∷ xs) (sym (some_injective z x at))
put_back (suc t) x (z ∷ xs) at = ap (λ zs. z ∷ zs) (put_back t x xs at)

-- an element that is changed is one that is put
pub change_puts : {A : Type 0} (t : ℕ) (g : A → A) (x : A) (xs : List A) → slice_get xs t ≡ Some x
    → changed_at t g xs ≡ put_at t (g x) xs
change_puts t g x [] at = refl
change_puts zero g x (z ∷ xs) at = ap (λ y. g y ∷ xs) (some_injective z x at)
change_puts (suc t) g x (z ∷ xs) at = ap (λ zs. z ∷ zs) (change_puts t g x xs at)

-- a frame that has not ended, before a section
pub stands_before : (g : FrameView) (i : ℕ) (body rest : TextView) → g.ended ≡ None → g.text ≡ Section i body rest
    → is_standing g ≡ true
stands_before g i body rest none is =
    ap (λ e. if has_ended e then true else begins_section g.text) none ∙ ap begins_section is

-- a frame that has ended
pub stands_ended : (g : FrameView) → has_ended g.ended ≡ true → is_standing g ≡ true
stands_ended g ended = ap (λ b. if b then true else begins_section g.text) ended

-- its next section
pub section_now : (p : ProgramView) (t : ℕ) (g : FrameView) (s : RunView) (i : ℕ) (body rest : TextView)
    → g.ended ≡ None → g.text ≡ Section i body rest
    → section_in p t g s ≡ Some (after_section t rest (body_of p t body g.work s.store) s)
section_now p t g s i body rest none is =
    ap (λ e. if has_ended e then None else section_by p t g.text g.work s) none
    ∙ ap (λ k. section_by p t k g.work s) is

-- one that has ended has none
pub section_never : (p : ProgramView) (t : ℕ) (g : FrameView) (s : RunView) → has_ended g.ended ≡ true
    → section_in p t g s ≡ None
section_never p t g s ended = ap (λ b. if b then None else section_by p t g.text g.work s) ended

-- the keys that a thread asks for that comes to this text
abbrev pub keys_at : CompiledView → StoreView → TextView → WorkView → ℕ
keys_at c store Stop w = 0
keys_at c store (Do a rest) w = 0
keys_at c store (Choose d k l rest) w = 0
keys_at c store (Loop d k rest) w = 0
keys_at c store (Section i body rest) w = length (plan_at c i store w.locals)

-- more turns than are left of a thread that stands
abbrev pub turns_standing : CompiledView → StoreView → FrameView → ℕ
turns_standing c store g = if has_ended g.ended then 0 else g.work.fuel + keys_at c store g.text g.work + 5

abbrev pub turns_outside : CompiledView → ℕ → StoreView → FrameView → ℕ
turns_outside c t store f =
    if is_standing f then turns_standing c store f else
    turns_standing c store (ahead (program_of c) t f) + f.work.fuel + 1

abbrev pub turns_inside : TextView → ℕ → ℕ
turns_inside k fuel = if begins_step k then fuel + 2 else 1

-- more turns than are left of thread t, which is this
abbrev pub turns_of : CompiledView → ℕ → StoreView → ThreadState → Position → ℕ
turns_of c t store th Outside = turns_outside c t store th.frame
turns_of c t store th Entered = th.frame.work.fuel + length th.wanted + 4
turns_of c t store th (Running i k) = turns_inside k th.frame.work.fuel
turns_of c t store th (Faulted i why) = 0

abbrev pub turns_in : CompiledView → ℕ → StoreView → Option ThreadState → ℕ
turns_in c t store None = 0
turns_in c t store (Some th) = turns_of c t store th th.position

abbrev pub turns_left : CompiledView → ℕ → State → ℕ
turns_left c t s = turns_in c t s.store (slice_get s.threads t)

-- a text that begins a step begins no section
no_section : (k : TextView) → begins_step k ≡ true → begins_section k ≡ false
no_section Stop b = refl
no_section (Do a r) b = refl
no_section (Choose d k l r) b = refl
no_section (Loop d k r) b = refl
no_section (Section i k r) b = absurd (true≢false (sym b))

goes_on : (f : FrameView) → f.ended ≡ None → begins_step f.text ≡ true → is_standing f ≡ false
goes_on f none steps =
    ap (λ e. if has_ended e then true else begins_section f.text) none ∙ no_section f.text steps

pub outside_standing : (c : CompiledView) (t : ℕ) (store : StoreView) (f : FrameView) → is_standing f ≡ true
    → turns_outside c t store f ≡ turns_standing c store f
outside_standing c t store f is =
    ap (λ b. if b then turns_standing c store f else
    turns_standing c store (ahead (program_of c) t f) + f.work.fuel + 1) is

outside_going : (c : CompiledView) (t : ℕ) (store : StoreView) (f : FrameView) → is_standing f ≡ false
    → turns_outside c t store f ≡ turns_standing c store (ahead (program_of c) t f) + f.work.fuel + 1
outside_going c t store f is =
    ap (λ b. if b then turns_standing c store f else
    turns_standing c store (ahead (program_of c) t f) + f.work.fuel + 1) is

-- after a step of its local code fewer are left
pub fewer_local : (c : CompiledView) (t : ℕ) (store : StoreView) (f : FrameView) → f.ended ≡ None
    → begins_step f.text ≡ true
    → turns_outside c t store (local_step (program_of c) t f) < turns_outside c t store f
fewer_local c t store f none steps =
    by (is_standing (local_step (program_of c) t f)) refl
    (step_spends (program_of c) t f.text None f.work steps)
    (outside_going c t store f (goes_on f none steps)) (ahead_after_local (program_of c) t f none steps) where
      by : (b : Bool) → is_standing (local_step (program_of c) t f) ≡ b
          → StandsOrSpent f.work.fuel (local_step (program_of c) t f)
          → turns_outside c t store f ≡ turns_standing c store (ahead (program_of c) t f) + f.work.fuel + 1
          → ahead (program_of c) t (local_step (program_of c) t f) ≡ ahead (program_of c) t f
          → turns_outside c t store (local_step (program_of c) t f) < turns_outside c t store f
      by true is spent far same =
          let next = local_step (program_of c) t f in
          let near : turns_outside c t store next ≡ turns_standing c store (ahead (program_of c) t f) =
          outside_standing c t store next is
          ∙ ap (turns_standing c store) (sym (ahead_standing (program_of c) t next is) ∙ same) in
          omega (arith, near, far)
      by false is (inl stands) far same = absurd (true≢false (sym stands ∙ is))
      by false is (inr spent) far same =
          let next = local_step (program_of c) t f in
          let near : turns_outside c t store next
          ≡ turns_standing c store (ahead (program_of c) t f) + next.work.fuel + 1 =
          outside_going c t store next is ∙ ap (λ g. turns_standing c store g + next.work.fuel + 1) same in
          omega (arith, near, far, spent)

-- a text that begins a step doesn't stand
settled_goes : (l : TextView) (v : WorkView) → begins_step l ≡ true → is_standing (settled l v) ≡ true → ⊥
settled_goes Stop v b e = true≢false (sym b)
settled_goes (Do a r) v b e = true≢false (sym e)
settled_goes (Choose d k m r) v b e = true≢false (sym e)
settled_goes (Loop d k r) v b e = true≢false (sym e)
settled_goes (Section i k r) v b e = true≢false (sym b)

-- nor does a step in a section leave more
pub fewer_inside : (c : CompiledView) (t : ℕ) (store : StoreView) (k l : TextView) (w v : WorkView) (change : Change)
    → begins_step k ≡ true → step_in c t k w store ≡ On l v change
    → turns_inside l v.fuel < turns_inside k w.fuel
fewer_inside c t store k l w v change steps is =
    by (begins_step l) refl
    (subst (λ n. StandsOrSpent w.fuel (frame_after k n)) is
    (step_spends (program_of c) t k (found_at store (looks k w)) w steps))
    (ap (λ b. if b then w.fuel + 2 else 1) steps) where
      by : (b : Bool) → begins_step l ≡ b → StandsOrSpent w.fuel (settled l v) → turns_inside k w.fuel ≡ w.fuel + 2
          → turns_inside l v.fuel < turns_inside k w.fuel
      by false ends spent far =
          let near : turns_inside l v.fuel ≡ 1 = ap (λ b. if b then v.fuel + 2 else 1) ends in
          omega (arith, near, far)
      by true goes (inl stands) far = absurd (settled_goes l v goes stands)
      by true goes (inr spent) far =
          let near : turns_inside l v.fuel ≡ v.fuel + 2 = ap (λ b. if b then v.fuel + 2 else 1) goes in
          let worked = ap (λ (x : WorkView). x.fuel) (settled_work l v) in
          omega (arith, near, far, spent, worked)
