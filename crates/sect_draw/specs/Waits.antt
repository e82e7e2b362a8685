-- Who waits for what. `put_wait` and `note_turn` cite it.
use Rattle.std.specs.Prelude.{ℕ, Bool, false, not, List, [], ◌∷◌, ◌++◌, Option, Some, None, codes, filter, ◌==◌}
use Rattle.std.specs.{Prelude.{if◌then◌else◌}, List.{flat_map, list_any}}
use Rattle.sect_types.specs.Programs.{ProgramView}
use Rattle.sect_modes.specs.{Mode.{mode_text, are_compatible}, Key.{is_same_key}, declared.mode.Mode.{Mode}}
use Rattle.sect_modes.specs.declared.key.Key.{Key}
use Rattle.sect_store.specs.Printing.{by_place}
use Rattle.sect_emit.specs.{Labels.{thread_name}, Plan.{held_mode}, State.{ThreadState, State}}
use Rattle.sect_emit.specs.declared.plan.Grip.{Grip}
use Rattle.sect_world.specs.{Sights.{first_wish}, declared.turned.Turned.{Turned}}
use Rattle.sect_world.specs.declared.turned.Turned.TheVariants.{Moved, Waits, Ended}
use Rattle.sect_draw.specs.Words.{key_text}

abbrev pub is_among : ℕ → List ℕ → Bool
is_among t = list_any (λ u. u == t)

-- the threads that wait, in the order in which they began to, after a turn of thread t that has come to this and has
-- let in these threads
abbrev pub waiting_after : ℕ → Turned → List ℕ → List ℕ → List ℕ
waiting_after t (Moved k) let_in ws = filter (λ w. not (is_among w let_in)) ws
waiting_after t Waits let_in ws = if is_among t ws then ws else ws ++ t ∷ []
waiting_after t Ended let_in ws = ws

-- a thread of this name that holds the key in a mode with which the wanted one isn't compatible
abbrev pub against_text : List ℕ → Option Mode → Mode → List ℕ
against_text name None wanted = []
against_text name (Some m) wanted =
    if are_compatible m wanted then [] else codes ", " ++ name ++ codes " holds " ++ mode_text m

abbrev pub holder_text : ProgramView → Grip → ℕ → ThreadState → List ℕ
holder_text p g u th = against_text (thread_name p.source u) (held_mode g.key th.held) g.mode

-- all that hold it so
abbrev pub holders_text : ProgramView → Grip → State → List ℕ
holders_text p g s = by_place (holder_text p g) 0 s.threads

-- those that began to wait before thread t
abbrev pub ahead_of : ℕ → List ℕ → List ℕ
ahead_of t [] = []
ahead_of t (w ∷ ws) = if w == t then [] else w ∷ ahead_of t ws

abbrev pub is_for : Key → Option Grip → Bool
is_for k None = false
is_for k (Some g) = is_same_key g.key k

-- a thread that waits for the same key
abbrev pub behind_text : ProgramView → State → Key → ℕ → List ℕ
behind_text p s k w = if is_for k (first_wish s w) then codes ", behind " ++ thread_name p.source w else []

-- a key, the mode in which thread t wants it, who holds it against that, and who waits for it in front of t
abbrev pub wish_text : ProgramView → State → ℕ → List ℕ → Option Grip → List ℕ
wish_text p s t ws None = []
wish_text p s t ws (Some g) = codes "waits for " ++ key_text p g.key ++ codes ": wants " ++ mode_text g.mode
    ++ holders_text p g s ++ flat_map (behind_text p s g.key) (ahead_of t ws)

-- for what thread t waits, where these threads wait in this order
abbrev pub wait_text : ProgramView → State → ℕ → List ℕ → List ℕ
wait_text p s t ws = wish_text p s t ws (first_wish s t)
