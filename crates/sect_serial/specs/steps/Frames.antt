-- Threads between their sections. The private methods of `Frame` and `Run` cite it.
use Rattle.std.specs.Prelude.{◌≡◌, ⊤, ℕ, ◌+◌, Bool, true, false, List, [], ◌∷◌, ◌++◌, ℤ, Some, None, Result, Ok, Err}
use Rattle.sect_types.specs.Statements.{TextView, Stop, Do, Choose, Loop, Section}
use Rattle.sect_types.specs.{Programs.{ProgramView, environment_at}, Environments.{Environment}, Sound.{IsSound}}
use Rattle.sect_types.specs.{Store.{StoreView}, Meaning.{WorkView}}
use Rattle.sect_types.specs.Whole.{FrameView, RunView, SerialEndView, body_of, ahead, frame_left, store_left}
use Rattle.sect_types.specs.Whole.{printed_left, has_ended, begins_section, run_section, EndsAs}
use Rattle.sect_serial.specs.steps.Rests.{is_stop}
use Rattle.sect_serial.specs.{Judging.{IsLeastLeft}, declared.whole.SerialFault.{SerialFault}}
use Rattle.sect_serial.specs.declared.whole.SerialFault.TheVariants.{Memory, NoSection, SectionsLeft}

-- statements k, which begin with a section, run it from this store, and leave frame g, a store, and numbers printed
abbrev pub SectionLeaves : ProgramView → ℕ → TextView → WorkView → StoreView → FrameView → StoreView → List ℤ → Type 0
SectionLeaves p t (Section i part rest) w s g r printed =
    let left = body_of p t part w s in
    (g ≡ frame_left rest left) × (r ≡ store_left left) × (printed ≡ printed_left left)
SectionLeaves p t Stop w s g r printed = ⊥
SectionLeaves p t (Do a rest) w s g r printed = ⊥
SectionLeaves p t (Choose c y n rest) w s g r printed = ⊥
SectionLeaves p t (Loop c part rest) w s g r printed = ⊥

-- it has ended, or has no section next
abbrev pub HasNone : FrameView → Type 0
HasNone f = (begins_section f.text ≡ true) → has_ended f.ended ≡ true

-- thread t, the frame of which is f, ran its local code and then its next section, or it has none
abbrev pub Ran : ProgramView → ℕ → FrameView → StoreView → List ℤ → Bool → FrameView → StoreView → List ℤ → Type 0
Ran p t f s output true g r printed =
    (more : List ℤ) × (has_ended (ahead p t f).ended ≡ false)
    × SectionLeaves p t (ahead p t f).text (ahead p t f).work s g r more × (printed ≡ output ++ more)
Ran p t f s output false g r printed = HasNone (ahead p t f)

-- its statements are sound, and it has ended where none is left
abbrev pub IsReady : Environment → FrameView → Type 0
IsReady e f = IsSound e false f.text × (has_ended f.ended ≡ false → is_stop f.text ≡ false)

-- each frame is ready for its own thread, where the first is that of thread t
abbrev pub AreReady : ProgramView → ℕ → List FrameView → Type 0
AreReady p t [] = ⊤
AreReady p t (f ∷ fs) = IsReady (environment_at p t) f × AreReady p (t + 1) fs

-- thread t ran its local code and its next section; or there is no such thread or section
abbrev pub RanSection : ProgramView → ℕ → RunView → Bool → RunView → Type 0
RanSection p t s true r = run_section p t s ≡ Some r
RanSection p t s false r = run_section p t s ≡ None

-- all have ended once their local code is run; or t is the least thread with a section left
abbrev pub Finishes : ProgramView → RunView → Result SerialEndView SerialFault → Type 0
Finishes p s (Ok e) = EndsAs p s e
Finishes p s (Err (NoSection t)) = ⊥
Finishes p s (Err (SectionsLeft t)) = IsLeastLeft p s t
Finishes p s (Err Memory) = ⊤
