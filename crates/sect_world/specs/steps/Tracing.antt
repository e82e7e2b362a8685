-- How a trace keeps events: of each all but the key that it takes, and the keys aside. `Trace` cites it.
use Rattle.std.specs.Prelude.{◌+◌, ℕ, Bool, true, false, List, [], ◌∷◌, drop}
use Rattle.sect_modes.specs.declared.key.Key.{Key}
use Rattle.sect_world.specs.{declared.event.Deed.{Deed}, declared.event.Event.{Event}}
use Rattle.sect_world.specs.{declared.trace.Note.{Note}, declared.trace.Noted.{Noted}}
use Rattle.sect_world.specs.declared.event.Deed.TheVariants as deed
use Rattle.sect_world.specs.declared.trace.Noted.TheVariants as noted

-- what is noted of a deed
abbrev pub noted_of : Deed → Noted
noted_of deed.Local = noted.Local
noted_of deed.Enter = noted.Enter
noted_of (deed.Take k m) = noted.Take m
noted_of deed.Begin = noted.Begin
noted_of deed.Again = noted.Again
noted_of deed.Act = noted.Act
noted_of deed.Leave = noted.Leave

-- the key that a deed takes
abbrev pub taken_by : Deed → List Key
taken_by deed.Local = []
taken_by deed.Enter = []
taken_by (deed.Take k m) = k ∷ []
taken_by deed.Begin = []
taken_by deed.Again = []
taken_by deed.Act = []
taken_by deed.Leave = []

-- how many keys are taken by what is noted so
abbrev pub count_of : Noted → ℕ
count_of noted.Local = 0
count_of noted.Enter = 0
count_of (noted.Take m) = 1
count_of noted.Begin = 0
count_of noted.Again = 0
count_of noted.Act = 0
count_of noted.Leave = 0

-- how many keys these take
abbrev pub count_in : List Note → ℕ
count_in [] = 0
count_in (n ∷ ns) = count_of n.what + count_in ns

-- the deed that is noted so, and takes the first of these keys if it takes one
abbrev pub deed_of : Noted → List Key → Deed
deed_of noted.Local ks = deed.Local
deed_of noted.Enter ks = deed.Enter
deed_of (noted.Take m) [] = deed.Enter
deed_of (noted.Take m) (k ∷ ks) = deed.Take k m
deed_of noted.Begin ks = deed.Begin
deed_of noted.Again ks = deed.Again
deed_of noted.Act ks = deed.Act
deed_of noted.Leave ks = deed.Leave

-- the events that are noted so, which take these keys in order
abbrev pub events_of : List Note → List Key → List Event
events_of [] ks = []
events_of (n ∷ ns) ks =
    record { thread = n.thread; deed = deed_of n.what ks } ∷ events_of ns (drop (count_of n.what) ks)

abbrev pub notes_again : Noted → Bool
notes_again noted.Local = false
notes_again noted.Enter = false
notes_again (noted.Take m) = false
notes_again noted.Begin = false
notes_again noted.Again = true
notes_again noted.Act = false
notes_again noted.Leave = false
