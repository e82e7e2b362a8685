-- Which threads words name. `threads_named` cites it.
use Rattle.std.specs.Prelude.{◌≡◌, ◌≢◌, ◌⊎◌, ⊤, ℕ, Bool, List, [], Option, Some, None, IfSome, position, nat_lt}
use Rattle.std.specs.Prelude.{if◌then◌else◌}
use Rattle.std.specs.{declared.string.String.{String}, declared.alloc.Global.{Global}}
use Rattle.std.specs.{List.{AllZip}, Str.{bytes_eq}, String.{string_bytes}}
use Rattle.sect_front.specs.declared.tree.Thread.{Thread}
use Rattle.sect_lemmas.specs.Lists.{Has}
use Rattle.sect_types.specs.Programs.{ProgramView}
use Rattle.sect_names.specs.{Sources.{IsTypedText, IsRefused}, declared.refusal.SourceRefusal.{SourceRefusal}}
use Rattle.sect_names.specs.declared.refusal.SourceRefusal.TheVariants as source_refusal
use Rattle.sect_answers.specs.{declared.naming.ThreadWord.{ThreadWord}, declared.naming.ThreadFault.{ThreadFault}}
use Rattle.sect_answers.specs.declared.naming.ThreadWord.TheVariants as word
use Rattle.sect_answers.specs.declared.naming.ThreadFault.TheVariants as fault

abbrev pub is_called : List ℕ → Thread → Bool
is_called name thread = bytes_eq thread.name name

-- a number that a thread may have
abbrev pub as_number : Option ℕ → Option ℕ
as_number None = None
as_number (Some n) = if nat_lt n 65536 then Some n else None

-- the number of the thread of this name
abbrev pub thread_called : List Thread → List ℕ → Option ℕ
thread_called threads name = as_number (position (is_called name) threads)

-- the thread that a word names, by its number or by its name
abbrev pub thread_of : List Thread → ThreadWord → Option ℕ
thread_of threads (word.Number n) = Some n
thread_of threads (word.Name name) = thread_called threads (string_bytes name)

-- the words name these
abbrev pub AreNamed : List Thread → List ThreadWord → List ℕ → Type 0
AreNamed threads words numbers = AllZip (λ w n. thread_of threads w ≡ Some n) words numbers

-- a thread has this name
abbrev pub IsName : List Thread → List ℕ → Type 0
IsName threads name = (thread : Thread) × Has threads thread × (thread.name ≡ name)

-- the word is this name, and no thread has it; what is told as near is the name of one
abbrev pub IsUnknownWord : List Thread → ThreadWord → List ℕ → Option (String Global) → Type 0
IsUnknownWord threads (word.Number n) name near = ⊥
IsUnknownWord threads (word.Name s) name near =
    (name ≡ string_bytes s) × (thread_called threads name ≡ None)
    × IfSome near (λ n. IsName threads (string_bytes n))

-- one of the words is a name that no thread has
abbrev pub IsUnknown : List Thread → List ThreadWord → ThreadFault → Type 0
IsUnknown threads words fault.Memory = ⊤
IsUnknown threads words (fault.Unknown name near) =
    (w : ThreadWord) × Has words w × IsUnknownWord threads w (string_bytes name) near

-- the same of one word
abbrev pub IsUnknownOf : List Thread → ThreadWord → ThreadFault → Type 0
IsUnknownOf threads w fault.Memory = ⊤
IsUnknownOf threads w (fault.Unknown name near) = IsUnknownWord threads w (string_bytes name) near

-- the words are these numbers
abbrev pub AreNumbers : List ThreadWord → List ℕ → Type 0
AreNumbers words numbers = AllZip (λ w n. w ≡ word.Number n) words numbers

-- the words are these numbers, of which no text is asked, or name these threads of the text's program
abbrev pub AreThreads : List ℕ → List ThreadWord → List ℕ → Type 0
AreThreads source words numbers = AreNumbers words numbers
    ⊎ ((p : ProgramView) × IsTypedText source p × AreNamed p.source.threads words numbers)

-- the same; where there are names and the text is refused, there are no threads
abbrev pub AreMeant : List ℕ → List ThreadWord → List ℕ → Type 0
AreMeant source words numbers = AreThreads source words numbers
    ⊎ ((why : SourceRefusal) × (why ≢ source_refusal.Memory) × IsRefused source why × (numbers ≡ []))

-- the text has a program, and one of the words is a name that no thread of it has
abbrev pub IsNamingDue : List ℕ → List ThreadWord → ThreadFault → Type 0
IsNamingDue source words fault.Memory = ⊤
IsNamingDue source words (fault.Unknown name near) =
    (p : ProgramView) × IsTypedText source p × IsUnknown p.source.threads words (fault.Unknown name near)
