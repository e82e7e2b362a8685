-- What a warning means for runs, and a comment for warnings.
use Rattle.std.specs.Prelude.{◌≡◌, ◌==◌, ◌||◌, ◌++◌, ◌∷◌, ℕ, Bool, true, not, List, codes}
use Rattle.std.specs.{List.{flat_map, list_all, list_any}, Str.{bytes_eq}}
use Rattle.sect_types.specs.declared.meaning.store.ObjectName.{ObjectName}
use Rattle.sect_types.specs.{declared.meaning.store.Datum.TheVariants.{Refers}, Meaning.{local_datum}}
use Rattle.sect_emit.specs.{Compiled.{CompiledView}, State.{ThreadState, State, IsThread}}
use Rattle.sect_world.specs.{declared.event.Event.{Event}, Runs.{IsRun}}
use Rattle.sect_points.specs.NeverFilled.{IsNeverFilled}
use Rattle.sect_warnings.specs.Comments.{allows, closing, comma, is_blank, slash}

-- in no state of a run does a local that is never filled refer to an object
abbrev pub NeverFilledLocalsReferToNothing : CompiledView → Type 0
NeverFilledLocalsReferToNothing c =
    (fuel : ℕ) (trace : List Event) (s : State) → IsRun c fuel trace s → (t : ℕ) (th : ThreadState) → IsThread s t th
    → (x : ℕ) → IsNeverFilled c.scheme.classes.sets t x
    → (o : ObjectName) → local_datum th.frame.work.locals x ≡ Refers o → ⊥

-- a byte of a name in the list of a comment: no blank, and no sign of the list
abbrev pub is_in_name : ℕ → Bool
is_in_name byte = not (is_blank byte || (byte == comma || byte == closing))

-- names in such a list
abbrev pub AreNames : List (List ℕ) → Type 0
AreNames entries = list_all (list_all is_in_name) entries ≡ true

-- names as a list has them, one and others
abbrev pub listed : List ℕ → List (List ℕ) → List ℕ
listed first others = first ++ flat_map (λ name. codes ", " ++ name) others

-- a comment behind code, with such a list, allows exactly the warnings of these names
abbrev pub CommentsAllowWhatTheyList : Type 0
CommentsAllowWhatTheyList =
    (code : List ℕ) (first : List ℕ) (others : List (List ℕ)) (rest name : List ℕ)
    → list_all (λ byte. not (byte == slash)) code ≡ true → AreNames (first ∷ others)
    → allows name (code ++ (codes "// sectc: allow(" ++ (listed first others ++ (codes ")" ++ rest))))
    ≡ list_any (bytes_eq name) (first ∷ others)
