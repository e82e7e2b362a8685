-- What is marked for a warning, and what is said there.
use Rattle.std.specs.{Prelude.{◌≡◌, ℕ, List, [], ◌∷◌, ◌++◌, Option, codes}, List.{flat_map}, Fmt.{decimal}}
use Rattle.std.specs.Prelude.{nat_eq, if◌then◌else◌}
use Rattle.sect_front.specs.TreeView.{TreeView}
use Rattle.sect_places.specs.declared.{name_use.NameSpan.{NameSpan}, position.Position.{Position}}
use Rattle.sect_places.specs.Positions.{position}
use Rattle.sect_types.specs.declared.expansion.action.Field.{Field}
use Rattle.sect_names.specs.{declared.lock.Lock.{Lock}, Printing.{lock_text, locks_text, field_name}}
use Rattle.sect_emit.specs.{Compiled.{CompiledView}, Labels.{record_name}, Explaining.{section_deed}}
use Rattle.sect_conflicts.specs.Conflicts.{set_at}
use Rattle.sect_warnings.specs.{declared.warning.Finding.{Finding}, declared.warning.Warning.{Warning}}
use Rattle.sect_warnings.specs.declared.{access.Access.{Access}, lost.LostUpdate.{LostUpdate}}
use Rattle.sect_warnings.specs.{Warnings.{WouldDo}, ClassLocks.{class_lock, IsClassMarked}, Marks.{MarkView}}
use Rattle.sect_warnings.specs.{Fields.{section_fields, used}, Remedies.{IsClassNote}, Titles.{note_of}}
use Rattle.sect_warnings.specs.declared.warning.Finding.TheVariants as finding

-- of a section marked `all`: which lock it would take without the mark
abbrev pub would_take : TreeView → Lock → List ℕ
would_take t l = codes "without `all` it would take `" ++ lock_text t l ++ codes "`"

abbrev pub IsLabelOf : CompiledView → ℕ → List ℕ → Type 0
IsLabelOf c i label = (l : Lock) × WouldDo c i l × (label ≡ would_take c.scheme.program.source l)

-- a field with its record, as `Acct.bal`
unfoldable pub field_text : TreeView → Field → List ℕ
field_text t f = codes "`" ++ record_name t f.of ++ codes "." ++ field_name t f ++ codes "`"

abbrev pub fields_text : TreeView → List Field → List ℕ
fields_text t [] = codes "no field"
fields_text t (f ∷ fs) = field_text t f ++ flat_map (λ g. codes ", " ++ field_text t g) fs

-- locks, and the fields that they are taken for
abbrev pub needed_text : TreeView → List Lock → List Field → List ℕ
needed_text t locks fields = codes "`" ++ locks_text t locks ++ codes "` for " ++ fields_text t fields

-- those of section i: its locks, and the fields that it uses
abbrev pub needs_text : CompiledView → ℕ → List ℕ
needs_text c i = needed_text c.scheme.program.source (set_at c i) (section_fields used c i)

-- what section i takes for which fields, and what section j does
abbrev pub apart_text : CompiledView → ℕ → ℕ → List ℕ
apart_text c i j =
    codes "takes " ++ needs_text c i ++ codes ", and section " ++ decimal j ++ codes " takes " ++ needs_text c j

-- where the first name of an item begins
abbrev pub first_start : ℕ → List NameSpan → ℕ
first_start item [] = 0
first_start item (n ∷ ns) = if nat_eq n.used.item item then n.span.start else first_start item ns

-- a load and its section
unfoldable pub load_text : CompiledView → Access → List ℕ
load_text c a = codes "`" ++ section_deed c a.section a.node ++ codes "` in section " ++ decimal a.section

unfoldable pub place_text : Position → List ℕ
place_text p = codes ", at " ++ decimal p.line ++ codes ":" ++ decimal p.column

-- which load gives what is stored, and where it stands
abbrev pub lost_text : List ℕ → List NameSpan → CompiledView → LostUpdate → List ℕ
lost_text source names c u =
    codes "the value comes from " ++ load_text c u.load
    ++ place_text (position source (first_start u.load.item names))

-- of a finding of section i, which is that item: the section itself, or what needs the class lock
abbrev pub IsMarkedFor : List ℕ → List NameSpan → CompiledView → ℕ → ℕ → Finding → MarkView → Type 0
IsMarkedFor source names c i item finding.NoLock m =
    (m.item ≡ item) × (m.label ≡ []) × (m.note ≡ note_of finding.NoLock)
IsMarkedFor source names c i item finding.AllForOne m =
    (m.item ≡ item) × IsLabelOf c i m.label × (m.note ≡ note_of finding.AllForOne)
IsMarkedFor source names c i item (finding.ClassLock n e) m =
    (r : Option ℕ) × IsClassMarked c i n e m.item m.label r
    × IsClassNote source names c i (class_lock n e) r m.note
IsMarkedFor source names c i item (finding.NeverFilled j x) m =
    (m.item ≡ item) × (m.label ≡ []) × (m.note ≡ note_of (finding.NeverFilled j x))
IsMarkedFor source names c i item (finding.NoCommonField j) m =
    (m.item ≡ item) × (m.label ≡ apart_text c i j) × (m.note ≡ note_of (finding.NoCommonField j))
IsMarkedFor source names c i item (finding.LostUpdate u) m =
    (m.item ≡ item) × (m.label ≡ lost_text source names c u) × (m.note ≡ note_of (finding.LostUpdate u))

abbrev pub IsMarkOf : List ℕ → List NameSpan → CompiledView → Warning → MarkView → Type 0
IsMarkOf source names c w m = IsMarkedFor source names c w.section w.item w.finding m
