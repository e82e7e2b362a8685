-- Hints that are tried for warnings, record by record, and what that adds to the warnings' notes.
use Rattle.std.specs.Prelude.{◌≡◌, ◌<◌, ◌≤◌, ℕ, List, [], ◌++◌, length, Option, Some, None, cond, nat_eq}
use Rattle.std.specs.{Prelude.{slice_index_or}, Option.{option_map}, String.{string_bytes}}
use Rattle.sect_places.specs.declared.name_use.NameSpan.{NameSpan}
use Rattle.sect_names.specs.{declared.lock.Effect.{Effect}, declared.lock.Lock.{Lock}}
use Rattle.sect_emit.specs.Compiled.{CompiledView}
use Rattle.sect_warnings.specs.{declared.remedy.ClassWarning.{ClassWarning}, declared.trials.Trial.{Trial}}
use Rattle.sect_warnings.specs.{declared.hinting.TriedHint.{TriedHint}, declared.warning.Finding.{Finding}}
use Rattle.sect_warnings.specs.{declared.warning.Warning.{Warning}, ClassLocks.{class_lock, IsClassMarked}}
use Rattle.sect_warnings.specs.{Hinting.{hint_words, IsHintSaid}, Labels.{apart_text, lost_text, IsLabelOf}, Outcomes.{IsOutcome}}
use Rattle.sect_warnings.specs.{Placed.{PlacedView}, Remedies.{IsDeepSaid}, Titles.{class_note, note_of}}
use Rattle.sect_warnings.specs.declared.warning.Finding.TheVariants as finding
use Rattle.sect_warnings.specs.declared.warning.Told.TheVariants as told

-- what is marked for a warning, and the hint that is to be tried for it
pub record BareView : Type 0 where
  pub item : ℕ
  pub label : List ℕ
  pub note : List ℕ
  pub trial : Option Trial

-- that of record r for this class lock of section i
abbrev pub trial_of : ℕ → ℕ → Effect → Option ℕ → Option Trial
trial_of i n e r = option_map (λ q. record {
  of = record { section = i; lock = record { class = n; effect = e } };
  guarded = q;
}) r

-- what the lock means, and what longer paths come to
abbrev pub IsBareNote : List ℕ → CompiledView → ℕ → Lock → List ℕ → Type 0
IsBareNote source c i l note = (deep : List ℕ) × IsDeepSaid source c i l deep × (note ≡ class_note ++ deep)

abbrev pub IsBareClass : List ℕ → CompiledView → ClassWarning → BareView → Type 0
IsBareClass source c of m =
    (r : Option ℕ) × IsClassMarked c of.section of.lock.class of.lock.effect m.item m.label r
    × IsBareNote source c of.section (class_lock of.lock.class of.lock.effect) m.note
    × (m.trial ≡ trial_of of.section of.lock.class of.lock.effect r)

-- what is marked for a warning, but for what hints come to
abbrev pub IsBareFor : List ℕ → List NameSpan → CompiledView → ℕ → ℕ → Finding → BareView → Type 0
IsBareFor source names c i item finding.NoLock m =
    (m.item ≡ item) × (m.label ≡ []) × (m.note ≡ note_of finding.NoLock) × (m.trial ≡ None)
IsBareFor source names c i item finding.AllForOne m =
    (m.item ≡ item) × IsLabelOf c i m.label × (m.note ≡ note_of finding.AllForOne) × (m.trial ≡ None)
IsBareFor source names c i item (finding.ClassLock n e) m =
    IsBareClass source c (record { section = i; lock = record { class = n; effect = e } }) m
IsBareFor source names c i item (finding.NeverFilled j x) m =
    (m.item ≡ item) × (m.label ≡ []) × (m.note ≡ note_of (finding.NeverFilled j x)) × (m.trial ≡ None)
IsBareFor source names c i item (finding.NoCommonField j) m =
    (m.item ≡ item) × (m.label ≡ apart_text c i j) × (m.note ≡ note_of (finding.NoCommonField j)) × (m.trial ≡ None)
IsBareFor source names c i item (finding.LostUpdate u) m =
    (m.item ≡ item) × (m.label ≡ lost_text source names c u) × (m.note ≡ note_of (finding.LostUpdate u))
    × (m.trial ≡ None)

abbrev pub IsBareMark : List ℕ → List NameSpan → CompiledView → Warning → BareView → Type 0
IsBareMark source names c w m = IsBareFor source names c w.section w.item w.finding m

-- the class lock for which the hint of record r is to be tried, if the trial is one of that
abbrev pub sought : ℕ → Option Trial → Option ClassWarning
sought r None = None
sought r (Some t) = cond (nat_eq t.guarded r) (Some t.of) None

-- what is said of a hint that was tried, by its words and the program of the text that has it
abbrev pub IsAdded : CompiledView → List ℕ → Option ClassWarning → List ℕ → Type 0
IsAdded d words None said = said ≡ []
IsAdded d words (Some of) said =
    (end : List ℕ) × IsOutcome d of.section (class_lock of.lock.class of.lock.effect) end × (said ≡ words ++ end)

-- what was tried says what is said of the hint of record r, of whatever section and lock
abbrev pub IsTried : List ℕ → List NameSpan → CompiledView → ℕ → Option TriedHint → Type 0
IsTried source names c r None = (i : ℕ) (l : Lock) → IsHintSaid source names c i l (Some r) []
IsTried source names c r (Some t) =
    (i : ℕ) (l : Lock) (end : List ℕ) → IsOutcome t.compiled i l end
    → IsHintSaid source names c i l (Some r) (hint_words t.name (string_bytes t.guard) ++ end)

-- what is said of the hint of a trial
abbrev pub IsTrialSaid : List ℕ → List NameSpan → CompiledView → Option Trial → List ℕ → Type 0
IsTrialSaid source names c None said = said ≡ []
IsTrialSaid source names c (Some t) said =
    IsHintSaid source names c t.of.section (class_lock t.of.lock.class t.of.lock.effect) (Some t.guarded) said

-- of the hint of record r alone
abbrev pub IsTriedFor : List ℕ → List NameSpan → CompiledView → ℕ → Option Trial → List ℕ → Type 0
IsTriedFor source names c r None said = said ≡ []
IsTriedFor source names c r (Some t) said =
    (t.guarded ≡ r → IsTrialSaid source names c (Some t) said) × ((t.guarded ≡ r → ⊥) → said ≡ [])

-- of the hints of the records below r
abbrev pub IsTriedBelow : List ℕ → List NameSpan → CompiledView → ℕ → Option Trial → List ℕ → Type 0
IsTriedBelow source names c r None said = said ≡ []
IsTriedBelow source names c r (Some t) said =
    (t.guarded < r → IsTrialSaid source names c (Some t) said) × (r ≤ t.guarded → said ≡ [])

abbrev pub with_note : PlacedView → List ℕ → PlacedView
with_note p said = record p { note = p.note ++ said }

abbrev pub no_placed : PlacedView
no_placed = record {
  told = told.Section (record { section = 0; finding = finding.NoLock; item = 0 });
  span = record { start = 0; end = 0 };
  label = [];
  note = [];
}

-- to the note of each warning is added what is said of its trial, and nothing else changes
pub record AreNoted (Says : Option Trial → List ℕ → Type 0) (trials : List (Option Trial)) (old new : List PlacedView)
    : Type 0
  where
    pub still : length new ≡ length old
    pub each : (k : ℕ) → k < length old → (said : List ℕ) × Says (slice_index_or trials k None) said
        × (slice_index_or new k no_placed ≡ with_note (slice_index_or old k no_placed) said)
