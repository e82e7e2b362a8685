-- Warnings as a log of SARIF 2.1.0.
use Rattle.std.specs.Prelude.{ℕ, List, [], ◌∷◌, ◌++◌, map, codes}
use Rattle.serde_json.specs.Data.{Data, string, object, no_members, member}
use Rattle.sect_lint.specs.{Json.{list}, Sarif.{text_json, location_json, tool_json, run_json, log_json}}
use Rattle.sect_warnings.specs.{declared.warning.Finding.{Finding}, declared.warning.Spare.{Spare}}
use Rattle.sect_warnings.specs.{Placed.{PlacedView, behind}, Lost.{no_update}}
use Rattle.sect_warnings.specs.Titles.{name_of, note_of, spare_name, spare_note, told_name, told_title}
use Rattle.sect_names.specs.declared.lock.Effect.TheVariants as effect
use Rattle.sect_warnings.specs.declared.warning.Finding.TheVariants as finding
use Rattle.sect_places.specs.declared.name_use.Thing.TheVariants as thing
use Rattle.sect_warnings.specs.declared.warning.Spare.TheVariants as spare

-- what is told, and what is said of the marked bytes
abbrev pub message_of : PlacedView → List ℕ
message_of p = told_title p.told ++ behind (codes ": ") p.label

abbrev pub result_json : List ℕ → List ℕ → PlacedView → Data
result_json uri source p =
    object (member (codes "level") (string (codes "warning"))
    (member (codes "locations") (list (location_json uri source p.span ∷ []))
    (member (codes "message") (text_json (message_of p))
    (member (codes "ruleId") (string (told_name p.told)) no_members))))

-- what is told under this name, and what that means
abbrev pub rule_json : List ℕ → List ℕ → Data
rule_json name note =
    object (member (codes "help") (text_json note) (member (codes "id") (string name) no_members))

abbrev pub finding_rule : Finding → Data
finding_rule f = rule_json (name_of f) (note_of f)

abbrev pub spare_rule : Spare → Data
spare_rule s = rule_json (spare_name s) (spare_note s)

-- what may be told
abbrev pub rules : Data
rules =
    list (finding_rule finding.NoLock ∷ finding_rule finding.AllForOne
    ∷ finding_rule (finding.ClassLock 0 effect.Read) ∷ finding_rule (finding.NeverFilled 0 0)
    ∷ finding_rule (finding.NoCommonField 0) ∷ finding_rule (finding.LostUpdate no_update)
    ∷ spare_rule (spare.Unused thing.Local) ∷ spare_rule spare.Hint ∷ [])

abbrev pub warnings_log : List ℕ → List ℕ → List PlacedView → Data
warnings_log uri source ps = log_json (run_json (list (map (result_json uri source) ps)) (tool_json rules))
