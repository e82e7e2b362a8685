use Rattle.std.proofs.Common.{map, drop}
use Rattle.std.specs.String.{string_bytes}
use Rattle.sect_command.specs.{Reporting.{AddsTexts, IsEmpty, names_of}, declared.report.Report.{Report}}
use Rattle.sect_command.proofs.answering.reported.Given as goal

-- what is added of the names that are left leads to what is added of all
abbrev pub invariant-loop-name : goal.invariant-loop-name
invariant-loop-name g l = (start : Report) × IsEmpty start × ((after : Report)
    → AddsTexts (g.T.Texts.bytes_of l.setting.around.now.texts.now) l.setting.around.now.screen l.setting.given.now
    l.setting.asked.now (map string_bytes (drop l.name-index l.setting.asked.now.files.items)) l.report after
    → AddsTexts (g.T.Texts.bytes_of l.setting.around.now.texts.now) l.setting.around.now.screen l.setting.given.now
    l.setting.asked.now (names_of l.setting.asked.now) start after)
