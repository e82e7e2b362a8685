-- The line of a refusal. `put_refusal` cites it.
use Rattle.std.specs.{Prelude.{ℕ, Bool, true, false, List, ◌++◌, codes}, Fmt.{decimal}, String.{string_bytes}}
use Rattle.sect_front.specs.declared.parsing.FrontFault.{FrontFault}
use Rattle.sect_types.specs.declared.rules.rule.TypeFault.{TypeFault}
use Rattle.sect_names.specs.declared.fault.SchemeFault.{SchemeFault}
use Rattle.sect_infer.specs.declared.workers.InferFault.{InferFault}
use Rattle.sect_serial.specs.declared.whole.SerialFault.{SerialFault}
use Rattle.sect_serial.specs.declared.exploring.OutcomesFault.{OutcomesFault}
use Rattle.sect_cert.specs.declared.fault.CertFault.{CertFault}
use Rattle.sect_check.specs.declared.fault.CheckFault.{CheckFault}
use Rattle.sect_world.specs.declared.turned.WorldFault.{WorldFault}
use Rattle.sect_answers.specs.declared.refusal.Refusal.{Refusal}
use Rattle.sect_front.specs.declared.parsing.FrontFault.TheVariants as front
use Rattle.sect_types.specs.declared.rules.rule.TypeFault.TheVariants as types
use Rattle.sect_names.specs.declared.fault.SchemeFault.TheVariants as scheme
use Rattle.sect_names.specs.declared.refusal.SourceRefusal as source
use Rattle.sect_names.specs.declared.refusal.SourceRefusal.TheVariants as source_refusal
use Rattle.sect_infer.specs.declared.workers.InferFault.TheVariants as infer
use Rattle.sect_serial.specs.declared.whole.SerialFault.TheVariants as serial
use Rattle.sect_serial.specs.declared.exploring.OutcomesFault.TheVariants as outcomes
use Rattle.sect_cert.specs.declared.fault.CertFault.TheVariants as cert
use Rattle.sect_check.specs.declared.fault.CheckFault.TheVariants as check
use Rattle.sect_world.specs.declared.turned.WorldFault.TheVariants as world
use Rattle.sect_answers.specs.declared.refusal.Refusal.TheVariants as refusal

-- what is written where memory ran out; no refusal that is printed has it inside
abbrev pub no_memory : List ℕ
no_memory = codes "out of memory"

-- a line of the text is counted from 1
abbrev pub front_text : FrontFault → List ℕ
front_text front.Memory = no_memory
front_text (front.BadByte line) = codes "1 BadByte line " ++ decimal line
front_text (front.BadNumber line) = codes "2 BadNumber line " ++ decimal line
front_text (front.LongName line) = codes "3 LongName line " ++ decimal line
front_text (front.Unexpected line) = codes "4 Unexpected line " ++ decimal line
front_text (front.UnexpectedEnd line) = codes "5 UnexpectedEnd line " ++ decimal line
front_text (front.TooDeep line) = codes "6 TooDeep line " ++ decimal line
front_text front.TooLarge = codes "7 TooLarge line 1"

-- an item is counted from 0
abbrev pub type_text : TypeFault → List ℕ
type_text types.Memory = no_memory
type_text (types.Unknown item) = codes "10 Unknown item " ++ decimal item
type_text (types.Twice item) = codes "11 Twice item " ++ decimal item
type_text (types.WrongType item) = codes "12 WrongType item " ++ decimal item
type_text (types.SharedOutside item) = codes "13 SharedOutside item " ++ decimal item
type_text (types.Nested item) = codes "14 Nested item " ++ decimal item
type_text (types.TooMany item) = codes "15 TooMany item " ++ decimal item
type_text (types.Recursion item) = codes "16 Recursion item " ++ decimal item
type_text (types.Arguments item) = codes "17 Arguments item " ++ decimal item

abbrev pub scheme_text : SchemeFault → List ℕ
scheme_text scheme.Memory = no_memory
scheme_text scheme.BadK = codes "60 BadK"
scheme_text (scheme.NoSuchGlobal record_number) = codes "20 NoSuchGlobal record " ++ decimal record_number
scheme_text (scheme.GuardIsGuarded record_number) = codes "21 GuardIsGuarded record " ++ decimal record_number
scheme_text (scheme.HintTwice record_number) = codes "22 HintTwice record " ++ decimal record_number

abbrev pub source_text : source.SourceRefusal → List ℕ
source_text source_refusal.Memory = no_memory
source_text (source_refusal.Front why) = front_text why
source_text (source_refusal.Types why) = type_text why
source_text (source_refusal.Scheme why) = scheme_text why

abbrev pub workers_text : InferFault → List ℕ
workers_text infer.BadWorkers = codes "61 BadWorkers"
workers_text infer.Memory = no_memory

abbrev pub serial_text : SerialFault → List ℕ
serial_text serial.Memory = no_memory
serial_text (serial.NoSection t) = codes "80 NoSection thread " ++ decimal t
serial_text (serial.SectionsLeft t) = codes "81 SectionsLeft thread " ++ decimal t

abbrev pub states_text : OutcomesFault → List ℕ
states_text outcomes.Memory = no_memory
states_text outcomes.TooManyStates = codes "90 TooManyStates"

-- a line of the certificate is counted from 1
abbrev pub cert_text : CertFault → List ℕ
cert_text cert.Memory = no_memory
cert_text (cert.BadCertLine line) = codes "30 BadCertLine line " ++ decimal line
cert_text (cert.CertEnd line) = codes "31 CertEnd line " ++ decimal line
cert_text (cert.NotCanonical line) = codes "32 NotCanonical line " ++ decimal line
cert_text cert.OldVersion = codes "33 OldVersion line 1"

-- sections, nodes, locks of an entry list and steps are counted from 0
abbrev pub check_text : CheckFault → List ℕ
check_text check.Memory = no_memory
check_text (check.Source why) = codes "40 Source " ++ source_text why
check_text (check.Text why) = codes "41 Text " ++ cert_text why
check_text check.WrongProgram = codes "42 WrongProgram"
check_text (check.NotGenerated i j) = codes "43 NotGenerated section " ++ (decimal i ++ (codes " node " ++ decimal j))
check_text (check.NotCarried i j k) =
    codes "44 NotCarried section " ++ (decimal i ++ (codes " edge " ++ (decimal j ++ (codes " " ++ decimal k))))
check_text (check.EntryNotCovered i) = codes "45 EntryNotCovered section " ++ decimal i
check_text (check.NotMaximal i) = codes "46 NotMaximal section " ++ decimal i
check_text (check.BrokenChain i n j) =
    codes "47 BrokenChain section " ++ (decimal i ++ (codes " lock " ++ (decimal n ++ (codes " step " ++ decimal j))))
check_text (check.NoChain i n) = codes "48 NoChain section " ++ (decimal i ++ (codes " lock " ++ decimal n))

abbrev pub world_text : WorldFault → List ℕ
world_text (world.NoSuchThread t) = codes "70 NoSuchThread " ++ decimal t
world_text world.Memory = no_memory

-- a text is refused for a mistake, of which `lint` says more
abbrev pub has_report : Refusal → Bool
has_report (refusal.Source (source_refusal.Scheme scheme.BadK)) = false
has_report (refusal.Source why) = true
has_report why = false

-- what a refusal says
abbrev pub refusal_text : Refusal → List ℕ
refusal_text refusal.Memory = no_memory
refusal_text (refusal.Source why) = codes "refused " ++ source_text why
refusal_text (refusal.Report text) = string_bytes text
refusal_text (refusal.Workers why) = codes "refused " ++ workers_text why
refusal_text (refusal.Serial why) = codes "refused " ++ serial_text why
refusal_text (refusal.Outcomes why) = codes "refused " ++ states_text why
refusal_text (refusal.Check why) = codes "refused " ++ check_text why
refusal_text (refusal.Schedule why) = codes "refused " ++ world_text why
refusal_text (refusal.Section i) = codes "refused 71 NoSuchSection " ++ decimal i
