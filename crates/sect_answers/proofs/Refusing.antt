-- What the layers refuse, the program refuses.
use Rattle.std.proofs.Common.{◌≡◌, ◌<◌, ◌∷◌, ◌++◌, ℕ, List, Err, refl, sym, subst, length, inl, arith}
use Rattle.sect_lemmas.specs.Lists.{Has}
use Rattle.sect_lemmas.proofs.Membership.{Has-right}
use Rattle.sect_names.specs.{declared.refusal.SourceRefusal.{SourceRefusal}, Sources.{IsAccepted, IsTypedText}}
use Rattle.sect_types.specs.{Programs.{ProgramView}, Whole.{SerialEndView}}
use Rattle.sect_serial.specs.declared.whole.SerialFault.{SerialFault}
use Rattle.sect_serial.specs.{declared.exploring.OutcomesFault.{OutcomesFault}, Exploring.{IsUnlisted}}
use Rattle.sect_check.specs.declared.fault.CheckFault.{CheckFault}
use Rattle.sect_answers.specs.{Answers.{IsDue, of_source}, Compiling.{IsCompileDue, of_compile}, Serial.{of_serial}}
use Rattle.sect_answers.specs.{Splitting.{IsSplit}, Checking.{IsCheckDue, of_check}}
use Rattle.sect_answers.specs.{Outcomes.{of_outcomes}, Placed.{IsPlacedOutcomesDue, IsPlacedSerialDue}}
use Rattle.sect_answers.specs.Scheduling.{IsScheduleDue, of_world}
use Rattle.sect_emit.specs.{Faults.{IsDueBy}, declared.fault.CompileFault.{CompileFault}, Compiled.{CompiledView}}
use Rattle.sect_world.specs.{declared.turned.WorldFault.{WorldFault}, Schedules.{IsUnrun}}
use Rattle.sect_names.specs.Sources as sources
use Rattle.sect_names.specs.declared.refusal.SourceRefusal.TheVariants as source
use Rattle.sect_serial.specs.Judging as serial
use Rattle.sect_serial.specs.declared.whole.SerialFault.TheVariants as serial_fault
use Rattle.sect_serial.specs.declared.exploring.OutcomesFault.TheVariants as states_fault
use Rattle.sect_check.specs.Verdicts as certificates
use Rattle.sect_check.specs.declared.fault.CheckFault.TheVariants as check_fault
use Rattle.sect_answers.specs.declared.refusal.Refusal.TheVariants as program
use Rattle.sect_emit.specs.declared.fault.CompileFault.TheVariants as compile_fault
use Rattle.sect_world.specs.declared.turned.WorldFault.TheVariants as world_fault

-- a refusal of the source that is due is due of `locks`
pub due : (bytes : List ℕ) (k : ℕ) (why : SourceRefusal) → sources.IsDue bytes k why → IsDue bytes k (of_source why)
due bytes k source.Memory h = h.0
due bytes k (source.Front fault) h = (λ e. cc, h)
due bytes k (source.Types fault) h = (λ e. cc, h)
due bytes k (source.Scheme fault) h = (λ e. cc, h)

-- and of `compile`, where several workers refuse
pub compile_due : (bytes : List ℕ) (k workers : ℕ) (why : CompileFault) → IsDueBy workers bytes k why
    → IsCompileDue bytes k workers (of_compile why)
compile_due bytes k workers compile_fault.Memory h = (h.0, h.1.0)
compile_due bytes k workers (compile_fault.Workers fault) h = h
compile_due bytes k workers (compile_fault.Source source.Memory) h = absurd (h.1 refl)
compile_due bytes k workers (compile_fault.Source (source.Front f)) h = (h.0, due bytes k (source.Front f) h.2)
compile_due bytes k workers (compile_fault.Source (source.Types f)) h = (h.0, due bytes k (source.Types f) h.2)
compile_due bytes k workers (compile_fault.Source (source.Scheme f)) h = (h.0, due bytes k (source.Scheme f) h.2)

-- an order that comes to an end is refused for want of memory alone
pub ended_gives : (e : SerialEndView) (why : SerialFault) → serial.Gives e (Err why) → of_serial why ≡ program.Memory
ended_gives e serial_fault.Memory g = refl
ended_gives e (serial_fault.NoSection t) g = absurd g
ended_gives e (serial_fault.SectionsLeft t) g = absurd g

-- the first fault of the input's certificate is due of `check`
pub check_due : (input cert source : List ℕ) (k : ℕ) (why : CheckFault) → IsSplit input cert source
    → certificates.Judges {A = Unit {0}} source k cert (Err why) → IsCheckDue input k (of_check why)
check_due input cert source k check_fault.Memory split h = h
check_due input cert source k (check_fault.Source r) split h =
    (λ e. cc, record { cert = cert; source = source; split = split; holds = h })
check_due input cert source k (check_fault.Text f) split h =
    (λ e. cc, record { cert = cert; source = source; split = split; holds = h })
check_due input cert source k check_fault.WrongProgram split h =
    (λ e. cc, record { cert = cert; source = source; split = split; holds = h })
check_due input cert source k (check_fault.NotGenerated i j) split h =
    (λ e. cc, record { cert = cert; source = source; split = split; holds = h })
check_due input cert source k (check_fault.NotCarried i j m) split h =
    (λ e. cc, record { cert = cert; source = source; split = split; holds = h })
check_due input cert source k (check_fault.EntryNotCovered i) split h =
    (λ e. cc, record { cert = cert; source = source; split = split; holds = h })
check_due input cert source k (check_fault.NotMaximal i) split h =
    (λ e. cc, record { cert = cert; source = source; split = split; holds = h })
check_due input cert source k (check_fault.BrokenChain i n j) split h =
    (λ e. cc, record { cert = cert; source = source; split = split; holds = h })
check_due input cert source k (check_fault.NoChain i n) split h =
    (λ e. cc, record { cert = cert; source = source; split = split; holds = h })

-- and of `serial` and `outcomes`, where they tell places
pub placed_serial_due : (bytes : List ℕ) (k fuel : ℕ) (order : List ℕ) (why : SourceRefusal) → sources.IsDue bytes k why
    → IsPlacedSerialDue bytes k fuel order (of_source why)
placed_serial_due bytes k fuel order source.Memory h = tt
placed_serial_due bytes k fuel order (source.Front fault) h = (λ e. cc, h)
placed_serial_due bytes k fuel order (source.Types fault) h = (λ e. cc, h)
placed_serial_due bytes k fuel order (source.Scheme fault) h = (λ e. cc, h)

pub placed_outcomes_due : (bytes : List ℕ) (k fuel most : ℕ) (why : SourceRefusal) → sources.IsDue bytes k why
    → IsPlacedOutcomesDue bytes k fuel most (of_source why)
placed_outcomes_due bytes k fuel most source.Memory h = tt
placed_outcomes_due bytes k fuel most (source.Front fault) h = (λ e. cc, h)
placed_outcomes_due bytes k fuel most (source.Types fault) h = (λ e. cc, h)
placed_outcomes_due bytes k fuel most (source.Scheme fault) h = (λ e. cc, h)

-- an order that is refused is refused there too
pub placed_order_due : (bytes : List ℕ) (k fuel : ℕ) (order : List ℕ) (p : ProgramView) (why : SerialFault)
    → IsTypedText bytes p → serial.Judges p fuel order (Err why)
    → IsPlacedSerialDue bytes k fuel order (of_serial why)
placed_order_due bytes k fuel order p serial_fault.Memory typed h = tt
placed_order_due bytes k fuel order p (serial_fault.NoSection t) typed h = (λ e. cc, (p, typed, h))
placed_order_due bytes k fuel order p (serial_fault.SectionsLeft t) typed h = (λ e. cc, (p, typed, h))

-- and so are too many states
pub placed_states_due : (bytes : List ℕ) (k fuel most : ℕ) (p : ProgramView) (why : OutcomesFault)
    → IsTypedText bytes p → IsUnlisted p fuel most why → IsPlacedOutcomesDue bytes k fuel most (of_outcomes why)
placed_states_due bytes k fuel most p states_fault.Memory typed h = tt
placed_states_due bytes k fuel most p states_fault.TooManyStates typed h = (λ e. cc, (p, typed, h))

-- and of `schedule`
pub schedule_source_due : (bytes : List ℕ) (k : ℕ) (schedule : List ℕ) (why : SourceRefusal) → sources.IsDue bytes k why
    → IsScheduleDue bytes k schedule (of_source why)
schedule_source_due bytes k schedule source.Memory h = h.0
schedule_source_due bytes k schedule (source.Front fault) h = (λ e. cc, h)
schedule_source_due bytes k schedule (source.Types fault) h = (λ e. cc, h)
schedule_source_due bytes k schedule (source.Scheme fault) h = (λ e. cc, h)

-- a schedule that isn't run is refused by `schedule`
pub schedule_due : (bytes : List ℕ) (k : ℕ) (schedule : List ℕ) (c : CompiledView) (why : WorldFault)
    → IsAccepted bytes k c.scheme
    → IsUnrun why schedule (length c.scheme.program.texts) → IsScheduleDue bytes k schedule (of_world why)
schedule_due bytes k schedule c world_fault.Memory accepted h = omega (arith, accepted.most, accepted.scheme.most)
schedule_due bytes k schedule c (world_fault.NoSuchThread t) accepted h = (c.scheme, accepted, h)

-- a schedule of the program's threads alone is refused for want of memory alone
pub schedule_runs : (schedule : List ℕ) (count : ℕ) (why : WorldFault) → ((t : ℕ) → Has schedule t → t < count)
    → IsUnrun why schedule count → of_world why ≡ program.Memory
schedule_runs schedule count world_fault.Memory there h = refl
schedule_runs schedule count (world_fault.NoSuchThread u) there h =
    let has : Has (h.before ++ u ∷ h.after) u = Has-right h.before (u ∷ h.after) u (inl refl) in
    let within : u < count = there u (subst (λ ts. Has ts u) (sym h.split) has) in
    absurd (omega (arith, within, h.missing))
