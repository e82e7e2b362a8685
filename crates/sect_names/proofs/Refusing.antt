-- Which refusals are due, and which are not.
use Rattle.std.proofs.Common.{◌≡◌, ◌≤◌, ℕ, List, Result, Ok, Err, IsErrAnd, inl, inr, refl, ◌∙◌}
use Rattle.sect_front.specs.{TreeView.{TreeView}, Front.{IsSpelled, IsFault, Gives}}
use Rattle.sect_front.specs.declared.parsing.FrontFault.{FrontFault}
use Rattle.sect_types.specs.Programs.{ProgramView}
use Rattle.sect_names.specs.declared.fault.SchemeFault.{SchemeFault}
use Rattle.sect_names.specs.declared.fault.SchemeFault.TheVariants.{Memory, BadK, NoSuchGlobal, GuardIsGuarded}
use Rattle.sect_names.specs.{declared.fault.SchemeFault.TheVariants.{HintTwice}, Verdicts.{Judges}}
use Rattle.sect_names.specs.declared.refusal.SourceRefusal.{SourceRefusal}
use Rattle.sect_names.specs.Sources.{IsTypedText, GivesProgram, IsDue, of_front, of_types, of_scheme}
use Rattle.sect_names.specs.{Refusals.{reason_of, IsKnown}, declared.source.Refused.{Refused}}
use Rattle.sect_types.specs.declared.rules.rule.TypeFault.{TypeFault}
use Rattle.sect_front.specs.declared.parsing.FrontFault.TheVariants as front
use Rattle.sect_types.specs.First as types
use Rattle.sect_types.specs.declared.rules.rule.TypeFault.TheVariants as type_fault
use Rattle.sect_names.specs.declared.refusal.SourceRefusal.TheVariants as refusal
use Rattle.sect_names.specs.declared.source.Refused.TheVariants as refused

-- a fault of the scheme of a typed text's program is due where k was found to be small
pub scheme_due : (bytes : List ℕ) (k : ℕ) (p : ProgramView) → k ≤ 3 → IsTypedText bytes p → (fault : SchemeFault)
    → Judges p k (Err fault) → IsDue bytes k (of_scheme fault)
scheme_due bytes k p few text Memory judged = (few, tt)
scheme_due bytes k p few text BadK judged = (λ e. cc, inr (p, text, judged))
scheme_due bytes k p few text (NoSuchGlobal r) judged = (λ e. cc, inr (p, text, judged))
scheme_due bytes k p few text (GuardIsGuarded r) judged = (λ e. cc, inr (p, text, judged))
scheme_due bytes k p few text (HintTwice r) judged = (λ e. cc, inr (p, text, judged))

-- an answer that is refused for want of memory gives each program, unless memory ran out
pub gives_memory : (p : ProgramView) (r : Result ProgramView SourceRefusal) (e : SourceRefusal) → e ≡ refusal.Memory
    → IsErrAnd r (λ x. x ≡ e) → GivesProgram p r
gives_memory p (Ok q) e memory is = absurd is
gives_memory p (Err x) e memory is = is ∙ memory

-- a text that spells a tree is refused for want of memory alone
pub spelled_gives : (t : TreeView) (fault : FrontFault) → Gives t (Err fault) → of_front fault ≡ refusal.Memory
spelled_gives t front.Memory g = refl
spelled_gives t (front.TooLarge) g = absurd g
spelled_gives t (front.BadByte line) g = absurd g
spelled_gives t (front.BadNumber line) g = absurd g
spelled_gives t (front.LongName line) g = absurd g
spelled_gives t (front.Unexpected line) g = absurd g
spelled_gives t (front.TooDeep line) g = absurd g
spelled_gives t (front.UnexpectedEnd line) g = absurd g

-- a fault of a text is due where k was found to be small
front_due : (bytes : List ℕ) (k : ℕ) → k ≤ 3 → (fault : FrontFault) → IsFault bytes fault
    → IsDue bytes k (of_front fault)
front_due bytes k few front.Memory h = (few, tt)
front_due bytes k few front.TooLarge h = (few, (λ e. cc, h))
front_due bytes k few (front.BadByte line) h = (few, (λ e. cc, h))
front_due bytes k few (front.BadNumber line) h = (few, (λ e. cc, h))
front_due bytes k few (front.LongName line) h = (few, (λ e. cc, h))
front_due bytes k few (front.Unexpected line) h = (few, (λ e. cc, h))
front_due bytes k few (front.TooDeep line) h = (few, (λ e. cc, h))
front_due bytes k few (front.UnexpectedEnd line) h = (few, (λ e. cc, h))

-- and so is one of its types
types_due : (bytes : List ℕ) (k : ℕ) (t : TreeView) → k ≤ 3 → IsSpelled bytes t → (fault : TypeFault)
    → types.Judges {A = ℕ} t (Err fault) → IsDue bytes k (of_types fault)
types_due bytes k t few spelled type_fault.Memory h = (few, tt)
types_due bytes k t few spelled (type_fault.Unknown i) h = (few, (λ e. cc, (t, spelled, h)))
types_due bytes k t few spelled (type_fault.Twice i) h = (few, (λ e. cc, (t, spelled, h)))
types_due bytes k t few spelled (type_fault.WrongType i) h = (few, (λ e. cc, (t, spelled, h)))
types_due bytes k t few spelled (type_fault.SharedOutside i) h = (few, (λ e. cc, (t, spelled, h)))
types_due bytes k t few spelled (type_fault.Nested i) h = (few, (λ e. cc, (t, spelled, h)))
types_due bytes k t few spelled (type_fault.TooMany i) h = (few, (λ e. cc, (t, spelled, h)))
types_due bytes k t few spelled (type_fault.Recursion i) h = (few, (λ e. cc, (t, spelled, h)))
types_due bytes k t few spelled (type_fault.Arguments i) h = (few, (λ e. cc, (t, spelled, h)))

-- what is known of a text that is refused says that the refusal is due
pub known_due : (bytes : List ℕ) (k : ℕ) (r : Refused) → IsKnown bytes k r → IsDue bytes k (reason_of r)
known_due bytes k refused.BadK h = (λ e. cc, inl (refl, h))
known_due bytes k (refused.Front placed) h = front_due bytes k h.0 placed.fault h.1.fault
known_due bytes k (refused.Types m) h = types_due bytes k m.tree h.0 h.1 m.fault h.2
known_due bytes k (refused.Hints u) h = scheme_due bytes k u.program h.0 h.1 u.fault h.2
