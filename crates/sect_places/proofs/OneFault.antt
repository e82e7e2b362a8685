-- A text has one fault.
use Rattle.std.proofs.Common.{◌≡◌, ◌≢◌, ℕ, List, Ok, Err, refl, subst}
use Rattle.sect_front.specs.{Front.{IsSpelled, IsFault}, FaultPlaces.{IsFaultSpan}, TreeView.{TreeView}}
use Rattle.sect_front.specs.{declared.span.Span.{Span}, declared.parsing.FrontFault.{FrontFault}}
use Rattle.sect_front.proofs.shared.Alone.{refuses}
use Rattle.sect_front.specs.declared.parsing.FrontFault.TheVariants as fault

pub same_fault : (bytes : List ℕ) (e given : FrontFault) → e ≢ fault.Memory → given ≢ fault.Memory → IsFault bytes e
    → IsFault bytes given → given ≡ e
same_fault bytes e fault.Memory ne some h s = absurd (some refl)
same_fault bytes e fault.TooLarge ne some h s = refuses bytes e ne h (Err fault.TooLarge) s
same_fault bytes e (fault.BadByte line) ne some h s = refuses bytes e ne h (Err (fault.BadByte line)) s
same_fault bytes e (fault.BadNumber line) ne some h s = refuses bytes e ne h (Err (fault.BadNumber line)) s
same_fault bytes e (fault.LongName line) ne some h s = refuses bytes e ne h (Err (fault.LongName line)) s
same_fault bytes e (fault.Unexpected line) ne some h s = refuses bytes e ne h (Err (fault.Unexpected line)) s
same_fault bytes e (fault.UnexpectedEnd line) ne some h s = refuses bytes e ne h (Err (fault.UnexpectedEnd line)) s
same_fault bytes e (fault.TooDeep line) ne some h s = refuses bytes e ne h (Err (fault.TooDeep line)) s

-- so its bytes are the fault's
pub fault_stands : (bytes : List ℕ) (e given : FrontFault) (span : Span) → e ≢ fault.Memory → given ≢ fault.Memory
    → IsFault bytes e → IsFault bytes given → IsFaultSpan bytes given span → IsFaultSpan bytes e span
fault_stands bytes e given span ne some h s p =
    subst (λ f. IsFaultSpan bytes f span) (same_fault bytes e given ne some h s) p

-- a text with a fault spells no tree
pub no_tree : (bytes : List ℕ) (e : FrontFault) (tree : TreeView) → e ≢ fault.Memory → IsFault bytes e
    → IsSpelled bytes tree → ⊥
no_tree bytes e tree ne h s = refuses bytes e ne h (Ok tree) s
