-- A text that spells a tree is refused only for want of memory.
use Rattle.std.proofs.Common.{ℕ, List, Result, Ok, Err, subst, arith, Bool}
use Rattle.sect_front.specs.{Front.{IsSpelled, IsBadOn, Judges, Gives}, Faults.{tokens_in, IsTree}, Lexing.{Spells}}
use Rattle.sect_front.specs.{TokenAt.{TokenAt}, TreeView.{TreeView}, declared.parsing.FrontFault.{FrontFault}}
use Rattle.sect_front.proofs.shared.Lexings.{one_lexing, bad_or_lexed}
use Rattle.sect_front.proofs.Verdict.{given}
use Rattle.sect_front.specs.declared.parsing.FrontFault.TheVariants as fault
use Rattle.sect_front.proofs.TokenFaults as token_fault

-- the same tokens, whichever way they were found
same_tokens : (bytes : List ℕ) (ps : List TokenAt) (tree : TreeView) → Spells bytes ps → (s : IsSpelled bytes tree)
    → IsTree (tokens_in ps) tree
same_tokens bytes ps tree h s =
    subst (λ qs. IsTree (tokens_in qs) tree) (one_lexing bytes s.places ps s.spells h) s.parses

no_bad : (bytes : List ℕ) (line : ℕ) (l d : Bool) (tree : TreeView) → IsBadOn bytes line l d → IsSpelled bytes tree → ⊥
no_bad bytes line l d tree h s = bad_or_lexed bytes h.at s.places h.bad s.spells

pub only : (bytes : List ℕ) (tree : TreeView) → IsSpelled bytes tree → (r : Result TreeView FrontFault) → Judges bytes r
    → Gives tree r
only bytes tree s (Ok found) h =
    given (tokens_in h.places) (Ok found) h.parses tree (same_tokens bytes h.places tree h.spells s)
only bytes tree s (Err fault.Memory) h = tt
only bytes tree s (Err fault.TooLarge) h = omega (arith, s.fits)
only bytes tree s (Err (fault.BadByte line)) h = no_bad bytes line _ _ tree h s
only bytes tree s (Err (fault.BadNumber line)) h = no_bad bytes line _ _ tree h s
only bytes tree s (Err (fault.LongName line)) h = no_bad bytes line _ _ tree h s
only bytes tree s (Err (fault.Unexpected line)) h =
    given (tokens_in h.places) (Err (token_fault.Unexpected h.index)) h.fault tree
    (same_tokens bytes h.places tree h.spells s)
only bytes tree s (Err (fault.TooDeep line)) h =
    given (tokens_in h.places) (Err (token_fault.TooDeep h.index)) h.fault tree
    (same_tokens bytes h.places tree h.spells s)
only bytes tree s (Err (fault.UnexpectedEnd line)) h =
    given (tokens_in h.places) (Err token_fault.Unfinished) h.fault tree (same_tokens bytes h.places tree h.spells s)
