-- What ends a session with an editor.
use Rattle.std.proofs.Common.{◌≡◌, ◌⊎◌, ◌∙◌, ℕ, false, List, Option, Some, None, IfSome, inl, inr, refl, sym}
use Rattle.sect_lsp.specs.declared.{framing.Front.{Front}, server.Phase.{Phase}}
use Rattle.sect_lsp.specs.declared.framing.Front.TheVariants as front
use Rattle.sect_lsp.specs.declared.server.Phase.TheVariants as phase
use Rattle.sect_lsp.specs.{Framing.{front_of}, Sessions.{IsSession, is_ended, status_by}}
use Rattle.sect_command.specs.Telling.{IsBrokenOff, IsConversation}

-- where it hasn't ended, no whole message is left
broken_by : (p : Phase) (f : Front) → (is_ended p ≡ false → (f ≡ front.Part) ⊎ (f ≡ front.Malformed))
    → status_by p f ≡ 1 → IsBrokenOff p f
broken_by phase.Done f left one = absurd cc
broken_by phase.Abandoned f left one = inl refl
broken_by phase.Waiting f left one = elim (left refl) [
  | inl part ↦ inr (inr (part, λ e. absurd cc))
  | inr malformed ↦ inr (inl malformed)
]
broken_by phase.Serving f left one = elim (left refl) [
  | inl part ↦ inr (inr (part, λ e. absurd cc))
  | inr malformed ↦ inr (inl malformed)
]
broken_by phase.ShutDown front.Part left one = absurd cc
broken_by phase.ShutDown front.Malformed left one = inr (inl refl)
broken_by phase.ShutDown (front.Message header body) left one = elim (left refl) [
  | inl part ↦ absurd cc
  | inr malformed ↦ absurd cc
]

pub conversation : (bytes sent : List ℕ) (status : ℕ) → IsSession bytes sent status → IsConversation bytes sent status
conversation bytes sent status s = record {
  session = s;
  broken_off = λ one. broken_by s.end.phase (front_of s.rest) s.all (sym s.status_is ∙ one);
}

pub conversation_of : (input : Option (List ℕ)) (sent : List ℕ) (status : ℕ)
    → IfSome input (λ bytes. IsSession bytes sent status) → IfSome input (λ bytes. IsConversation bytes sent status)
conversation_of None sent status s = s
conversation_of (Some bytes) sent status s = conversation bytes sent status s
