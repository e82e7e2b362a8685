-- Words that name threads, one after another.
use Rattle.std.proofs.Common.{ℕ, ◌+◌, ◌<◌, List, [], ◌∷◌, ◌++◌, length, take, get_or, sym, subst}
use Rattle.std.proofs.{lemmas.List.{take_more}, lemmas.Slice.Zip.{all_zipped_more}}
use Rattle.std.specs.List.{AllZip}
use Rattle.sect_front.specs.declared.tree.Thread.{Thread}
use Rattle.sect_lemmas.proofs.Membership.{Has-get_or}
use Rattle.sect_answers.specs.declared.naming.{ThreadWord.{ThreadWord}, ThreadFault.{ThreadFault}}
use Rattle.sect_answers.specs.Naming.{IsUnknown, IsUnknownOf}
use Rattle.sect_answers.specs.declared.naming.ThreadFault.TheVariants as fault

-- one word more
pub zipped_more : {X Y : Type 0} (R : X → Y → Type 0) (xs : List X) (i : ℕ) (d : X) (ts : List Y) (t : Y)
    → i < length xs → AllZip R (take i xs) ts → R (get_or xs i d) t → AllZip R (take (i + 1) xs) (ts ++ t ∷ [])
zipped_more R xs i d ts t within before here =
    subst (λ ws. AllZip R ws (ts ++ t ∷ [])) (sym (take_more xs i d within))
    (all_zipped_more R (take i xs) ts (get_or xs i d) t before here)

-- one of the words is unknown
pub unknown_among : (threads : List Thread) (words : List ThreadWord) (i : ℕ) (d : ThreadWord) (f : ThreadFault)
    → i < length words → IsUnknownOf threads (get_or words i d) f → IsUnknown threads words f
unknown_among threads words i d fault.Memory within h = tt
unknown_among threads words i d (fault.Unknown name near) within h = (get_or words i d, Has-get_or words i d within, h)
