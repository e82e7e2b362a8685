-- The entry of a key among others.
use Rattle.std.proofs.Common.{◌≡◌, suc, List, ◌∷◌, get_or, true, false, ap}
use Rattle.std.specs.Prelude.{if◌then◌else◌}
use Rattle.sect_modes.specs.declared.key.Key.{Key}
use Rattle.sect_modes.specs.Key.{is_same_key}
use Rattle.sect_table.specs.Contents.{Entry, number_of, entry_of, no_entry}

pub entry_of-here : (key : Key) (e : Entry) (es : List Entry) → is_same_key key e.key ≡ true → entry_of key (e ∷ es) ≡ e
entry_of-here key e es is = ap (λ b. get_or (e ∷ es) (if b then 0 else suc (number_of key es)) (no_entry key)) is

pub entry_of-later : (key : Key) (e : Entry) (es : List Entry) → is_same_key key e.key ≡ false
    → entry_of key (e ∷ es) ≡ entry_of key es
entry_of-later key e es is = ap (λ b. get_or (e ∷ es) (if b then 0 else suc (number_of key es)) (no_entry key)) is
