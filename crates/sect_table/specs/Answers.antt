-- What a request is answered with. Cited by `Table::request` and `Table::give_fresh`.
use Rattle.std.specs.Prelude.{◌≡◌, ℕ, true, false}
use Rattle.sect_modes.specs.{declared.mode.Mode.{Mode}, declared.key.Key.{Key}}
use Rattle.sect_table.specs.{declared.claims.Answer.{Answer}, declared.claims.Answer.TheVariants.{Granted, Queued}}
use Rattle.sect_table.specs.declared.claims.TableFault.{TableFault}
use Rattle.sect_table.specs.declared.claims.TableFault.TheVariants.{AlreadyWaiting, AlreadyHeld, Memory}
use Rattle.sect_table.specs.Contents.{Contents, entry_of, put, give, claim_of, with_holder, with_waiter, is_free}
use Rattle.sect_table.specs.Contents.{is_waiting, holds}

-- the key was free and is held, or it wasn't and is waited for
abbrev pub IsAnswered : Answer → ℕ → Key → Mode → Contents → Contents → Type 0
IsAnswered Granted t k m old new = (is_free t k m old ≡ true) × (new.held ≡ give t k m old.held) ×
    (new.entries ≡ put (with_holder (claim_of t m) (entry_of k old.entries)) old.entries)
IsAnswered Queued t k m old new = (is_free t k m old ≡ false) × (new.held ≡ old.held) ×
    (new.entries ≡ put (with_waiter (claim_of t m) (entry_of k old.entries)) old.entries)

-- the thread doesn't wait, and doesn't hold the key
abbrev pub IsAdmitted : ℕ → Key → Contents → Type 0
IsAdmitted t k old = (is_waiting t old ≡ false) × (holds t k old ≡ false)

-- why: first that the thread waits, then that it holds the key
abbrev pub IsRefused : TableFault → ℕ → Key → Contents → Type 0
IsRefused AlreadyWaiting t k old = is_waiting t old ≡ true
IsRefused AlreadyHeld t k old = (is_waiting t old ≡ false) × (holds t k old ≡ true)
IsRefused Memory t k old = IsAdmitted t k old
