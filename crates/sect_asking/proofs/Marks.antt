-- A name that stands at the front is a token of the language.
use Rattle.std.proofs.Common.{◌≡◌, ℕ, List, Some, None, Option, ap}
use Rattle.std.specs.Option.{unwrap_or}
use Rattle.sect_front.specs.declared.token.Token.{Token}
use Rattle.sect_front.specs.Lexing.{IsFirst as IsFirstToken}
use Rattle.sect_asking.specs.Marks.{IsFirst}
use Rattle.sect_front.specs.declared.token.Token.TheVariants as token
use Rattle.sect_asking.specs.declared.mark.Mark.TheVariants as mark

pub name_token : (name : List ℕ) (n : ℕ) (bytes : List ℕ) → IsFirst (mark.Name name) n bytes
    → IsFirstToken (token.Name name) n bytes
name_token name n bytes h = record {
  within = h.within;
  some = h.some;
  spells = record { is = h.spelled; proper = h.proper };
  free = h.free;
}

pub none_some : {X R : Type 0} (x : X) → None ≡ Some x → R
none_some x e = absurd cc

pub same_token : (t u : Token) (n m : ℕ) → ◌≡◌ {A = Option (Token × ℕ)} (Some (t, n)) (Some (u, m)) → t ≡ u
same_token t u n m e = ap (λ (o : Option (Token × ℕ)). (unwrap_or o (t, n)).0) e

pub same_count : (t u : Token) (n m : ℕ) → ◌≡◌ {A = Option (Token × ℕ)} (Some (t, n)) (Some (u, m)) → n ≡ m
same_count t u n m e = ap (λ (o : Option (Token × ℕ)). (unwrap_or o (t, n)).1) e
