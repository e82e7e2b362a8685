-- The test of keys tells which are one.
use Rattle.std.proofs.Common.{◌≡◌, true, false, refl, sym, ap, ◌∙◌, inl, inr}
use Rattle.std.proofs.lemmas.Bool.{eqb-true, eq-eqb, and_parts, and_from, cases_Bool, false≢true}
use Rattle.std.specs.Prelude.{◌==◌}
use Rattle.sect_modes.specs.{declared.key.Key.{Key}, declared.key.Key.TheVariants.{All, Class, Global, Made}}
use Rattle.sect_modes.specs.Key.{is_same_key}

-- the test of keys says that they are equal
pub same_key : (a b : Key) → is_same_key a b ≡ true → a ≡ b
same_key All All e = refl
same_key All (Class b) e = absurd (false≢true e)
same_key All (Global b) e = absurd (false≢true e)
same_key All (Made t n) e = absurd (false≢true e)
same_key (Class a) All e = absurd (false≢true e)
same_key (Global a) All e = absurd (false≢true e)
same_key (Made t n) All e = absurd (false≢true e)
same_key (Class a) (Class b) e = ap Class (eqb-true a b e)
same_key (Class a) (Global b) e = absurd (false≢true e)
same_key (Class a) (Made t n) e = absurd (false≢true e)
same_key (Global a) (Class b) e = absurd (false≢true e)
same_key (Global a) (Global b) e = ap Global (eqb-true a b e)
same_key (Global a) (Made t n) e = absurd (false≢true e)
same_key (Made t n) (Class b) e = absurd (false≢true e)
same_key (Made t n) (Global b) e = absurd (false≢true e)
same_key (Made t n) (Made u m) e =
    let h = and_parts (t == u) (n == m) e in
    ap (λ x. Made x n) (eqb-true t u h.0) ∙ ap (Made u) (eqb-true n m h.1)

-- it holds of each key and itself
pub key_itself : (a : Key) → is_same_key a a ≡ true
key_itself All = refl
key_itself (Class a) = eq-eqb a a refl
key_itself (Global a) = eq-eqb a a refl
key_itself (Made t n) = and_from (t == t) (n == n) (eq-eqb t t refl) (eq-eqb n n refl)

-- and says of two that they differ whichever comes first
pub other_key : (a b : Key) → is_same_key a b ≡ false → is_same_key b a ≡ false
other_key a b ne = elim (cases_Bool (is_same_key b a)) [
  | inl same ↦ (let e : b ≡ a = same_key b a same in let on : is_same_key a b ≡ true =
      ap (is_same_key a) e ∙ key_itself a in absurd (let both : false ≡ true = sym ne ∙ on in cc))
  | inr apart ↦ apart
]
