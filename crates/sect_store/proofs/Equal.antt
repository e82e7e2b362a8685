-- Works that are equal part by part are equal.
use Rattle.std.proofs.Common.{rules, ◌≡◌, ◌&&◌, true, List, ap, ◌∙◌, sym}
use Rattle.std.specs.{Bool.{Decides}, Cmp.{unsigned_Decides, signed_Decides}}
use Rattle.std.specs.Cmp.{Lexicographic.{pointwise, pointwise_decides}, Derive.{both_true}}
use Rattle.std.proofs.lemmas.Bool.{and_parts}
use Rattle.std.specs.{Prelude.{nat_eq}, Ordering.{int_eq}}
use Rattle.sect_types.specs.{Meaning.{WorkView}, declared.meaning.store.ObjectName.{ObjectName}}
use Rattle.sect_types.specs.declared.meaning.store.Datum.{Datum}
use Rattle.sect_types.specs.declared.meaning.store.Datum.TheVariants.{Number, Null, Refers}
use Rattle.sect_types.proofs.shared.SameData.{name_tells}
use Rattle.sect_types.specs.contracts.meaning.store.DatumPartialEq.TheImpl.{ghosts as the_datum_eq}
use Rattle.sect_store.specs.Comparing.{far_eq}

-- the name in a reference
abbrev name_of : ObjectName → Datum → ObjectName
name_of n (Number i) = n
name_of n Null = n
name_of n (Refers m) = m

datum_tells : (d e : Datum) → Decides (the_datum_eq.eq d e) (d ≡ e)
datum_tells (Number n) (Number m) = search rules
datum_tells (Number n) Null = search rules
datum_tells (Number n) (Refers m) = search rules
datum_tells Null (Number m) = search rules
datum_tells Null Null = search rules
datum_tells Null (Refers m) = search rules
datum_tells (Refers n) (Number m) = search rules
datum_tells (Refers n) Null = search rules
datum_tells (Refers n) (Refers m) = (
  λ h. ap Refers ((name_tells n m).0 h),
  λ e. (name_tells n m).1 (ap (name_of n) e),
)

-- what is as far, and whose locals hold the same, is equal; and so the other way round
pub works_decided : (a b : WorkView) (xs ys : List Datum) → xs ≡ a.locals → ys ≡ b.locals
    → Decides (far_eq a b && pointwise the_datum_eq.eq xs ys) (a ≡ b)
works_decided a b xs ys ours theirs = (λ same. forth same, λ e. back e) where
  forth : (far_eq a b && pointwise the_datum_eq.eq xs ys) ≡ true → a ≡ b
  forth same =
      let all = and_parts (far_eq a b) (pointwise the_datum_eq.eq xs ys) same in
      let one = and_parts (nat_eq a.fuel b.fuel) (nat_eq a.made b.made && pointwise int_eq a.printed b.printed) all.0 in
      let two = and_parts (nat_eq a.made b.made) (pointwise int_eq a.printed b.printed) one.1 in
      let locals : a.locals ≡ b.locals = sym ours ∙ ((pointwise_decides datum_tells xs ys).0 all.1 ∙ theirs) in
      let fuel : a.fuel ≡ b.fuel = (unsigned_Decides a.fuel b.fuel).0 one.0 in
      let made : a.made ≡ b.made = (unsigned_Decides a.made b.made).0 two.0 in
      let printed : a.printed ≡ b.printed = (pointwise_decides signed_Decides a.printed b.printed).0 two.1 in
      λ i. record { locals = locals i; fuel = fuel i; made = made i; printed = printed i }

  back : a ≡ b → (far_eq a b && pointwise the_datum_eq.eq xs ys) ≡ true
  back e =
      let fuel = (unsigned_Decides a.fuel b.fuel).1 (ap (λ (w : WorkView). w.fuel) e) in
      let made = (unsigned_Decides a.made b.made).1 (ap (λ (w : WorkView). w.made) e) in
      let printed = (pointwise_decides signed_Decides a.printed b.printed).1 (ap (λ (w : WorkView). w.printed) e) in
      let locals : xs ≡ ys = ours ∙ (ap (λ (w : WorkView). w.locals) e ∙ sym theirs) in
      both_true (both_true fuel (both_true made printed)) ((pointwise_decides datum_tells xs ys).1 locals)
