-- What a rule passes, put together from what its parts pass.
use Rattle.std.proofs.Common.{◌≡◌, ℕ, ◌-◌, Bool, true, ◌&&◌, List, refl, sym, arith}
use Rattle.std.proofs.Common.{subst, length, drop, length-drop}
use Rattle.sect_front.specs.Gaps.{after_gap}
use Rattle.sect_front.proofs.shared.Lexings.{gap_fits}
use Rattle.sect_asking.specs.{Marks.{IsFirst}, Phrases.{Spot, mark_spot, spot_at, sign_spot, placed_spot}}
use Rattle.sect_asking.specs.Phrases.{is_value, is_term, is_sum, is_part}
use Rattle.sect_asking.specs.{declared.mark.Mark.{Mark}, declared.mark.Sign.{Sign}, steps.Reading.{Reads, Goes}}
use Rattle.sect_asking.specs.declared.phrase.ValuePhrase.{ValuePhrase}
use Rattle.sect_asking.specs.declared.phrase.ConditionPhrase.{ConditionPhrase}
use Rattle.sect_asking.specs.declared.printing.Part.TheVariants as part
use Rattle.sect_asking.specs.declared.phrase.ValuePhrase.TheVariants as value
use Rattle.sect_asking.specs.declared.phrase.ConditionPhrase.TheVariants as condition
use Rattle.sect_front.specs.declared.tree.Operator.TheVariants as operator

-- a mark that stands at the front is passed
pub passed : (m : Mark) (n : ℕ) (here : List ℕ) → IsFirst m n here
    → Reads (mark_spot m) here (after_gap (drop n here))
passed m n here first = record {
  marks = λ w end s. (n, first, tt, s);
  shorter = omega (arith, first.some, first.within, gap_fits (drop n here), length-drop n here);
}

-- and its place is told
pub passed_at : (m : Mark) (n : ℕ) (here : List ℕ) → IsFirst m n here
    → Reads (spot_at m (length here)) here (after_gap (drop n here))
passed_at m n here first = record {
  marks = λ w end s. (n, first, refl, s);
  shorter = omega (arith, first.some, first.within, gap_fits (drop n here), length-drop n here);
}

pub both_read : (f g : List Spot → List Spot) (a b c : List ℕ) → Reads f a b → Reads g b c → Reads (λ w. f (g w)) a c
both_read f g a b c h k = record {
  marks = λ w end s. h.marks (g w) end (k.marks w end s);
  shorter = omega (arith, h.shorter, k.shorter);
}

-- what may be left out is read behind what was read
pub read_on : (f g : List Spot → List Spot) (a b c : List ℕ) → Reads f a b → Goes g b c → Reads (λ w. f (g w)) a c
read_on f g a b c h k = record {
  marks = λ w end s. h.marks (g w) end (k.marks w end s);
  shorter = omega (arith, h.shorter, k.shorter);
}

-- the place of a sign that was passed may be told
pub placed : (s : Sign) (here there : List ℕ) → Reads (sign_spot s) here there
    → Reads (placed_spot s (length here)) here there
placed s here there h = record {
  marks = λ w end x. let k = h.marks w end x in (k.0, k.1, refl, k.3);
  shorter = h.shorter;
}

-- ---- the grammar's levels

pub value_term : (v : ValuePhrase) → is_value v ≡ true → is_term v ≡ true
value_term (value.Number n) h = refl
value_term value.Null h = refl
value_term (value.Path g fs) h = refl
value_term (value.Printed n) h = refl
value_term value.PrintedCount h = refl
value_term (value.TimesPrinted n) h = refl
value_term (value.Computed' o l p a q b) h = absurd cc

pub term_sum : (v : ValuePhrase) → is_term v ≡ true → is_sum v ≡ true
term_sum (value.Number n) h = refl
term_sum value.Null h = refl
term_sum (value.Path g fs) h = refl
term_sum (value.Printed n) h = refl
term_sum value.PrintedCount h = refl
term_sum (value.TimesPrinted n) h = refl
term_sum (value.Computed' operator.Add l p a q b) h = absurd cc
term_sum (value.Computed' operator.Subtract l p a q b) h = absurd cc
term_sum (value.Computed' operator.Multiply l p a q b) h = h

pub one_both : (c : ConditionPhrase) → is_part part.OfBoth c ≡ true → is_part part.OfEither c ≡ true
one_both (condition.Compares by l a b) h = h
one_both (condition.Ends t denied end) h = refl
one_both (condition.Prints denied ns) h = refl
one_both (condition.Not' p c) h = h
one_both (condition.Group' p c) h = h
one_both (condition.Both' p a q b) h = absurd cc
one_both (condition.Either' p a q b) h = absurd cc

pub both_whole : (c : ConditionPhrase) → is_part part.OfEither c ≡ true → is_part part.Whole c ≡ true
both_whole (condition.Compares by l a b) h = h
both_whole (condition.Ends t denied end) h = refl
both_whole (condition.Prints denied ns) h = refl
both_whole (condition.Not' p c) h = h
both_whole (condition.Group' p c) h = h
both_whole (condition.Both' p a q b) h = h
both_whole (condition.Either' p a q b) h = absurd cc

pub both_true : (a b : Bool) → a ≡ true → b ≡ true → (a && b) ≡ true
both_true a b h k = rw h k

-- a sign stands between two parts
pub joined : (s : Sign) (f g : List Spot → List Spot) (x y z t : List ℕ) → Reads f x y → Reads (sign_spot s) y z
    → Reads g z t → Reads (λ w. f (sign_spot s (g w))) x t
joined s f g x y z t h j k =
    both_read f (λ w. sign_spot s (g w)) x y t h (both_read (sign_spot s) g y z t j k)

-- and its place is told
pub joined_at : (s : Sign) (left : ℕ) (f g : List Spot → List Spot) (x y z t : List ℕ) → left ≡ length y
    → Reads f x y → Reads (placed_spot s (length y)) y z → Reads g z t → Reads (λ w. f (placed_spot s left (g w))) x t
joined_at s left f g x y z t e h j k =
    both_read f (λ w. placed_spot s left (g w)) x y t h (both_read (placed_spot s left) g y z t
    (subst (λ n. Reads (placed_spot s n) y z) (sym e) j) k)
