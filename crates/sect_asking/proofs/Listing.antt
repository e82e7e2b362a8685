-- Marks of lists that grow at their end.
use Rattle.std.proofs.Common.{◌≡◌, ℕ, true, List, [], ◌∷◌, ◌++◌, refl, sym, ap, subst, arith, ◌≢◌, ◌∙◌}
use Rattle.sect_asking.specs.Phrases.{Spot, AreStanding, sign_spot, word_spot, numeral_spots, thread_spots}
use Rattle.sect_asking.specs.Phrases.{fields_spots, more_numbers, numbers_spots, threads_spots, has_some}
use Rattle.sect_asking.specs.{declared.phrase.Word.{Word}, declared.phrase.Numeral.{Numeral}}
use Rattle.sect_asking.specs.{declared.phrase.ThreadWord.{ThreadWord}, steps.Reading.{Reads, Goes}}
use Rattle.sect_asking.specs.declared.mark.Sign.TheVariants as sign

threads_behind : (ts : List ThreadWord) (t : ThreadWord) (w : List Spot)
    → threads_spots ts (thread_spots t w) ≡ threads_spots (ts ++ t ∷ []) w
threads_behind [] t w = refl
threads_behind (x ∷ xs) t w = ap (thread_spots x) (threads_behind xs t w)

fields_behind : (fs : List Word) (f : Word) (w : List Spot)
    → fields_spots fs (sign_spot sign.Dot (word_spot f w)) ≡ fields_spots (fs ++ f ∷ []) w
fields_behind [] f w = refl
fields_behind (x ∷ xs) f w = ap (λ r. sign_spot sign.Dot (word_spot x r)) (fields_behind xs f w)

more_behind : (ns : List Numeral) (n : Numeral) (w : List Spot)
    → more_numbers ns (sign_spot sign.Comma (numeral_spots n w)) ≡ more_numbers (ns ++ n ∷ []) w
more_behind [] n w = refl
more_behind (x ∷ xs) n w = ap (λ r. sign_spot sign.Comma (numeral_spots x r)) (more_behind xs n w)

numbers_behind : (ns : List Numeral) (n : Numeral) (w : List Spot) → ns ≢ []
    → numbers_spots ns (sign_spot sign.Comma (numeral_spots n w)) ≡ numbers_spots (ns ++ n ∷ []) w
numbers_behind [] n w some = absurd (some refl)
numbers_behind (x ∷ xs) n w some = ap (numeral_spots x) (more_behind xs n w)

pub threads_grow : (ts us : List ThreadWord) (t : ThreadWord) (a b c : List ℕ) → us ≡ ts ++ t ∷ []
    → Reads (threads_spots ts) a b → Reads (thread_spots t) b c → Reads (threads_spots us) a c
threads_grow ts us t a b c e h k = record {
  marks = λ w end s. subst (λ x. AreStanding a x end) (threads_behind ts t w ∙ ap (λ x. threads_spots x w) (sym e))
      (h.marks (thread_spots t w) end (k.marks w end s));
  shorter = omega (arith, h.shorter, k.shorter);
}

pub fields_grow : (fs gs : List Word) (f : Word) (a b c d : List ℕ) → gs ≡ fs ++ f ∷ []
    → Goes (fields_spots fs) a b → Reads (sign_spot sign.Dot) b c → Reads (word_spot f) c d
    → Goes (fields_spots gs) a d
fields_grow fs gs f a b c d e h j k = record {
  marks = λ w end s. subst (λ x. AreStanding a x end) (fields_behind fs f w ∙ ap (λ x. fields_spots x w) (sym e))
      (h.marks (sign_spot sign.Dot (word_spot f w)) end (j.marks (word_spot f w) end (k.marks w end s)));
  shorter = omega (arith, h.shorter, j.shorter, k.shorter);
}

pub numbers_grow : (ns ms : List Numeral) (n : Numeral) (a b c d : List ℕ) → ms ≡ ns ++ n ∷ [] → ns ≢ []
    → Reads (numbers_spots ns) a b → Reads (sign_spot sign.Comma) b c → Reads (numeral_spots n) c d
    → Reads (numbers_spots ms) a d
numbers_grow ns ms n a b c d e some h j k = record {
  marks = λ w end s. subst (λ x. AreStanding a x end) (numbers_behind ns n w some ∙ ap (λ x. numbers_spots x w) (sym e))
      (h.marks (sign_spot sign.Comma (numeral_spots n w)) end
      (j.marks (numeral_spots n w) end (k.marks w end s)));
  shorter = omega (arith, h.shorter, j.shorter, k.shorter);
}

pub some_behind : (xs : List ThreadWord) (x : ThreadWord) → has_some (xs ++ x ∷ []) ≡ true
some_behind [] x = refl
some_behind (y ∷ ys) x = refl

pub not_none : (xs ys : List Numeral) (x : Numeral) → ys ≡ xs ++ x ∷ [] → ys ≢ []
not_none [] ys x e none = absurd cc
not_none (z ∷ zs) ys x e none = absurd cc
