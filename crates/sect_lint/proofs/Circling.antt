-- Calls that lead from one procedure to another.
use Rattle.std.proofs.Common.{◌≡◌, ◌<◌, ℕ, zero, suc, Bool, true, false, List, [], ◌∷◌, ◌++◌, Option, Some, None}
use Rattle.std.proofs.Common.{length, refl, sym, ap, ◌∙◌, subst, inl, inr, slice_get, get_or, cond, arith}
use Rattle.std.proofs.{lemmas.Bool.{eq-eqb, eqb-true, and_from, and_parts}, lemmas.List.Quantifiers.{position-Some}}
use Rattle.std.proofs.lemmas.Option.{get_or_from_slice_get, slice_get_within}
use Rattle.std.specs.{Option.{IfSome}, Prelude.{position, nat_eq, ◌&&◌}, List.{filter}}
use Rattle.sect_lemmas.specs.Lists.{Has}
use Rattle.sect_lemmas.proofs.{Options.{none_or_some, some_injective}, Places.{at_of}}
use Rattle.sect_places.specs.{Declarations.{is_call, is_called, is_procedure}, declared.name_use.NameSpan.{NameSpan}}
use Rattle.sect_lint.specs.{Calls.{is_call_in, Leads}, declared.circle.Link.{Link}}
use Rattle.sect_lint.specs.steps.Linked.{AreLinks, AreBelow}

found_within : {A : Type 0} (p : A → Bool) (xs : List A) (i : ℕ) → position p xs ≡ Some i → i < length xs
found_within p [] i e = absurd (none_or_some i e)
found_within p (x ∷ xs) i e = (position-Some p (x ∷ xs) i x e).0

-- what is found at the first place passes
pub position_found : {A : Type 0} (p : A → Bool) (xs : List A) (i : ℕ) → position p xs ≡ Some i
    → (x : A) × (slice_get xs i ≡ Some x) × (p x ≡ true)
position_found {A} p xs i e =
    let here = at_of xs i (found_within p xs i e) in
    (here.0, here.1, ap p (sym (get_or_from_slice_get xs i here.0 here.0 here.1)) ∙ (position-Some p xs i here.0 e).1)

-- what passes is among all
pub filter_has : {A : Type 0} (p : A → Bool) (xs : List A) (x : A) → Has (filter p xs) x → Has xs x
filter_has p [] x h = absurd h
filter_has p (y ∷ xs) x h = by (filter_has p xs x) (p y) h
  where
    by : (Has (filter p xs) x → Has xs x) → (b : Bool) → Has (cond b (y ∷ filter p xs) (filter p xs)) x → Has (y ∷ xs) x
    by rest true h = elim h [ inl e ↦ inl e | inr k ↦ inr (rest k) ]
    by rest false h = inr (rest h)

-- what is read at a place is what stands there
pub get_found : {A : Type 0} (xs : List A) (i : ℕ) (x y : A) → x ≡ get_or xs i x → slice_get xs i ≡ Some y → x ≡ y
get_found xs i x y is at = is ∙ get_or_from_slice_get xs i y x at

-- the same of what may be there
pub read_some : {A : Type 0} (xs : List (Option A)) (i : ℕ) (x : Option A) (y : A) → x ≡ get_or xs i x → x ≡ Some y
    → i < length xs → slice_get xs i ≡ Some (Some y)
read_some xs i x y is some within =
    let here = at_of xs i within in
    here.1 ∙ ap Some (sym (get_found xs i x here.0 is here.1) ∙ some)

-- what holds of what there is
pub some_weaker : {A : Type 0} (o : Option A) (P Q : A → Type 0) → ((x : A) → P x → Q x) → IfSome o P → IfSome o Q
some_weaker None P Q f h = tt
some_weaker (Some x) P Q f h = f x h

-- the call stands in what is declared there
pub stands_in : (d x : NameSpan) → nat_eq d.used.item x.used.scope ≡ true → is_call x.used.role ≡ true
    → is_call_in d.used.item x ≡ true
stands_in d x same call =
    and_from _ _ (eq-eqb x.used.scope d.used.item (sym (eqb-true d.used.item x.used.scope same))) call

same_item_by : (n item : ℕ) (b : Bool) → (nat_eq n item && b) ≡ true → n ≡ item
same_item_by n item b h = eqb-true n item ((and_parts (nat_eq n item) b h).0)

pub same_item : (x : NameSpan) (item : ℕ) → (nat_eq x.used.item item && is_call x.used.role) ≡ true
    → x.used.item ≡ item
same_item x item h = same_item_by x.used.item item (is_call x.used.role) h

module _ (names : List NameSpan) where
  -- calls between procedures that are declared
  pub links_below : (declared : List NameSpan) (links : List Link) (count : ℕ) → AreLinks names declared links
      → length declared ≡ count → AreBelow count links
  links_below declared links count are many l h =
      let k = (are l h).1 in (
        omega (arith, slice_get_within declared l.from k.caller k.from, many),
        omega (arith, slice_get_within declared l.to k.called k.to, many),
      )

  -- one call more
  pub leads_more : (from mid to : NameSpan) (calls : List NameSpan) (x : NameSpan) → Leads names from mid calls
      → Has names x → is_call_in mid.used.item x ≡ true → Has names to → is_called is_procedure x.used.name to ≡ true
      → Leads names from to (calls ++ x ∷ [])
  leads_more from mid to [] x is h stands there called =
      (h, subst (λ (d : NameSpan). is_call_in d.used.item x ≡ true) (sym is) stands, (to, there, called, refl))
  leads_more from mid to (y ∷ calls) x (hy, sy, (n, hn, cn, rest)) h stands there called =
      (hy, sy, (n, hn, cn, leads_more n mid to calls x rest h stands there called))

  -- the calls stand in the text
  pub leads_has : (from to : NameSpan) (calls : List NameSpan) → Leads names from to calls → (i : ℕ) (x : NameSpan)
      → slice_get calls i ≡ Some x → Has names x
  leads_has from to [] h i x e = absurd (none_or_some x e)
  leads_has from to (y ∷ calls) (hy, sy, (n, hn, cn, rest)) zero x e = subst (Has names) (some_injective y x e) hy
  leads_has from to (y ∷ calls) (hy, sy, (n, hn, cn, rest)) (suc i) x e = leads_has n to calls rest i x e
