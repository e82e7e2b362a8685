-- Events that are kept apart from what they take.
use Rattle.std.proofs.Common.{◌≡◌, ◌≤◌, ◌+◌, ◌-◌, ◌++◌, ◌∷◌, ℕ, zero, suc, List, [], drop, take, length, refl, sym, ◌∙◌, ap}
use Rattle.std.proofs.Common.{arith, cond}
use Rattle.std.specs.Prelude.{count_by}
use Rattle.std.proofs.lemmas.{List.{drop-append-le, drop-drop, length-drop}, List.Sums.{sum_by-cons}}
use Rattle.sect_modes.specs.declared.key.Key.{Key}
use Rattle.sect_world.specs.{declared.event.Deed.{Deed}, declared.event.Event.{Event}}
use Rattle.sect_world.specs.{declared.trace.Noted.{Noted}, declared.trace.Note.{Note}}
use Rattle.sect_world.specs.steps.Tracing.{noted_of, taken_by, count_of, count_in, deed_of, events_of, notes_again}
use Rattle.sect_world.specs.Traces.{is_again, agains_in}
use Rattle.sect_world.specs.declared.event.Deed.TheVariants as deed
use Rattle.sect_world.specs.declared.trace.Noted.TheVariants as noted

-- a deed takes as many keys as is noted
pub counted : (d : Deed) → count_of (noted_of d) ≡ length (taken_by d)
counted deed.Local = refl
counted deed.Enter = refl
counted (deed.Take k m) = refl
counted deed.Begin = refl
counted deed.Again = refl
counted deed.Act = refl
counted deed.Leave = refl

-- what is kept of a deed gives it back
pub given_back : (d : Deed) → deed_of (noted_of d) (taken_by d) ≡ d
given_back deed.Local = refl
given_back deed.Enter = refl
given_back (deed.Take k m) = refl
given_back deed.Begin = refl
given_back deed.Again = refl
given_back deed.Act = refl
given_back deed.Leave = refl

pub at_most_one : (k : Noted) → count_of k ≤ 1
at_most_one noted.Local = omega arith
at_most_one noted.Enter = omega arith
at_most_one (noted.Take m) = omega arith
at_most_one noted.Begin = omega arith
at_most_one noted.Again = omega arith
at_most_one noted.Act = omega arith
at_most_one noted.Leave = omega arith

pub count_within : (ss : List Note) → count_in ss ≤ length ss
count_within [] = omega arith
count_within (s ∷ ss) = let rest = count_within ss in let one = at_most_one s.what in omega (arith, rest, one)

-- what stands behind the keys that a deed takes doesn't matter to it
same_deed : (k : Noted) (ks more : List Key) → count_of k ≤ length ks → deed_of k (ks ++ more) ≡ deed_of k ks
same_deed noted.Local ks more le = refl
same_deed noted.Enter ks more le = refl
same_deed (noted.Take m) [] more le = absurd (omega (arith, le))
same_deed (noted.Take m) (k ∷ ks) more le = refl
same_deed noted.Begin ks more le = refl
same_deed noted.Again ks more le = refl
same_deed noted.Act ks more le = refl
same_deed noted.Leave ks more le = refl

pub count_pushed : (ss : List Note) (s : Note) → count_in (ss ++ s ∷ []) ≡ count_in ss + count_of s.what
count_pushed [] s = omega arith
count_pushed (x ∷ ss) s = let rest = count_pushed ss s in omega (arith, rest)

-- one event more, which takes these keys
pub events_pushed : (ss : List Note) (s : Note) (ks more : List Key) → count_in ss ≡ length ks
    → events_of (ss ++ s ∷ []) (ks ++ more)
    ≡ events_of ss ks ++ record { thread = s.thread; deed = deed_of s.what more } ∷ []
events_pushed [] s [] more e = refl
events_pushed [] s (k ∷ ks) more e = absurd (omega (arith, e))
events_pushed (x ∷ ss) s ks more e =
    ap (λ d. record { thread = x.thread; deed = d } ∷ events_of (ss ++ s ∷ []) (drop (count_of x.what) (ks ++ more)))
    (same_deed x.what ks more enough)
    ∙ ap (λ es. record { thread = x.thread; deed = deed_of x.what ks } ∷ es)
    (ap (events_of (ss ++ s ∷ [])) (drop-append-le (count_of x.what) ks more enough)
    ∙ events_pushed ss s (drop (count_of x.what) ks) more rest) where
      enough : count_of x.what ≤ length ks
      enough = omega (arith, e)

      rest : count_in ss ≡ length (drop (count_of x.what) ks)
      rest = let left = length-drop (count_of x.what) ks in omega (arith, e, left)

pub length_events : (ss : List Note) (ks : List Key) → length (events_of ss ks) ≡ length ss
length_events [] ks = refl
length_events (s ∷ ss) ks = ap suc (length_events ss (drop (count_of s.what) ks))

-- the events behind the first n take what stands behind the keys that those take
events_behind : (n : ℕ) (ss : List Note) (ks : List Key)
    → events_of (drop n ss) (drop (count_in (take n ss)) ks) ≡ drop n (events_of ss ks)
events_behind zero ss ks = refl
events_behind (suc n) [] ks = refl
events_behind (suc n) (s ∷ ss) ks =
    ap (events_of (drop n ss)) (sym (drop-drop (count_in (take n ss)) (count_of s.what) ks))
    ∙ events_behind n ss (drop (count_of s.what) ks)

count_parts : (n : ℕ) (ss : List Note) → count_in (take n ss) + count_in (drop n ss) ≡ count_in ss
count_parts zero ss = omega arith
count_parts (suc n) [] = omega arith
count_parts (suc n) (s ∷ ss) = let rest = count_parts n ss in omega (arith, rest)

pub few_behind : (n : ℕ) (ss : List Note) (ks : List Key) → count_in ss ≡ length ks → count_in (drop n ss) ≤ length ks
few_behind n ss ks whole = let parts = count_parts n ss in omega (arith, whole, parts)

-- the notes behind the first n take the last keys
pub last_events : (n : ℕ) (ss last : List Note) (ks taken : List Key) (many few : ℕ) → count_in ss ≡ length ks
    → last ≡ drop n ss → many ≡ length ks → few ≡ count_in last → taken ≡ drop (many - few) ks
    → (count_in last ≡ length taken) × (events_of last taken ≡ drop n (events_of ss ks))
last_events n ss last ks taken many few whole notes all theirs keys = (
  (let left = ap length keys ∙ length-drop (many - few) ks in
      omega (arith, whole, parts, all, theirs, behind, left)),
  ap (λ xs. events_of xs taken) notes
      ∙ (ap (events_of (drop n ss)) (keys ∙ ap (λ m. drop m ks) first) ∙ events_behind n ss ks),
) where
  parts : count_in (take n ss) + count_in (drop n ss) ≡ count_in ss
  parts = count_parts n ss

  behind : count_in last ≡ count_in (drop n ss)
  behind = ap count_in notes

  first : many - few ≡ count_in (take n ss)
  first = omega (arith, whole, parts, all, theirs, behind)

again_noted : (k : Noted) (ks : List Key) → is_again (deed_of k ks) ≡ notes_again k
again_noted noted.Local ks = refl
again_noted noted.Enter ks = refl
again_noted (noted.Take m) [] = refl
again_noted (noted.Take m) (k ∷ ks) = refl
again_noted noted.Begin ks = refl
again_noted noted.Again ks = refl
again_noted noted.Act ks = refl
again_noted noted.Leave ks = refl

-- an `again` is noted as such
pub agains_noted : (ss : List Note) (ks : List Key)
    → count_by (λ (n : Note). notes_again n.what) ss ≡ agains_in (events_of ss ks)
agains_noted [] ks = refl
agains_noted (s ∷ ss) ks =
    sum_by-cons (λ (n : Note). cond (notes_again n.what) 1 0) s ss
    ∙ (ap (λ n. cond (notes_again s.what) 1 0 + n) (agains_noted ss (drop (count_of s.what) ks))
    ∙ (ap (λ b. cond b 1 0 + agains_in (events_of ss (drop (count_of s.what) ks))) (sym (again_noted s.what ks))
    ∙ sym (sum_by-cons (λ (e : Event). cond (is_again e.deed) 1 0)
    (record { thread = s.thread; deed = deed_of s.what ks }) (events_of ss (drop (count_of s.what) ks)))))
