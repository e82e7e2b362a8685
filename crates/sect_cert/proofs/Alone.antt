-- A text has one fault at most, line by line.
use Rattle.std.proofs.Common.{◌≡◌, ◌≢◌, ℕ, ◌+◌, List, [], ◌∷◌, ◌++◌, length, refl, sym, ◌∙◌, ap, subst, append_assoc}
use Rattle.std.proofs.Common.{inl, inr}
use Rattle.std.specs.Prelude.{◌⊎◌, Err}
use Rattle.sect_cert.specs.Parts.{parts}
use Rattle.sect_cert.specs.Verdicts.{IsViable, IsWhole, HasForm, HasNoForm, IsEndAt, IsFaultAt, IsMoreAt}
use Rattle.sect_cert.specs.declared.fault.CertFault.{CertFault}
use Rattle.sect_cert.specs.steps.Closing.{JudgesLines}
use Rattle.sect_cert.proofs.Only.{read_past}
use Rattle.sect_cert.specs.declared.fault.CertFault.TheVariants as fault

-- the second front is the first and more
record IsLonger (f g u v : List (List ℕ)) : Type 0 where
  next : List ℕ
  between : List (List ℕ)
  front : g ≡ f ++ next ∷ between
  rest : u ≡ next ∷ (between ++ v)

record AreSame (f g u v : List (List ℕ)) : Type 0 where
  front : f ≡ g
  rest : u ≡ v

-- two fronts of one list
abbrev Fronts : List (List ℕ) → List (List ℕ) → List (List ℕ) → List (List ℕ) → Type 0
Fronts f g u v = AreSame f g u v ⊎ (IsLonger f g u v ⊎ IsLonger g f v u)

fronts : (f g u v : List (List ℕ)) → f ++ u ≡ g ++ v → Fronts f g u v
fronts [] [] u v h = inl (record { front = refl; rest = h })
fronts [] (t ∷ g) u v h = inr (inl (record { next = t; between = g; front = refl; rest = h }))
fronts (t ∷ f) [] u v h = inr (inr (record { next = t; between = f; front = refl; rest = sym h }))
fronts (s ∷ f) (t ∷ g) u v h = let e : s ≡ t = cc in let k : f ++ u ≡ g ++ v = cc in more e (fronts f g u v k)
  where
    more : s ≡ t → Fronts f g u v → Fronts (s ∷ f) (t ∷ g) u v
    more e k = elim k [
      | inl a ↦ inl (record { front = ap (λ x. x ∷ f) e ∙ ap (λ x. t ∷ x) a.front; rest = a.rest })
      | inr b ↦ elim b [
        | inl l ↦
            inr
            (inl (record {
              next = l.next;
              between = l.between;
              front = ap (λ x. x ∷ g) (sym e)
                  ∙ ap (λ x. s ∷ x) l.front;
              rest = l.rest;
            }))
        | inr l ↦
            inr
            (inr (record {
              next = l.next;
              between = l.between;
              front =
                  ap (λ x. x ∷ f) e ∙ ap (λ x. t ∷ x) l.front;
              rest = l.rest;
            }))
      ]
    ]

-- the lines that a text shares with certificates' texts, and what stops them
record Stop (all : List (List ℕ)) (number : ℕ) : Type 0 where
  front : List (List ℕ)
  rest : List (List ℕ)
  split : all ≡ front ++ rest
  line : number ≡ length front + 1
  before : IsViable front
  some : rest ≢ []
  stops : (t : List ℕ) (w v : List (List ℕ)) → rest ≡ t ∷ (w ++ v) → v ≢ [] → IsViable (front ++ t ∷ []) → ⊥

begins : (f w : List (List ℕ)) (t : List ℕ) → IsViable (f ++ t ∷ w) → IsViable (f ++ t ∷ [])
begins f w t v = (v.0, w ++ v.1, v.2, v.3 ∙ (append_assoc f (t ∷ w) v.1 ∙ sym (append_assoc f (t ∷ []) (w ++ v.1))))

not_longer : (all : List (List ℕ)) (n m : ℕ) (a : Stop all n) (b : Stop all m) → IsLonger a.front b.front a.rest b.rest
    → ⊥
not_longer all n m a b l = a.stops l.next l.between b.rest l.rest b.some
    (begins a.front l.between l.next (subst IsViable l.front b.before))

same_stop : (all : List (List ℕ)) (n m : ℕ) (a : Stop all n) (b : Stop all m) → AreSame a.front b.front a.rest b.rest
same_stop all n m a b = elim (fronts a.front b.front a.rest b.rest (sym a.split ∙ b.split)) [
  | inl s ↦ s
  | inr l ↦ elim l [ inl k ↦ absurd (not_longer all n m a b k) | inr k ↦ absurd (not_longer all m n b a k) ]
]

same_line : (all : List (List ℕ)) (n m : ℕ) (a : Stop all n) (b : Stop all m) → n ≡ m
same_line all n m a b = a.line ∙ (ap (λ f. length f + 1) (same_stop all n m a b).front ∙ sym b.line)

end_stop : (all : List (List ℕ)) (n : ℕ) → IsEndAt all n → Stop all n
end_stop all n e = record {
  front = e.front;
  rest = e.rest ∷ [];
  split = e.split;
  line = e.line;
  before = e.before;
  some = λ h. cc;
  stops = λ t w v h g k. none w v (let s : [] ≡ w ++ v = cc in s) g;
}
  where
    none : (w v : List (List ℕ)) → [] ≡ w ++ v → v ≢ [] → ⊥
    none [] v h g = g (sym h)
    none (t ∷ w) v h g = cc

fault_stop : (Kind : List (List ℕ) → List ℕ → Type 0) (all : List (List ℕ)) (n : ℕ) → IsFaultAt Kind all n → Stop all n
fault_stop Kind all n e = record {
  front = e.front;
  rest = e.text ∷ e.more;
  split = e.split;
  line = e.line;
  before = e.before;
  some = λ h. cc;
  stops = λ t w v h g k. let same : t ≡ e.text = cc in e.here (subst (λ y. IsViable (e.front ++ y ∷ [])) same k);
}

more_stop : (all : List (List ℕ)) (n : ℕ) → IsMoreAt all n → Stop all n
more_stop all n e = record {
  front = e.front;
  rest = e.text ∷ e.more;
  split = e.split;
  line = e.line;
  before = (e.whole.0, [], e.whole.1, e.whole.2 ∙ end e.front);
  some = λ h. cc;
  stops = λ t w v h g k. read_past k.0 e.whole.0 e.front k.1 t k.2 e.whole.1 e.whole.2 k.3;
}
  where
    end : (f : List (List ℕ)) → f ≡ f ++ []
    end [] = refl
    end (t ∷ f) = ap (λ x. t ∷ x) (end f)

-- two kinds of faults exclude each other
no_end : (Kind : List (List ℕ) → List ℕ → Type 0) (all : List (List ℕ)) (n m : ℕ) → IsEndAt all n → IsFaultAt Kind all m
    → ⊥
unfolding end_stop fault_stop
no_end Kind all n m a b = let s = same_stop all n m (end_stop all n a) (fault_stop Kind all m b) in let h = s.rest in
    let none : b.more ≡ [] = cc in b.fed none

not_both : (all : List (List ℕ)) (n m : ℕ) → IsFaultAt HasNoForm all n → IsFaultAt HasForm all m → ⊥
unfolding fault_stop
not_both all n m a b =
    let s = same_stop all n m (fault_stop HasNoForm all n a) (fault_stop HasForm all m b) in
    let h = s.rest in let text : b.text ≡ a.text = cc in
    a.kind (subst (λ y. HasForm y a.text) (sym s.front) (subst (HasForm b.front) text b.kind))

end_not_more : (all : List (List ℕ)) (n m : ℕ) → IsEndAt all n → IsMoreAt all m → ⊥
unfolding more_stop end_stop
end_not_more all n m a b = a.due
    (subst IsWhole (sym (same_stop all n m (end_stop all n a) (more_stop all m b)).front) b.whole)

fault_not_more : (Kind : List (List ℕ) → List ℕ → Type 0) (all : List (List ℕ)) (n m : ℕ) → IsFaultAt Kind all n
    → IsMoreAt all m → ⊥
unfolding more_stop fault_stop
fault_not_more Kind all n m a b =
    a.due (subst IsWhole (sym (same_stop all n m (fault_stop Kind all n a) (more_stop all m b)).front) b.whole)

odd_stop : (all : List (List ℕ)) (n : ℕ) → IsFaultAt HasForm all n ⊎ IsMoreAt all n → Stop all n
odd_stop all n e = elim e [ inl a ↦ fault_stop HasForm all n a | inr a ↦ more_stop all n a ]

-- a fault of a text is its only one
pub alone : (bytes : List ℕ) (f g : CertFault) → f ≢ fault.Memory → g ≢ fault.Memory → JudgesLines bytes (Err f)
    → JudgesLines bytes (Err g) → g ≡ f
alone bytes fault.Memory g a b j k = absurd (a refl)
alone bytes fault.OldVersion g a b j k = absurd j
alone bytes f fault.OldVersion a b j k = absurd k
alone bytes (fault.CertEnd n) fault.Memory a b j k = absurd (b refl)
alone bytes (fault.BadCertLine n) fault.Memory a b j k = absurd (b refl)
alone bytes (fault.NotCanonical n) fault.Memory a b j k = absurd (b refl)
alone bytes (fault.CertEnd n) (fault.CertEnd m) a b j k =
    ap fault.CertEnd (same_line (parts 10 bytes) m n (end_stop (parts 10 bytes) m k) (end_stop (parts 10 bytes) n j))
alone bytes (fault.CertEnd n) (fault.BadCertLine m) a b j k = absurd (no_end HasNoForm (parts 10 bytes) n m j k)
alone bytes (fault.CertEnd n) (fault.NotCanonical m) a b j k =
    elim k [
      | inl o ↦ absurd (no_end HasForm (parts 10 bytes) n m j o)
      | inr o ↦
          absurd (end_not_more (parts 10 bytes) n m j o)
    ]
alone bytes (fault.BadCertLine n) (fault.CertEnd m) a b j k = absurd (no_end HasNoForm (parts 10 bytes) m n k j)
alone bytes (fault.BadCertLine n) (fault.BadCertLine m) a b j k =
    ap fault.BadCertLine (same_line (parts 10 bytes) m n (fault_stop HasNoForm (parts 10 bytes) m k)
    (fault_stop HasNoForm (parts 10 bytes) n j))
alone bytes (fault.BadCertLine n) (fault.NotCanonical m) a b j k =
    elim k [
      | inl o ↦ absurd (not_both (parts 10 bytes) n m j o)
      | inr o ↦
          absurd (fault_not_more HasNoForm (parts 10 bytes) n m j o)
    ]
alone bytes (fault.NotCanonical n) (fault.CertEnd m) a b j k =
    elim j [
      | inl o ↦ absurd (no_end HasForm (parts 10 bytes) m n k o)
      | inr o ↦
          absurd (end_not_more (parts 10 bytes) m n k o)
    ]
alone bytes (fault.NotCanonical n) (fault.BadCertLine m) a b j k =
    elim j [
      | inl o ↦ absurd (not_both (parts 10 bytes) m n k o)
      | inr o ↦
          absurd (fault_not_more HasNoForm (parts 10 bytes) m n k o)
    ]
alone bytes (fault.NotCanonical n) (fault.NotCanonical m) a b j k =
    ap fault.NotCanonical (same_line (parts 10 bytes) m n (odd_stop (parts 10 bytes) m k)
    (odd_stop (parts 10 bytes) n j))
