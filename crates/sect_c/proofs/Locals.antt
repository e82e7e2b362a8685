-- The locals of threads in C can be read back.
use Rattle.std.proofs.Common.{◌≡◌, ◌<◌, ◌≤◌, ◌+◌, ℕ, true, false, List, [], ◌∷◌, ◌++◌, refl, codes, length}
use Rattle.std.proofs.Common.{sym, ap, ◌∙◌, arith, subst, slice_index_or, eqb, ◌⊎◌, inl, inr, ◌≢◌}
use Rattle.std.specs.{Prelude.{⊤}, Fmt.{decimal}}
use Rattle.std.proofs.lemmas.Bool.Decides.{eqb_tells}
use Rattle.sect_front.specs.Words.{is_name_byte}
use Rattle.sect_types.specs.Programs.{ProgramView}
use Rattle.sect_emit.specs.Labels.{record_name, thread_name}
use Rattle.sect_names.specs.Printing.{local_at}
use Rattle.sect_c.specs.Told.{AreNames, NamesTell, DeclareAlike}
use Rattle.sect_c.specs.Pairs.{EachFrom, PairsFrom}
use Rattle.sect_c.specs.Whole.{TopsAlike}
use Rattle.sect_c.proofs.Premises.{IsThere}
use Rattle.sect_c.specs.Naming.{type_c, local_c}
use Rattle.sect_c.specs.Sections.{local_line, first_value_c, thread_opening_c}
use Rattle.sect_types.specs.declared.declarations.types.ValueType.{ValueType}
use Rattle.sect_types.specs.declared.declarations.types.ValueType.TheVariants.{Int, Refers}
use Rattle.sect_c.proofs.Reading.{Reads, Any, Stops, told, next, until, ends, behind, only, apart, spelled}
use Rattle.sect_c.proofs.Reading.{parted}
use Rattle.sect_c.proofs.Lists.{listed}

-- the records of two programs, by their names
pub record RecordsAlike (p q : ProgramView) : Type 0 where
  pub count : length p.records ≡ length q.records
  pub names : (r : ℕ) → record_name p.source r ≡ record_name q.source r

module _ (p q : ProgramView) (np : AreNames p.source) (nq : AreNames q.source) (tell : NamesTell p)
    (records : RecordsAlike p q) where
  pub type_read : (x y : ValueType) → IsThere p x → IsThere q y → Reads Any (type_c p.source x) (type_c q.source y)
      (x ≡ y)
  type_read Int Int a b = told (only (codes "int64_t ")) (λ h. refl)
  type_read (Refers r) (Refers s) a b =
      told (ends (behind (codes "struct r_") (spelled is_name_byte (record_name p.source r) (record_name q.source s)
      (np.records r) (nq.records s))) (codes " *") (λ xs. refl))
      (λ h. ap Refers (tell.records r s a (subst (λ n. s < n) (sym records.count) b) (h ∙ sym (records.names s))))
  type_read x y a b = apart (type_c p.source x) (type_c q.source y) refl

  name_read : (u x : ℕ) → Reads (Stops is_name_byte) (local_c p.source u x) (local_c q.source u x)
      ((local_at p.source u x).name ≡ (local_at q.source u x).name)
  name_read u x =
      behind (codes "l" ++ decimal x ++ codes "_") (spelled is_name_byte (local_at p.source u x).name
      (local_at q.source u x).name (np.locals u x) (nq.locals u x))

  -- what is told of a local
  abbrev pub LocalTold : ℕ → ℕ → ValueType → ValueType → Type 0
  LocalTold u x a b = (a ≡ b) × ((local_at p.source u x).name ≡ (local_at q.source u x).name)

  first_read : (x y : ValueType) → Reads Any (first_value_c x) (first_value_c y) ⊤
  first_read Int Int = only (codes " = 0; (void)")
  first_read (Refers r) (Refers s) = only (codes " = NULL; (void)")
  first_read x y = apart (first_value_c x) (first_value_c y) refl

  first_stops : (x : ValueType) (xs : List ℕ) → Stops is_name_byte (first_value_c x ++ xs)
  first_stops Int xs = refl
  first_stops (Refers r) xs = refl

  local_line_read : (u x : ℕ) (a b : ValueType) → IsThere p a → IsThere q b
      → Reads Any (local_line p u x a) (local_line q u x b) (LocalTold u x a b)
  local_line_read u x a b f g =
      let t = next (behind (codes "  ") (type_read a b f g)) (name_read u x) in
      let v = until t (λ xs h. first_stops a xs) (λ xs h. first_stops b xs) (first_read a b) in
      told {Q = LocalTold u x a b} (ends (next v (name_read u x)) (codes ";\n") (λ xs. refl)) (λ h. (h.0.0.0, h.0.0.1))

  line_or_fuel : (r : ProgramView) (u : ℕ) (xs : List ℕ) (n : ℕ) (a : ValueType) (ys : List ℕ)
      → codes "  uint64_t fuel = me->fuel; (void)fuel;\n  enum sect_end end = SECT_DONE;\n  goto n0;\n" ++ xs
      ≡ local_line r u n a ++ ys → ⊥
  line_or_fuel r u xs n Int ys e =
      parted (codes "  uint64_t fuel = me->fuel; (void)fuel;\n  enum sect_end end = SECT_DONE;\n  goto n0;\n")
      (local_line r u n Int) xs ys refl e
  line_or_fuel r u xs n (Refers k) ys e =
      parted (codes "  uint64_t fuel = me->fuel; (void)fuel;\n  enum sect_end end = SECT_DONE;\n  goto n0;\n")
      (local_line r u n (Refers k)) xs ys refl e

  pub opening_read : (u : ℕ)
      → EachFrom (λ x t. IsThere p t) 0 (slice_index_or p.locals u [])
      → EachFrom (λ x t. IsThere q t) 0 (slice_index_or q.locals u [])
      → Reads Any (thread_opening_c p u) (thread_opening_c q u)
      (PairsFrom (LocalTold u) 0 (slice_index_or p.locals u []) (slice_index_or q.locals u []))
  opening_read u a b =
      let head = ends (behind (codes "\n/* thread ")
      (spelled is_name_byte (thread_name p.source u) (thread_name q.source u)
      (np.threads u) (nq.threads u))) (codes " */\nstatic void thread_") (λ xs. refl) in
      let begun = ends (ends head (decimal u) (λ xs. tt)) (codes "(struct sect_thread *me) {\n") (λ xs. tt) in
      let lines = listed Any (LocalTold u) (λ x t. IsThere p t) (λ x t. IsThere q t) (local_line p u) (local_line q u)
      (λ n t zs is. tt) (λ n t zs is. tt) (λ n s t f g. local_line_read u n s t f g) 0
      (slice_index_or p.locals u [])
      (slice_index_or q.locals u []) a b in
      told (ends (next begun lines)
      (codes "  uint64_t fuel = me->fuel; (void)fuel;\n  enum sect_end end = SECT_DONE;\n  goto n0;\n")
      (λ xs. ((λ n t ys is e. line_or_fuel p u xs n t ys e), (λ n t ys is e. line_or_fuel q u xs n t ys e), tt)))
      (λ h. h.1)

pub of_tops : (p q : ProgramView) → TopsAlike p q → RecordsAlike p q
of_tops p q h = record { count = ap length h.records; names = h.record_names }

le_cases : (n k : ℕ) → n ≤ k → (n ≡ k) ⊎ (n + 1 ≤ k)
le_cases n k a = go (eqb_tells n k)
  where
    go : ((eqb n k ≡ true) × (n ≡ k)) ⊎ ((eqb n k ≡ false) × (n ≢ k)) → (n ≡ k) ⊎ (n + 1 ≤ k)
    go (inl e) = inl e.1
    go (inr e) = inr (let ne = e.1 in omega arith)

module _ (p q : ProgramView) (np : AreNames p.source) (nq : AreNames q.source) (tell : NamesTell p)
    (tops : TopsAlike p q) (u : ℕ) where
  abbrev pub Told : ℕ → ValueType → ValueType → Type 0
  Told = LocalTold p q np nq tell (of_tops p q tops) u

  locals_one : (n : ℕ) (xs ys : List ValueType) → PairsFrom Told n xs ys → xs ≡ ys
  locals_one n [] [] h = refl
  locals_one n [] (y ∷ ys) h = absurd h
  locals_one n (x ∷ xs) [] h = absurd h
  locals_one n (x ∷ xs) (y ∷ ys) h = ap (λ z. z ∷ xs) h.0.0 ∙ ap (λ z. y ∷ z) (locals_one (n + 1) xs ys h.1)

  names_one : (n : ℕ) (xs ys : List ValueType) → PairsFrom Told n xs ys → (k : ℕ) → n ≤ k → k < n + length ys
      → (local_at p.source u k).name ≡ (local_at q.source u k).name
  names_one n [] [] h k a b = absurd (omega arith)
  names_one n [] (y ∷ ys) h k a b = absurd h
  names_one n (x ∷ xs) [] h k a b = absurd h
  names_one n (x ∷ xs) (y ∷ ys) h k a b = go (le_cases n k a) (λ l. names_one (n + 1) xs ys h.1 k l (omega arith))
    where
      go : (n ≡ k) ⊎ (n + 1 ≤ k)
          → (n + 1 ≤ k → (local_at p.source u k).name ≡ (local_at q.source u k).name)
          → (local_at p.source u k).name ≡ (local_at q.source u k).name
      go (inl e) f = subst (λ i. (local_at p.source u i).name ≡ (local_at q.source u i).name) e h.0.1
      go (inr l) f = f l

  pub alike_by : PairsFrom Told 0 (slice_index_or p.locals u []) (slice_index_or q.locals u []) → DeclareAlike p q u
  alike_by h = record {
    records = tops.records;
    globals = tops.globals;
    locals = locals_one 0 (slice_index_or p.locals u []) (slice_index_or q.locals u []) h;
    record_names = tops.record_names;
    local_names = λ x l. names_one 0 (slice_index_or p.locals u []) (slice_index_or q.locals u []) h x (omega arith)
        (omega arith);
    global_names = tops.global_names;
    field_names = tops.field_names;
  }
