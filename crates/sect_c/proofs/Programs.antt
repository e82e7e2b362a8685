-- Whole programs in C can be read back.
use Rattle.std.proofs.Common.{◌≡◌, ◌<◌, ◌≤◌, ◌+◌, ℕ, zero, suc, List, [], ◌∷◌, ◌++◌, refl, codes, length}
use Rattle.std.proofs.Common.{sym, ap, ◌∙◌, arith, subst, append_assoc, slice_index_or, ◌⊎◌, inl, inr}
use Rattle.std.proofs.lemmas.{List.{append_cancel_left}, Bool.{cases_lt}}
use Rattle.std.specs.{Prelude.{⊤}, List.{AllByRecursion}}
use Rattle.sect_types.specs.Programs.{ProgramView}
use Rattle.sect_emit.specs.Compiled.{CompiledView, program_of}
use Rattle.sect_conflicts.specs.Taken.{TakenView, looked_of}
use Rattle.sect_types.specs.Statements.{TextView}
use Rattle.sect_emit.specs.Listing.{by_number}
use Rattle.sect_emit.specs.Labels.{record_name}
use Rattle.sect_names.specs.Printing.{global_name, field_name}
use Rattle.sect_graph.specs.Layout.{flow_nodes}
use Rattle.sect_c.specs.Pairs.{PairsFrom}
use Rattle.sect_c.specs.Back.{AreWhole}
use Rattle.sect_c.specs.Whole.{TopsAlike, IsOneThread, AreOneProgram, TextsTellPrograms}
use Rattle.sect_c.proofs.Legible.{legible}
use Rattle.sect_c.proofs.Premises.{IsThere, IsLegible, FitsGraph}
use Rattle.sect_c.specs.Declarations.{opening_c, structure_c, global_line}
use Rattle.sect_c.specs.Declarations.{plan_c}
use Rattle.sect_c.specs.Sections.{thread_c}
use Rattle.sect_c.specs.Programs.{wholes_c, declarations_c, head_c, runtime_c, fields_c, main_c}
use Rattle.sect_c.specs.Words.{words_c}
use Rattle.sect_types.specs.declared.expansion.action.Field.{Field}
use Rattle.sect_types.specs.declared.declarations.types.ValueType.{ValueType}
use Rattle.sect_types.specs.declared.declarations.types.ValueType.TheVariants.{Int}
use Rattle.sect_emit.specs.declared.plan.Grip.{Grip}
use Rattle.sect_c.proofs.Reading.{Any, told, parted}
use Rattle.sect_c.proofs.Lists.{number_cons, each_all, listed, one_list, pairs_length, first_pair, each_true}
use Rattle.sect_c.proofs.Plans.{plan_read}
use Rattle.sect_c.proofs.Locals.{RecordsAlike}
use Rattle.sect_c.proofs.ThreadTexts.{thread_read}
use Rattle.sect_c.proofs.Tops.{IsStatic, statics, wholes_static, records_end, open_read, global_read, whole_or_global}
use Rattle.sect_c.proofs.Tops.{static_or_structure, wholes_read, FieldTold, structure_read}

-- a line ends here
abbrev pub IsLine : List ℕ → Type 0
IsLine xs = (rest : List ℕ) × (xs ≡ codes "\n" ++ rest)

pub line_or_plan : (xs ys : List ℕ) (n : ℕ) (part : List Grip) → IsLine xs → xs ≡ plan_c n part ++ ys → ⊥
line_or_plan xs ys n part h e = parted (codes "\n") (plan_c n part) h.0 ys refl (sym h.1 ∙ e)

module _ (c d : CompiledView) (taken given : TakenView) (a : IsLegible c taken) (b : IsLegible d given) where
  abbrev p : ProgramView
  p = program_of c

  abbrev q : ProgramView
  q = program_of d

  abbrev NameTold : ℕ → List ValueType → List ValueType → Type 0
  NameTold r fs gs = record_name p.source r ≡ record_name q.source r

  abbrev FieldsTold : RecordsAlike p q → ℕ → List ValueType → List ValueType → Type 0
  FieldsTold h r fs gs = PairsFrom (FieldTold p q a.names b.names a.tell h (looked_of taken) (looked_of given) r) 0 fs
      gs

  abbrev GlobalTold : ℕ → ℕ → ℕ → Type 0
  GlobalTold g r s = (r ≡ s) × (global_name p.source g ≡ global_name q.source g)

  -- the names of records
  names_told : PairsFrom NameTold 0 p.records q.records → RecordsAlike p q
  names_told h = record {
    count = pairs_length NameTold 0 p.records q.records h;
    names = λ r. go r (cases_lt r (length q.records));
  }
    where
      go : (r : ℕ) → (r < length q.records) ⊎ (length q.records ≤ r) → record_name p.source r ≡ record_name q.source r
      go r (inl l) = first_pair NameTold p.records q.records h r l [] []
      go r (inr l) =
          a.ends.records r (let e = pairs_length NameTold 0 p.records q.records h in omega (arith, e))
          ∙ sym (b.ends.records r l)

  openings_read : (xs ys : List ℕ) → IsStatic xs → IsStatic ys
      → by_number (opening_c p) 0 p.records ++ (by_number (structure_c p (looked_of taken)) 0 p.records ++ xs)
      ≡ by_number (opening_c q) 0 q.records ++ (by_number (structure_c q (looked_of given)) 0 q.records ++ ys)
      → RecordsAlike p q × (by_number (structure_c p (looked_of taken)) 0 p.records ++ xs
      ≡ by_number (structure_c q (looked_of given)) 0 q.records ++ ys)
  openings_read xs ys s t e =
      let one = (listed Any NameTold (λ r fs. ⊤) (λ r fs. ⊤) (opening_c p) (opening_c q) (λ n f zs is. tt)
      (λ n f zs is. tt) (λ n f g u v. open_read p q a.names b.names n f g) 0 p.records q.records
      (each_true 0 p.records) (each_true 0 q.records)).read _ _ (
        (λ n f zs is h. records_end p p a.names a.names (looked_of taken) 0 p.records xs s n f zs h),
        (λ n f zs is h. records_end q p b.names a.names (looked_of taken) 0 p.records xs s n f zs h),
        tt,
      ) (
        (λ n f zs is h. records_end p q a.names b.names (looked_of given) 0 q.records ys t n f zs h),
        (λ n f zs is h. records_end q q b.names b.names (looked_of given) 0 q.records ys t n f zs h),
        tt,
      ) e in
      (names_told one.0, one.1)

  structures_read : (h : RecordsAlike p q) → (xs ys : List ℕ) → IsStatic xs → IsStatic ys
      → by_number (structure_c p (looked_of taken)) 0 p.records ++ xs
      ≡ by_number (structure_c q (looked_of given)) 0 q.records ++ ys
      → PairsFrom (FieldsTold h) 0 p.records q.records × (xs ≡ ys)
  structures_read h xs ys s t e =
      (listed Any (FieldsTold h) (λ r fs. AllByRecursion (IsThere p) fs) (λ r fs. AllByRecursion (IsThere q) fs)
      (structure_c p (looked_of taken)) (structure_c q (looked_of given)) (λ n f zs is. tt) (λ n f zs is. tt)
      (λ n f g u v. structure_read p q a.names b.names a.tell h (looked_of taken) (looked_of given) n f g u v) 0
      p.records
      q.records (each_all (λ fs. AllByRecursion (IsThere p) fs) 0 p.records a.records)
      (each_all (λ fs. AllByRecursion (IsThere q) fs) 0 q.records b.records)).read xs ys (
        (λ n f zs is k. static_or_structure p (looked_of taken) n f xs zs s k),
        (λ n f zs is k. static_or_structure q (looked_of given) n f xs zs s k),
        tt,
      ) (
        (λ n f zs is k. static_or_structure p (looked_of taken) n f ys zs t k),
        (λ n f zs is k. static_or_structure q (looked_of given) n f ys zs t k),
        tt,
      ) e

  globals_read : (xs ys : List ℕ) → by_number (global_line p) 0 p.globals ++ (wholes_c p ++ xs)
      ≡ by_number (global_line q) 0 q.globals ++ (wholes_c q ++ ys)
      → PairsFrom GlobalTold 0 p.globals q.globals × (xs ≡ ys)
  globals_read xs ys e =
      let one = (listed Any GlobalTold (λ g r. r < 65536) (λ g r. r < 65536) (global_line p) (global_line q)
      (λ n f zs is. tt) (λ n f zs is. tt) (λ n r s u v. global_read p q a.names b.names n r s u v) 0 p.globals
      q.globals
      (each_all (λ r. r < 65536) 0 p.globals a.globals) (each_all (λ r. r < 65536) 0 q.globals b.globals)).read
      (wholes_c p ++ xs) (wholes_c q ++ ys)
      ((λ n r zs is h. whole_or_global p p xs n r zs h), (λ n r zs is h. whole_or_global p q xs n r zs h), tt)
      ((λ n r zs is h. whole_or_global q p ys n r zs h), (λ n r zs is h. whole_or_global q q ys n r zs h), tt) e in
      let two = (wholes_read p q a.sites b.sites).read xs ys tt tt one.1 in
      (one.0, two.1)

  parts_read : (xs ys : List ℕ) → IsLine xs → IsLine ys
      → by_number plan_c 0 taken.parts ++ xs ≡ by_number plan_c 0 given.parts ++ ys
      → (taken.parts ≡ given.parts) × (xs ≡ ys)
  parts_read xs ys s t e =
      let one = (listed Any (λ i x y. x ≡ y) (λ i part. (i < 65536) × AreWhole part)
      (λ i part. (i < 65536) × AreWhole part) plan_c plan_c (λ n f zs is. tt) (λ n f zs is. tt)
      (λ n x y u v. told (plan_read n n x y u.0 v.0 u.1 v.1) (λ h. h.1)) 0 taken.parts given.parts a.parts
      b.parts).read xs ys
      ((λ n x zs is h. line_or_plan xs zs n x s h), (λ n x zs is h. line_or_plan xs zs n x s h), tt)
      ((λ n x zs is h. line_or_plan ys zs n x t h), (λ n x zs is h. line_or_plan ys zs n x t h), tt) e in
      (one_list 0 taken.parts given.parts one.0, one.1)

  -- declarations of programs that agree on them
  row_one : (h : RecordsAlike p q) (r n : ℕ) (fs gs : List ValueType)
      → PairsFrom (FieldTold p q a.names b.names a.tell h (looked_of taken) (looked_of given) r) n fs gs → fs ≡ gs
  row_one h r n [] [] k = refl
  row_one h r n [] (y ∷ ys) k = absurd k
  row_one h r n (x ∷ xs) [] k = absurd k
  row_one h r n (x ∷ xs) (y ∷ ys) k = ap (λ z. z ∷ xs) k.0.0 ∙ ap (λ z. y ∷ z) (row_one h r (n + 1) xs ys k.1)

  rows_one : (h : RecordsAlike p q) (n : ℕ) (xs ys : List (List ValueType)) → PairsFrom (FieldsTold h) n xs ys → xs ≡ ys
  rows_one h n [] [] k = refl
  rows_one h n [] (y ∷ ys) k = absurd k
  rows_one h n (x ∷ xs) [] k = absurd k
  rows_one h n (x ∷ xs) (y ∷ ys) k =
      ap (λ z. z ∷ xs) (row_one h n 0 x y k.0) ∙ ap (λ z. y ∷ z) (rows_one h (n + 1) xs ys k.1)

  globals_one : (n : ℕ) (xs ys : List ℕ) → PairsFrom GlobalTold n xs ys → xs ≡ ys
  globals_one n [] [] k = refl
  globals_one n [] (y ∷ ys) k = absurd k
  globals_one n (x ∷ xs) [] k = absurd k
  globals_one n (x ∷ xs) (y ∷ ys) k = ap (λ z. z ∷ xs) k.0.0 ∙ ap (λ z. y ∷ z) (globals_one (n + 1) xs ys k.1)

  beyond_row : (k n : ℕ) (rs : List (List ValueType)) → length rs ≤ k → length (slice_index_or rs k []) ≤ n
  beyond_row k n [] l = omega arith
  beyond_row zero n (r ∷ rs) l = absurd (omega arith)
  beyond_row (suc k) n (r ∷ rs) l = beyond_row k n rs (omega arith)

  field_names_told : (h : RecordsAlike p q) → PairsFrom (FieldsTold h) 0 p.records q.records → (f : Field)
      → field_name p.source f ≡ field_name q.source f
  field_names_told h k f = go (cases_lt f.of (length q.records))
      (cases_lt f.number (length (slice_index_or q.records f.of [])))
    where
      same : p.records ≡ q.records
      same = rows_one h 0 p.records q.records k

      beyond : length (slice_index_or q.records f.of []) ≤ f.number → field_name p.source f ≡ field_name q.source f
      beyond l =
          a.ends.fields f (subst (λ (rs : List (List ValueType)). length (slice_index_or rs f.of []) ≤ f.number)
          (sym same) l)
          ∙ sym (b.ends.fields f l)

      go : (f.of < length q.records) ⊎ (length q.records ≤ f.of)
          → (f.number < length (slice_index_or q.records f.of []))
          ⊎ (length (slice_index_or q.records f.of []) ≤ f.number)
          → field_name p.source f ≡ field_name q.source f
      go (inl i) (inl j) =
          let row = first_pair (FieldsTold h) p.records q.records k f.of i [] [] in
          (first_pair (FieldTold p q a.names b.names a.tell h (looked_of taken) (looked_of given) f.of)
          (slice_index_or p.records f.of []) (slice_index_or q.records f.of []) row f.number j Int Int).1
      go (inl i) (inr j) = beyond j
      go (inr i) j = beyond (beyond_row f.of f.number q.records i)

  global_names_told : PairsFrom GlobalTold 0 p.globals q.globals → (g : ℕ)
      → global_name p.source g ≡ global_name q.source g
  global_names_told h g = go (cases_lt g (length q.globals))
    where
      go : (g < length q.globals) ⊎ (length q.globals ≤ g) → global_name p.source g ≡ global_name q.source g
      go (inl l) = (first_pair GlobalTold p.globals q.globals h g l 0 0).1
      go (inr l) =
          a.ends.globals g (let e = pairs_length GlobalTold 0 p.globals q.globals h in omega (arith, e))
          ∙ sym (b.ends.globals g l)

  tops_told : (h : RecordsAlike p q) → PairsFrom (FieldsTold h) 0 p.records q.records
      → PairsFrom GlobalTold 0 p.globals q.globals → TopsAlike p q
  tops_told h k l = record {
    records = rows_one h 0 p.records q.records k;
    globals = globals_one 0 p.globals q.globals l;
    record_names = h.names;
    global_names = global_names_told l;
    field_names = field_names_told h k;
  }

  declared : (a b c d e xs : List ℕ) → (a ++ b ++ c ++ d ++ e) ++ xs ≡ a ++ (b ++ (c ++ (d ++ (e ++ xs))))
  declared a b c d e xs = simp append_assoc

  tops_read : (xs ys : List ℕ) → IsLine xs → IsLine ys → declarations_c c taken ++ xs ≡ declarations_c d given ++ ys
      → TopsAlike p q × (taken.parts ≡ given.parts) × (xs ≡ ys)
  tops_read xs ys s t e =
      let o1 = by_number (opening_c p) 0 p.records in
      let o2 = by_number (opening_c q) 0 q.records in
      let s1 = by_number (structure_c p (looked_of taken)) 0 p.records in
      let s2 = by_number (structure_c q (looked_of given)) 0 q.records in
      let g1 = by_number (global_line p) 0 p.globals in
      let g2 = by_number (global_line q) 0 q.globals in
      let p1 = by_number plan_c 0 taken.parts in
      let p2 = by_number plan_c 0 given.parts in
      let r1 = statics p 0 p.globals (wholes_c p ++ (p1 ++ xs)) (wholes_static p (p1 ++ xs)) in
      let r2 = statics q 0 q.globals (wholes_c q ++ (p2 ++ ys)) (wholes_static q (p2 ++ ys)) in
      let one = openings_read (g1 ++ (wholes_c p ++ (p1 ++ xs))) (g2 ++ (wholes_c q ++ (p2 ++ ys))) r1 r2
      (sym (declared o1 s1 g1 (wholes_c p) p1 xs) ∙ (e ∙ declared o2 s2 g2 (wholes_c q) p2 ys)) in
      let two = structures_read one.0 (g1 ++ (wholes_c p ++ (p1 ++ xs))) (g2 ++ (wholes_c q ++ (p2 ++ ys))) r1 r2 one.1
      in
      let three = globals_read (p1 ++ xs) (p2 ++ ys) two.1 in
      let four = parts_read xs ys s t three.1 in
      (tops_told one.0 two.0 three.0, four.0, four.1)

  -- behind the tables of keys stands a line of its own
  lines : (r : CompiledView) (t : TakenView) (u : ℕ) (texts : List TextView) (zs : List ℕ) → IsLine zs
      → IsLine (by_number (thread_c r t) u texts ++ zs)
  lines r t u [] zs h = h
  lines r t u (x ∷ texts) zs h = (
    _,
    ap (λ w. w ++ zs) (number_cons (thread_c r t) u x texts)
        ∙ append_assoc (thread_c r t u x) (by_number (thread_c r t) (u + 1) texts) zs,
  )

  fields_or_thread : (r : CompiledView) (t : TakenView) (o : ProgramView) (looked : List Field) (xs : List ℕ) (u : ℕ)
      (x : TextView) (ys : List ℕ) → fields_c o looked ++ xs ≡ thread_c r t u x ++ ys → ⊥
  fields_or_thread r t o looked xs u x ys e = parted (fields_c o looked) (thread_c r t u x) xs ys refl e

  -- a thread and its locals
  abbrev IsA : (r : CompiledView) → ℕ → TextView → Type 0
  IsA r u x = FitsGraph (program_of r) u (flow_nodes x)

  threads_read : (tops : TopsAlike p q) → taken.parts ≡ given.parts → (xs ys : List ℕ)
      → by_number (thread_c c taken) 0 p.texts ++ (fields_c p (looked_of taken) ++ xs)
      ≡ by_number (thread_c d given) 0 q.texts ++ (fields_c q (looked_of given) ++ ys)
      → PairsFrom (IsOneThread c d taken given) 0 p.texts q.texts
  threads_read tops parts xs ys e =
      let count = sym a.count ∙ (ap length parts ∙ b.count) in
      ((listed Any (IsOneThread c d taken given) (IsA c) (IsA d) (thread_c c taken) (thread_c d given) (λ n x zs is. tt)
      (λ n x zs is. tt) (λ u x y f g. thread_read c d taken given a.names b.names a.tell tops count a.sections
      b.sections u x y
      (each_all (IsThere p) 0 (slice_index_or p.locals u []) (a.locals u))
      (each_all (IsThere q) 0 (slice_index_or q.locals u []) (b.locals u)) f g) 0 p.texts q.texts a.threads
      b.threads).read
      (fields_c p (looked_of taken) ++ xs) (fields_c q (looked_of given) ++ ys) (
        (λ u x zs is h. fields_or_thread c taken p (looked_of taken) xs u x zs h),
        (λ u x zs is h. fields_or_thread d given p (looked_of taken) xs u x zs h),
        tt,
      ) (
        (λ u x zs is h. fields_or_thread c taken q (looked_of given) ys u x zs h),
        (λ u x zs is h. fields_or_thread d given q (looked_of given) ys u x zs h),
        tt,
      ) e).0

  ordered : (x d t f m : List ℕ) → x ++ d ++ t ++ f ++ m ≡ x ++ (d ++ (t ++ (f ++ m)))
  ordered x d t f m = simp append_assoc

  whole : (head : List ℕ) → head ++ declarations_c c taken ++ by_number (thread_c c taken) 0 p.texts
      ++ fields_c p (looked_of taken) ++ main_c p
      ≡ head ++ declarations_c d given ++ by_number (thread_c d given) 0 q.texts ++ fields_c q (looked_of given)
      ++ main_c q
      → AreOneProgram c d taken given
  whole head e =
      let t1 = by_number (thread_c c taken) 0 p.texts in
      let t2 = by_number (thread_c d given) 0 q.texts in
      let f1 = fields_c p (looked_of taken) in
      let f2 = fields_c q (looked_of given) in
      let own = append_cancel_left head (declarations_c c taken ++ (t1 ++ (f1 ++ main_c p)))
      (declarations_c d given ++ (t2 ++ (f2 ++ main_c q)))
      (sym (ordered head (declarations_c c taken) t1 f1 (main_c p)) ∙ (e
      ∙ ordered head (declarations_c d given) t2 f2 (main_c q))) in
      let tops = tops_read (t1 ++ (f1 ++ main_c p)) (t2 ++ (f2 ++ main_c q))
      (lines c taken 0 p.texts (f1 ++ main_c p) (_, refl)) (lines d given 0 q.texts (f2 ++ main_c q) (_, refl)) own
      in
      record { tops = tops.0; parts = tops.1; threads = threads_read tops.0 tops.1 (main_c p) (main_c q) tops.2 }

pub texts_tell : TextsTellPrograms
texts_tell c d taken given a b e =
    whole c d taken given (legible c taken a) (legible d given b)
    (head_c ++ words_c ++ runtime_c ++ codes "\n/* ---- the program ---- */\n\n") e
