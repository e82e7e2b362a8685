-- What typing means for the numbers of a program.
use Rattle.std.specs.Prelude.{All, unwrap_or}
use Rattle.std.proofs.Common.{◌≡◌, ℕ, zero, suc, ◌+◌, ◌≤◌, ◌<◌, true, false, ◌&&◌, nat_le, List, [], ◌∷◌, ◌++◌, map}
use Rattle.std.proofs.Common.{length, length-append, refl, sym, ap, ◌∙◌, subst, arith, Option, Some, None, is_some}
use Rattle.std.proofs.{Common.{true≢false, slice_get}, lemmas.List.{length-map, map-append}}
use Rattle.std.proofs.lemmas.List.Elements.{All-nil, All-cons, All-append}
use Rattle.std.proofs.lemmas.Bool.{and_parts, leb-true}
use Rattle.sect_front.specs.{declared.tree.Kind.{Kind}, declared.tree.Record.{Record}}
use Rattle.sect_front.specs.{declared.tree.GlobalObject.{GlobalObject}, declared.tree.Declaration.{Declaration}}
use Rattle.sect_front.specs.{declared.tree.Procedure.{Procedure}, declared.tree.Thread.{Thread}}
use Rattle.sect_front.specs.{declared.tree.Locking.{Locking}, TreeView.{TreeView}}
use Rattle.sect_front.specs.Syntax.{StatementView, Primitive, If, IfElse, While, Atomic, Call, BlockView, End, Then}
use Rattle.sect_types.specs.{declared.declarations.types.ValueType.{ValueType}, declared.rules.place.Place.{Place}}
use Rattle.sect_types.specs.{declared.rules.place.Place.TheVariants.{InThread}, declared.counting.sums.Sums.{Sums}}
use Rattle.sect_types.specs.{Sight.{names_of_records, has_name, place}, Items.{deeper, in_section, variables}}
use Rattle.sect_types.specs.Rules.{Declared, Counts, declared_in, knows_kind}
use Rattle.sect_types.specs.Sums.{sums, sums_within, number_of, statement_sums, block_sums}
use Rattle.sect_types.specs.declared.expansion.expand.Fresh.{Fresh}
use Rattle.sect_types.specs.Expanded.{Freshens, of_call, statement_fresh, block_fresh, fresh_of, fresh_within, fresh_in}
use Rattle.sect_types.specs.Expanded.{texts_of, procedure_numbered, local_types_of, all_local_types, past_thread}
use Rattle.sect_types.specs.{Expanded.{block_sections, statement_sections, NextNumbers}, Statements.{TextView}}
use Rattle.sect_types.specs.Environments.{record_number, type_of, types_of, field_types, global_records, IsInRange}
use Rattle.sect_types.specs.{Sections.{AllSited}, Programs.{ProgramView, numbered_by, all_made, IsWellNumbered}}
use Rattle.sect_types.specs.Lockings.{statement_lockings, block_lockings, threads_lockings, lockings_of}
use Rattle.sect_types.specs.Limits.{most_all_locals, most_fields, most_locals}
use Rattle.sect_types.specs.steps.Written.{written_threads, written_texts}
use Rattle.sect_types.specs.steps.Listing.{all_known, fields_fine, locals_fine, globals_known}
use Rattle.sect_types.specs.steps.{Threads.{variables_fine}, Counted.{IsCounted}}
use Rattle.sect_types.specs.steps.Clean.{IsCleanStatement, IsCleanBlock, AreCleanThreads}
use Rattle.sect_types.proofs.{Heads.{placed}, SoundLemmas.{place_within}, Optional.{the}, ByNumbers.{texts_written}}
use Rattle.sect_types.proofs.{Readable.{texts_there}, StandingTypes.{fresh_types, call_types}, Walked.{text_clean}}
use Rattle.sect_types.proofs.SiteLaws.{typed_sites}
use Rattle.sect_types.proofs.SectionLaws.{block_flat, inside_section, sections_in, typed_sections, typed_section_count}
use Rattle.sect_types.proofs.{TypeLaws.{typed_sound}, EndCounts.{fine_typed, fine_counts}}
use Rattle.sect_types.proofs.WithinLimits.{AreFewTypes, typed_few_types, typed_within, typed_calls}
use Rattle.sect_types.proofs.Shallow.{typed_shallow}
use Rattle.sect_front.specs.declared.tree.Kind.TheVariants as kind

few_types : (records : List (List ℕ)) (ds : List Declaration) (n : ℕ)
    → (all_known records ds && nat_le (length ds) n) ≡ true → length (types_of records ds) ≤ n
few_types records ds n h =
    omega (
      arith,
      leb-true (length ds) n (and_parts (all_known records ds) (nat_le (length ds) n) h).1,
      length-map ds (λ (d : Declaration). type_of records d.kind),
    )

few_fields : (records : List (List ℕ)) (rs : List Record) → fields_fine records rs ≡ true
    → All (λ (ts : List ValueType). length ts ≤ most_fields) (field_types records rs)
few_fields records [] h = All-nil (λ (ts : List ValueType). length ts ≤ most_fields)
few_fields records (r ∷ rs) h =
    let parts = and_parts (all_known records r.fields && nat_le (length r.fields) most_fields)
    (fields_fine records rs) h in
    All-cons (λ (ts : List ValueType). length ts ≤ most_fields) (types_of records r.fields) (field_types records rs)
    (few_types records r.fields most_fields parts.0) (few_fields records rs parts.1)

-- what is known has a record
record_there : (x : List ℕ) (records : List (List ℕ)) → has_name x records ≡ true
    → record_number records x < length records
record_there x records h = by (place x records) refl (placed x records ∙ h)
  where
    by : (o : Option ℕ) → place x records ≡ o → is_some o ≡ true → unwrap_or o 0 < length records
    by (Some n) e g = place_within x records n e
    by None e g = absurd (true≢false (sym g))

type_there : (records : List (List ℕ)) (k : Kind) → knows_kind records k ≡ true
    → IsInRange (length records) (type_of records k)
type_there records kind.Int h = tt
type_there records (kind.Record r) h = record_there r records h

types_there : (records : List (List ℕ)) (ds : List Declaration) → all_known records ds ≡ true
    → All (IsInRange (length records)) (types_of records ds)
types_there records [] h = All-nil (IsInRange (length records))
types_there records (d ∷ ds) h =
    let parts = and_parts (knows_kind records d.kind) (all_known records ds) h in
    All-cons (IsInRange (length records)) (type_of records d.kind) (types_of records ds)
    (type_there records d.kind parts.0) (types_there records ds parts.1)

fields_there : (records : List (List ℕ)) (rs : List Record) → fields_fine records rs ≡ true
    → All (λ (ts : List ValueType). All (IsInRange (length records)) ts) (field_types records rs)
fields_there records [] h = All-nil (λ (ts : List ValueType). All (IsInRange (length records)) ts)
fields_there records (r ∷ rs) h =
    let parts = and_parts (all_known records r.fields && nat_le (length r.fields) most_fields)
    (fields_fine records rs) h in
    All-cons (λ (ts : List ValueType). All (IsInRange (length records)) ts) (types_of records r.fields)
    (field_types records rs)
    (types_there records r.fields (and_parts (all_known records r.fields) (nat_le (length r.fields) most_fields)
    parts.0).0)
    (fields_there records rs parts.1)

globals_there : (records : List (List ℕ)) (gs : List GlobalObject) → globals_known records gs ≡ true
    → All (λ (r : ℕ). r < length records) (global_records records gs)
globals_there records [] h = All-nil (λ (r : ℕ). r < length records)
globals_there records (g ∷ gs) h =
    let parts = and_parts (has_name g.of records) (globals_known records gs) h in
    All-cons (λ (r : ℕ). r < length records) (record_number records g.of) (global_records records gs)
    (record_there g.of records parts.0) (globals_there records gs parts.1)

-- the types of fresh locals are there, where those of each call are
abbrev AreThere : Declared → ℕ → List Fresh → Type 0
AreThere d n fs = All (IsInRange n) (fresh_types d fs)

both_there : (d : Declared) (n : ℕ) (xs ys : List Fresh) → AreThere d n xs → AreThere d n ys → AreThere d n (xs ++ ys)
both_there d n xs ys h g =
    let f : Fresh → ValueType = λ f. type_of (names_of_records d.records) f.declared.kind in
    subst (All (IsInRange n)) (sym (map-append f xs ys)) (All-append (IsInRange n) (map f xs) (map f ys) h g)

abbrev CallsThere : Declared → ℕ → Freshens → Type 0
CallsThere d n call = (q : Option ℕ) (c : ℕ) → AreThere d n (call q c)

mutual
  statement_there : (d : Declared) (n : ℕ) (ps : List Procedure) (table : List Sums) (call : Freshens)
      → CallsThere d n call
      → (c : ℕ) (s : StatementView) → AreThere d n (statement_fresh ps table call c s)
  statement_there d n ps table call h c (Primitive p) = All-nil (IsInRange n)
  statement_there d n ps table call h c (If t a) = block_there d n ps table call h c a
  statement_there d n ps table call h c (IfElse t a b) =
      both_there d n (block_fresh ps table call c a) _ (block_there d n ps table call h c a)
      (block_there d n ps table call h (c + (block_sums ps table a).calls) b)
  statement_there d n ps table call h c (While t a) = block_there d n ps table call h c a
  statement_there d n ps table call h c (Atomic l a) = block_there d n ps table call h c a
  statement_there d n ps table call h c (Call f vs) = h (number_of ps f) c

  block_there : (d : Declared) (n : ℕ) (ps : List Procedure) (table : List Sums) (call : Freshens) → CallsThere d n call
      → (c : ℕ) (b : BlockView) → AreThere d n (block_fresh ps table call c b)
  block_there d n ps table call h c End = All-nil (IsInRange n)
  block_there d n ps table call h c (Then s b) =
      both_there d n (statement_fresh ps table call c s) _ (statement_there d n ps table call h c s)
      (block_there d n ps table call h (c + (statement_sums ps table s).calls) b)

-- the variables of each procedure are known
procedure_known : (records : List (List ℕ)) (ps : List Procedure) (q : ℕ) (p : Procedure)
    → variables_fine records ps ≡ true
    → slice_get ps q ≡ Some p → all_known records (variables p) ≡ true
procedure_known records [] q p h e = absurd (cc)
procedure_known records (x ∷ ps) zero p h e =
    let same : x ≡ p = cc in
    let few = nat_le (length (variables x)) most_locals in
    let parts = and_parts (all_known records (variables x) && few) (variables_fine records ps) h in
    subst (λ y. all_known records (variables y) ≡ true) same
    (and_parts (all_known records (variables x)) few parts.0).0
procedure_known records (x ∷ ps) (suc q) p h e =
    procedure_known records ps q p
    (and_parts (all_known records (variables x) && nat_le (length (variables x)) most_locals)
    (variables_fine records ps)
    h).1 e

pub numbered_known : (records : List (List ℕ)) (ps : List Procedure) (q : Option ℕ) (p : Procedure)
    → variables_fine records ps ≡ true → procedure_numbered ps q ≡ Some p → all_known records (variables p) ≡ true
numbered_known records ps None p h e = absurd (cc)
numbered_known records ps (Some q) p h e = procedure_known records ps q p h e

call_there : (d : Declared) (ps : List Procedure) (table : List Sums) (call : Freshens)
    → CallsThere d (length (names_of_records d.records)) call → (o : Option Procedure)
    → ((p : Procedure) → o ≡ Some p → all_known (names_of_records d.records) (variables p) ≡ true)
    → (c : ℕ) → AreThere d (length (names_of_records d.records)) (fresh_of ps table call o c)
call_there d ps table call h None k c = All-nil (IsInRange (length (names_of_records d.records)))
call_there d ps table call h (Some p) k c =
    let names = names_of_records d.records in
    let n = length names in
    both_there d n (of_call c (variables p)) (block_fresh ps table call (c + 1) p.body)
    (subst (All (IsInRange n)) (sym (call_types d c (variables p))) (types_there names (variables p) (k p refl)))
    (block_there d n ps table call h (c + 1) p.body)

calls_there : (n : ℕ) (d : Declared) (ps : List Procedure) → variables_fine (names_of_records d.records) ps ≡ true
    → CallsThere d (length (names_of_records d.records)) (fresh_within n ps)
calls_there zero d ps h q c = All-nil (IsInRange (length (names_of_records d.records)))
calls_there (suc n) d ps h q c =
    call_there d ps (sums_within n ps) (fresh_within n ps) (calls_there n d ps h) (procedure_numbered ps q)
    (λ p e. numbered_known (names_of_records d.records) ps q p h e) c

-- the types of all locals are there
locals_there : (t : TreeView) (ts : List Thread) → variables_fine (names_of_records t.records) t.procedures ≡ true
    → locals_fine (names_of_records t.records) ts ≡ true
    → All (λ (ls : List ValueType). All (IsInRange (length (names_of_records t.records))) ls)
    (map (local_types_of t) ts)
locals_there t [] h g = All-nil (λ (ls : List ValueType). All (IsInRange (length (names_of_records t.records))) ls)
locals_there t (x ∷ ts) h g =
    let names = names_of_records t.records in
    let n = length names in
    let ps = t.procedures in
    let d = declared_in t in
    let few = nat_le (length x.locals) most_locals in
    let parts = and_parts (all_known names x.locals && few) (locals_fine names ts) g in
    let own = types_there names x.locals (and_parts (all_known names x.locals) few parts.0).0 in
    let fresh = block_there d n ps (sums ps) (fresh_within (length ps) ps) (calls_there (length ps) d ps h) 0 x.body in
    All-cons (λ (ls : List ValueType). All (IsInRange n) ls) (local_types_of t x) (map (local_types_of t) ts)
    (All-append (IsInRange n) (types_of names x.locals) (fresh_types d (fresh_in t x)) own fresh)
    (locals_there t ts h parts.1)

-- and few
all_few : (types : List (List ValueType)) → AreFewTypes types
    → All (λ (ls : List ValueType). length ls ≤ most_all_locals) types
all_few [] h = All-nil (λ (ls : List ValueType). length ls ≤ most_all_locals)
all_few (ls ∷ more) h = All-cons (λ (ls : List ValueType). length ls ≤ most_all_locals) ls more h.0 (all_few more h.1)

as_many_texts : (t : TreeView) (a : NextNumbers) (ts : List Thread) → length (written_threads t a ts) ≡ length ts
as_many_texts t a [] = refl
as_many_texts t a (x ∷ ts) = omega (arith, as_many_texts t (past_thread t a x) ts)

-- as many sections take locks as there are
mutual
  statement_many : (d : Declared) (ls : List Declaration) (at : Place) (s : StatementView) (w : List Locking)
      → IsCleanStatement d ls at s → length (statement_lockings s w) ≡ statement_sections s + length w
  statement_many d ls at (Primitive p) w h = omega arith
  statement_many d ls at (If t a) w h = block_many d ls (deeper at) a w h.1
  statement_many d ls at (IfElse t a b) w h =
      omega (arith, block_many d ls (deeper at) a (block_lockings b w) h.1, block_many d ls (deeper at) b w h.2)
  statement_many d ls at (While t a) w h = block_many d ls (deeper at) a w h.1
  statement_many d ls at (Atomic l a) w h =
      omega (arith, block_flat d ls (in_section at) a (inside_section at) h.1)
  statement_many d ls at (Call f vs) w h = omega arith

  block_many : (d : Declared) (ls : List Declaration) (at : Place) (b : BlockView) (w : List Locking)
      → IsCleanBlock d ls at b → length (block_lockings b w) ≡ block_sections b + length w
  block_many d ls at End w h = omega arith
  block_many d ls at (Then s b) w h =
      omega (arith, statement_many d ls at s (block_lockings b w) h.0, block_many d ls at b w h.1)

threads_many : (d : Declared) (ts : List Thread) (w : List Locking) → AreCleanThreads d ts
    → length (threads_lockings ts w) ≡ sections_in ts + length w
threads_many d [] w h = omega arith
threads_many d (t ∷ ts) w h =
    omega (arith, block_many d t.locals (InThread false 1) t.body (threads_lockings ts w) h.0, threads_many d ts w h.1)

abbrev own_records : TreeView → List (List ValueType)
own_records t = field_types (names_of_records t.records) t.records

abbrev own_globals : TreeView → List ℕ
own_globals t = global_records (names_of_records t.records) t.globals

abbrev own : TreeView → ProgramView
own t = numbered_by t (own_records t) (own_globals t) (all_local_types t) (written_texts t) (lockings_of t)

-- each reference has one of n records
record AreThereIn (t : TreeView) (n : ℕ) : Type 0 where
  of_fields : All (λ (ts : List ValueType). All (IsInRange n) ts) (own_records t)
  of_globals : All (λ (r : ℕ). r < n) (own_globals t)
  of_locals : All (λ (ts : List ValueType). All (IsInRange n) ts) (all_local_types t)

own_parts : (t : TreeView) (end : Counts) → IsCounted t end
    → IsWellNumbered (own t) end.sections end.sites end.statements
own_parts t end h =
    let names = names_of_records t.records in
    let typed = (fine_typed t end h.fine).0 in
    let counts = fine_counts t end h.fine in
    let within = typed_within t typed in
    let numbered = the (texts_of t) (texts_there t typed) in
    let as_long = length-map t.records (λ (r : Record). r.name) in
    let long_records = length-map t.records (λ (r : Record). types_of names r.fields) in
    let long_globals = length-map t.globals (λ (g : GlobalObject). record_number names g.of) in
    let long_locals = length-map {B = List ValueType} t.threads (local_types_of t) in
    let long_texts = as_many_texts t (record { sites = length t.globals; sections = 0; fresh = 0 }) t.threads in
    let long_sites = length-append (own_globals t) (all_made (written_texts t)) in
    let there : AreThereIn t (length (own_records t)) =
    subst (AreThereIn t) (as_long ∙ sym long_records) (record {
      of_fields = fields_there names t.records h.fine_fields;
      of_globals = globals_there names t.globals h.known_globals;
      of_locals = locals_there t t.threads h.fine_variables h.fine_locals;
    }) in
    record {
      of_tree = record {
        records_are = refl;
        globals_are = refl;
        locals_are = refl;
        texts_are = numbered.1 ∙ ap Some (sym (texts_written t numbered.0 numbered.1));
        lockings_are =
            refl;
      };
      sound = typed_sound t typed;
      records_there = record {
        of_fields = there.of_fields;
        of_globals = there.of_globals;
        of_locals =
            there.of_locals;
      };
      limits = record {
        few_records = omega (arith, long_records, h.few_records);
        few_fields = few_fields names t.records h.fine_fields;
        few_globals = omega (arith, long_globals, h.few_globals);
        few_threads = omega (arith, long_texts, h.few_threads);
        as_many = long_locals ∙ sym long_texts;
        few_locals = all_few (all_local_types t) (typed_few_types t typed);
        few_statements = within.statements_within;
        few_sections = within.sections_within;
        few_sites = omega (arith, within.sites_within, long_sites, long_globals);
        few_calls = typed_calls t typed;
        shallow = typed_shallow t typed h.shallow;
      };
      numbered = typed_sections t typed;
      sited = subst (λ n. AllSited n (written_texts t)) (sym long_globals) (typed_sites t typed);
      as_many_lockings =
          omega (arith, threads_many (declared_in t) t.threads [] (text_clean t typed).1, typed_section_count t typed);
      section_count = counts.sections_are;
      site_count = omega (arith, counts.sites_are, long_sites, long_globals);
      statement_count = counts.statements_are;
    }

pub well_numbered : (t : TreeView) (end : Counts) (records : List (List ValueType)) (globals : List ℕ)
    (locals : List (List ValueType)) (texts : List TextView) (lockings : List Locking) (sections sites statements : ℕ)
    → IsCounted t end → records ≡ own_records t → globals ≡ own_globals t → locals ≡ all_local_types t
    → texts ≡ written_texts t → lockings ≡ lockings_of t → sections ≡ end.sections → sites ≡ end.sites
    → statements ≡ end.statements
    → IsWellNumbered (numbered_by t records globals locals texts lockings) sections sites statements
well_numbered t end records globals locals texts lockings sections sites statements h e f g m o i j k =
    subst (λ n. IsWellNumbered (numbered_by t records globals locals texts lockings) n sites statements) (sym i)
    (subst (λ n. IsWellNumbered (numbered_by t records globals locals texts lockings) end.sections n statements) (sym j)
    (subst (λ n. IsWellNumbered (numbered_by t records globals locals texts lockings) end.sections end.sites n) (sym k)
    (subst (λ (p : ProgramView). IsWellNumbered p end.sections end.sites end.statements) (sym same)
    (own_parts t end h))))
  where
    same : numbered_by t records globals locals texts lockings ≡ own t
    same = λ x. numbered_by t (e x) (f x) (g x) (m x) (o x)
