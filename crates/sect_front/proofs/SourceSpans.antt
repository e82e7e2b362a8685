-- The spans of the items of declarations.
use Rattle.std.proofs.Common.{◌≡◌, ℕ, List, [], ◌∷◌, ◌++◌, refl, sym, ◌∙◌, ap, subst, append_assoc, append-nil}
use Rattle.sect_front.specs.Tokens.{record_tokens, global_tokens, procedure_tokens, thread_tokens, source_tokens}
use Rattle.sect_front.specs.Tokens.{records_tokens, globals_tokens, procedures_tokens, threads_tokens}
use Rattle.sect_front.specs.ItemSpans.{past, each, record_spans, global_spans, procedure_spans, thread_spans}
use Rattle.sect_front.specs.ItemSpans.{source_spans}
use Rattle.sect_front.specs.{TreeView.{TreeView}, declared.token.Token.{Token}, declared.tree.Record.{Record}}
use Rattle.sect_front.specs.{declared.tree.GlobalObject.{GlobalObject}, declared.tree.Procedure.{Procedure}}
use Rattle.sect_front.specs.{declared.tree.Thread.{Thread}, declared.span.Span.{Span}}
use Rattle.sect_front.specs.steps.Declaring.{FitsPart, HasPart, with_record, with_global, with_procedure, with_thread}
use Rattle.sect_front.specs.steps.{Passing.{CursorView, ArePassed}, Spanning.{SpansView, with_spans, HasPartItems}}
use Rattle.sect_front.proofs.{Sources.{source_behind}, Spans.{past_append, are_past, added_then}}
use Rattle.sect_front.specs.declared.expected.Expected.{Expected}
use Rattle.sect_front.specs.declared.expected.Expected.TheVariants as expected

-- 1. One more declaration of a kind.

abbrev all_tokens : {A : Type 0} → (A → List Token → List Token) → List A → List Token
all_tokens tokens [] = []
all_tokens tokens (x ∷ xs) = tokens x (all_tokens tokens xs)

each_more : {A : Type 0} (tokens : A → List Token → List Token) (spans : List ℕ → A → List Span)
    → ((x : A) (w : List Token) → tokens x [] ++ w ≡ tokens x w) → (here : List ℕ) (xs : List A) (x : A)
    → each tokens spans here (xs ++ x ∷ [])
    ≡ each tokens spans here xs ++ spans (past here (all_tokens tokens xs)) x
each_more tokens spans law here [] x = append-nil (spans here x)
each_more tokens spans law here (y ∷ ys) x =
    let next = past here (tokens y []) in
    let same : past next (all_tokens tokens ys) ≡ past here (tokens y (all_tokens tokens ys)) =
    sym (past_append here (tokens y []) (all_tokens tokens ys)) ∙ ap (past here) (law y (all_tokens tokens ys)) in
    ap (λ s. spans here y ++ s) (each_more tokens spans law next ys x
    ∙ ap (λ h. each tokens spans next ys ++ spans h x) same)
    ∙ sym (append_assoc (spans here y) (each tokens spans next ys)
    (spans (past here (tokens y (all_tokens tokens ys))) x))

record_law : (r : Record) (w : List Token) → record_tokens r [] ++ w ≡ record_tokens r w
record_law r w = source_behind (record { records = r ∷ []; globals = []; procedures = []; threads = [] }) w

global_law : (g : GlobalObject) (w : List Token) → global_tokens g [] ++ w ≡ global_tokens g w
global_law g w = refl

procedure_law : (p : Procedure) (w : List Token) → procedure_tokens p [] ++ w ≡ procedure_tokens p w
procedure_law p w = source_behind (record { records = []; globals = []; procedures = p ∷ []; threads = [] }) w

thread_law : (t : Thread) (w : List Token) → thread_tokens t [] ++ w ≡ thread_tokens t w
thread_law t w = source_behind (record { records = []; globals = []; procedures = []; threads = t ∷ [] }) w

all_records : (rs : List Record) → all_tokens record_tokens rs ≡ records_tokens rs []
all_records [] = refl
all_records (r ∷ rs) = ap (record_tokens r) (all_records rs)

all_globals : (gs : List GlobalObject) → all_tokens global_tokens gs ≡ globals_tokens gs []
all_globals [] = refl
all_globals (g ∷ gs) = ap (global_tokens g) (all_globals gs)

all_procedures : (ps : List Procedure) → all_tokens procedure_tokens ps ≡ procedures_tokens ps []
all_procedures [] = refl
all_procedures (p ∷ ps) = ap (procedure_tokens p) (all_procedures ps)

all_threads : (ts : List Thread) → all_tokens thread_tokens ts ≡ threads_tokens ts []
all_threads [] = refl
all_threads (t ∷ ts) = ap (thread_tokens t) (all_threads ts)

-- 2. One more declaration of a text.

-- the tokens of one part stand behind those of the parts before it
records_past : (init : List ℕ) (rs : List Record) (w : List Token)
    → past init (records_tokens rs w) ≡ past (past init (records_tokens rs [])) w
records_past init rs w =
    ap (past init) (sym (source_behind (record { records = rs; globals = []; procedures = []; threads = [] }) w))
    ∙ past_append init (records_tokens rs []) w

globals_past : (init : List ℕ) (rs : List Record) (gs : List GlobalObject) (w : List Token)
    → past init (records_tokens rs (globals_tokens gs w))
    ≡ past (past init (records_tokens rs (globals_tokens gs []))) w
globals_past init rs gs w =
    ap (past init) (sym (source_behind (record { records = rs; globals = gs; procedures = []; threads = [] }) w))
    ∙ past_append init (records_tokens rs (globals_tokens gs [])) w

procedures_past : (init : List ℕ) (rs : List Record) (gs : List GlobalObject) (ps : List Procedure) (w : List Token)
    → past init (records_tokens rs (globals_tokens gs (procedures_tokens ps w)))
    ≡ past (past init (records_tokens rs (globals_tokens gs (procedures_tokens ps [])))) w
procedures_past init rs gs ps w =
    ap (past init) (sym (source_behind (record { records = rs; globals = gs; procedures = ps; threads = [] }) w))
    ∙ past_append init (records_tokens rs (globals_tokens gs (procedures_tokens ps []))) w

abbrev parts : List Record → List GlobalObject → List Procedure → List Thread → TreeView
parts rs gs ps ts = record { records = rs; globals = gs; procedures = ps; threads = ts }

-- one more of the last kind that there is
last_more : {A : Type 0} (tokens : A → List Token → List Token) (spans : List ℕ → A → List Span)
    → ((x : A) (w : List Token) → tokens x [] ++ w ≡ tokens x w) → (before : List Span) (here there : List ℕ)
    (xs : List A) (x : A) → past here (all_tokens tokens xs) ≡ there
    → before ++ each tokens spans here (xs ++ x ∷ []) ≡ (before ++ each tokens spans here xs) ++ spans there x
last_more tokens spans law before here there xs x begins =
    ap (λ w. before ++ w) (each_more tokens spans law here xs x
    ∙ ap (λ h. each tokens spans here xs ++ spans h x) begins)
    ∙ sym (append_assoc before (each tokens spans here xs) (spans there x))

none_more : {old new : List Span} (added xs ys : List Span) → xs ≡ old → ys ≡ new → new ≡ old ++ added
    → ys ≡ xs ++ added
none_more added xs ys p q e = q ∙ (e ∙ ap (λ w. w ++ added) (sym p))

record_last : (total : ℕ) (init : List ℕ) (rs : List Record) (r : Record)
    → source_spans total init (parts (rs ++ r ∷ []) [] [] [])
    ≡ source_spans total init (parts rs [] [] []) ++ record_spans total (past init (records_tokens rs [])) r
record_last total init rs r =
    none_more (record_spans total (past init (records_tokens rs [])) r) (source_spans total init (parts rs [] [] []))
    (source_spans total init (parts (rs ++ r ∷ []) [] [] []))
    (nils (each record_tokens (record_spans total) init rs))
    (nils (each record_tokens (record_spans total) init (rs ++ r ∷ [])))
    (each_more record_tokens (record_spans total) record_law init rs r
    ∙ ap (λ h. each record_tokens (record_spans total) init rs ++ record_spans total (past init h) r) (all_records rs))
  where
    nils : (xs : List Span) → xs ++ [] ++ [] ++ [] ≡ xs
    nils xs = append-nil (xs ++ [] ++ []) ∙ (append-nil (xs ++ []) ∙ append-nil xs)

global_last : (total : ℕ) (init : List ℕ) (rs : List Record) (gs : List GlobalObject) (g : GlobalObject)
    → source_spans total init (parts rs (gs ++ g ∷ []) [] [])
    ≡ source_spans total init (parts rs gs [] [])
    ++ global_spans total (past init (source_tokens (parts rs gs [] []) [])) g
global_last total init rs gs g =
    let there = past init (source_tokens (parts rs gs [] []) []) in
    let here = past init (records_tokens rs []) in
    let before = each record_tokens (record_spans total) init rs in
    let spans = each global_tokens (global_spans total) here in
    none_more (global_spans total there g) (source_spans total init (parts rs gs [] []))
    (source_spans total init (parts rs (gs ++ g ∷ []) [] []))
    (nils (before ++ spans gs)) (nils (before ++ spans (gs ++ g ∷ [])))
    (last_more global_tokens (global_spans total) global_law before here there gs g
    (ap (past here) (all_globals gs) ∙ sym (records_past init rs (globals_tokens gs []))))
  where
    nils : (xs : List Span) → xs ++ [] ++ [] ≡ xs
    nils xs = append-nil (xs ++ []) ∙ append-nil xs

procedure_last : (total : ℕ) (init : List ℕ) (rs : List Record) (gs : List GlobalObject) (ps : List Procedure)
    (p : Procedure) → source_spans total init (parts rs gs (ps ++ p ∷ []) [])
    ≡ source_spans total init (parts rs gs ps [])
    ++ procedure_spans total (past init (source_tokens (parts rs gs ps []) [])) p
procedure_last total init rs gs ps p =
    let there = past init (source_tokens (parts rs gs ps []) []) in
    let here = past init (records_tokens rs (globals_tokens gs [])) in
    let before = each record_tokens (record_spans total) init rs
    ++ each global_tokens (global_spans total) (past init (records_tokens rs [])) gs in
    let spans = each procedure_tokens (procedure_spans total) here in
    none_more (procedure_spans total there p) (source_spans total init (parts rs gs ps []))
    (source_spans total init (parts rs gs (ps ++ p ∷ []) []))
    (append-nil (before ++ spans ps)) (append-nil (before ++ spans (ps ++ p ∷ [])))
    (last_more procedure_tokens (procedure_spans total) procedure_law before here there ps p
    (ap (past here) (all_procedures ps) ∙ sym (globals_past init rs gs (procedures_tokens ps []))))

thread_last : (total : ℕ) (init : List ℕ) (rs : List Record) (gs : List GlobalObject) (ps : List Procedure)
    (ts : List Thread) (t : Thread) → source_spans total init (parts rs gs ps (ts ++ t ∷ []))
    ≡ source_spans total init (parts rs gs ps ts)
    ++ thread_spans total (past init (source_tokens (parts rs gs ps ts) [])) t
thread_last total init rs gs ps ts t =
    let here = past init (records_tokens rs (globals_tokens gs (procedures_tokens ps []))) in
    let before = each record_tokens (record_spans total) init rs
    ++ each global_tokens (global_spans total) (past init (records_tokens rs [])) gs
    ++ each procedure_tokens (procedure_spans total) (past init (records_tokens rs (globals_tokens gs []))) ps in
    last_more thread_tokens (thread_spans total) thread_law before here
    (past init (source_tokens (parts rs gs ps ts) [])) ts t
    (ap (past here) (all_threads ts) ∙ sym (procedures_past init rs gs ps (threads_tokens ts [])))

no_globals : (s : TreeView) → FitsPart expected.Records s → s ≡ parts s.records [] [] []
no_globals s f =
    ap (λ x. parts s.records x s.procedures s.threads) f.0
    ∙ (ap (λ x. parts s.records [] x s.threads) f.1 ∙ ap (parts s.records [] []) f.2)

no_procedures : (s : TreeView) → FitsPart expected.Globals s → s ≡ parts s.records s.globals [] []
no_procedures s f =
    ap (λ x. parts s.records s.globals x s.threads) f.0 ∙ ap (parts s.records s.globals []) f.1

pub record_more : (total : ℕ) (init : List ℕ) (s : TreeView) (r : Record) → FitsPart expected.Records s
    → source_spans total init (with_record s r)
    ≡ source_spans total init s ++ record_spans total (past init (source_tokens s [])) r
record_more total init s r f = subst (λ x. source_spans total init (with_record x r)
    ≡ source_spans total init x ++ record_spans total (past init (source_tokens x [])) r) (sym (no_globals s f))
    (record_last total init s.records r)

pub global_more : (total : ℕ) (init : List ℕ) (s : TreeView) (g : GlobalObject) → FitsPart expected.Globals s
    → source_spans total init (with_global s g)
    ≡ source_spans total init s ++ global_spans total (past init (source_tokens s [])) g
global_more total init s g f = subst (λ x. source_spans total init (with_global x g)
    ≡ source_spans total init x ++ global_spans total (past init (source_tokens x [])) g) (sym (no_procedures s f))
    (global_last total init s.records s.globals g)

pub procedure_more : (total : ℕ) (init : List ℕ) (s : TreeView) (p : Procedure) → FitsPart expected.Procedures s
    → source_spans total init (with_procedure s p)
    ≡ source_spans total init s ++ procedure_spans total (past init (source_tokens s [])) p
procedure_more total init s p f = subst (λ x. source_spans total init (with_procedure x p)
    ≡ source_spans total init x ++ procedure_spans total (past init (source_tokens x [])) p)
    (sym (ap (parts s.records s.globals s.procedures) f)) (procedure_last total init s.records s.globals s.procedures p)

pub thread_more : (total : ℕ) (init : List ℕ) (s : TreeView) (t : Thread)
    → source_spans total init (with_thread s t)
    ≡ source_spans total init s ++ thread_spans total (past init (source_tokens s [])) t
thread_more total init s t = thread_last total init s.records s.globals s.procedures s.threads t

-- what a declaration adds
pub part_items : {was one : SpansView} (part e : Expected) (here there : CursorView) (old new added : TreeView)
    (spans : ℕ → List ℕ → List Span) → HasPart part e here there old new → new ≡ added
    → ((total : ℕ) (init : List ℕ) → source_spans total init added
    ≡ source_spans total init old ++ spans total (past init (source_tokens old [])))
    → one ≡ with_spans was (spans was.total here.here) → HasPartItems part e here there old new was one
part_items {was = was} part e here there old new added spans read is more adds = record {
  read = read;
  more = spans was.total here.here;
  adds = adds;
  grown = λ init begins. ap (source_spans was.total init) is
      ∙ (more was.total init ∙ ap (λ x. source_spans was.total init old ++ spans was.total x) begins);
}

-- in the loop over them
pub part_spans : (was : SpansView) {one two : SpansView} (part e : Expected) (init here there : CursorView)
    (old new : TreeView) → ArePassed init (source_tokens old []) here
    → one ≡ with_spans was (source_spans was.total init.here old) → HasPartItems part e here there old new one two
    → two ≡ with_spans was (source_spans was.total init.here new)
part_spans was {one = one} part e init here there old new are p h =
    added_then was (source_spans was.total init.here old) h.more p h.adds
    ∙ ap (with_spans was) (sym (subst (λ n. source_spans n init.here new ≡ source_spans n init.here old ++ h.more)
    (ap (λ s. s.total) p) (h.grown init.here (sym (are_past init (source_tokens old []) here are)))))
