-- One more declaration of a text is read.
use Rattle.std.proofs.Common.{◌≡◌, true, List, [], ◌∷◌, ◌++◌, Some, refl, sym, ◌∙◌, ap}
use Rattle.sect_front.specs.Tokens.{record_tokens, global_tokens, procedure_tokens, thread_tokens, source_tokens}
use Rattle.sect_front.specs.Tokens.{records_tokens, globals_tokens, procedures_tokens, threads_tokens}
use Rattle.sect_front.specs.{TreeView.{TreeView}, declared.token.Token.{Token}, declared.tree.Record.{Record}}
use Rattle.sect_front.specs.{declared.tree.GlobalObject.{GlobalObject}, declared.tree.Procedure.{Procedure}}
use Rattle.sect_front.specs.{declared.tree.Thread.{Thread}, declared.expected.Expected.{Expected}}
use Rattle.sect_front.specs.steps.Places.{follows, takes}
use Rattle.sect_front.specs.steps.Declaring.{FitsPart, with_record, with_global, with_procedure, with_thread}
use Rattle.sect_front.proofs.Leading.{MayGlobals, MayProcedures, MayThreads}
use Rattle.sect_front.proofs.shared.Listed.{tokens_before, tokens_same}
use Rattle.sect_front.specs.declared.token.Token.TheVariants as token
use Rattle.sect_front.specs.declared.expected.Expected.TheVariants as expected

-- 1. Which part comes next.

pub is_records : (part : Expected) (s : TreeView) → FitsPart part s → takes part token.Record ≡ true
    → part ≡ expected.Records
is_records expected.Records s f h = refl
is_records expected.Globals s f h = absurd cc
is_records expected.Procedures s f h = absurd cc
is_records expected.Threads s f h = absurd cc
is_records _ s f h = absurd f

pub may_globals : (part : Expected) (s : TreeView) → FitsPart part s → takes part token.Global ≡ true → MayGlobals part
may_globals expected.Records s f h = tt
may_globals expected.Globals s f h = tt
may_globals expected.Procedures s f h = absurd cc
may_globals expected.Threads s f h = absurd cc
may_globals _ s f h = absurd f

pub may_procedures : (part : Expected) (s : TreeView) → FitsPart part s → takes part token.Proc ≡ true
    → MayProcedures part
may_procedures expected.Records s f h = tt
may_procedures expected.Globals s f h = tt
may_procedures expected.Procedures s f h = tt
may_procedures expected.Threads s f h = absurd cc
may_procedures _ s f h = absurd f

pub may_threads : (part : Expected) (s : TreeView) → FitsPart part s → MayThreads part
may_threads expected.Records s f = tt
may_threads expected.Globals s f = tt
may_threads expected.Procedures s f = tt
may_threads expected.Threads s f = tt
may_threads _ s f = absurd f

pub globals_fit : (part : Expected) (s : TreeView) → MayGlobals part → FitsPart part s → FitsPart expected.Globals s
globals_fit expected.Records s m f = (f.1, f.2)
globals_fit expected.Globals s m f = f
globals_fit _ s m f = absurd m

pub procedures_fit : (part : Expected) (s : TreeView) → MayProcedures part → FitsPart part s
    → FitsPart expected.Procedures s
procedures_fit expected.Records s m f = f.2
procedures_fit expected.Globals s m f = f.1
procedures_fit expected.Procedures s m f = f
procedures_fit _ s m f = absurd m

pub global_follows : (part : Expected) → MayGlobals part → follows part token.Global
    ≡ Some (expected.Name ∷ expected.Name ∷ expected.Semicolon ∷ expected.Globals ∷ [])
global_follows expected.Records m = refl
global_follows expected.Globals m = refl
global_follows _ m = absurd m

pub procedure_follows : (part : Expected) → MayProcedures part → follows part token.Proc
    ≡ Some (expected.Name ∷ expected.OpenParen ∷ expected.Parameter ∷ expected.OpenBody ∷ expected.Procedures ∷ [])
procedure_follows expected.Records m = refl
procedure_follows expected.Globals m = refl
procedure_follows expected.Procedures m = refl
procedure_follows _ m = absurd m

pub thread_follows : (part : Expected) → MayThreads part → follows part token.Thread
    ≡ Some (expected.Name ∷ expected.OpenBody ∷ expected.Threads ∷ [])
thread_follows expected.Records m = refl
thread_follows expected.Globals m = refl
thread_follows expected.Procedures m = refl
thread_follows expected.Threads m = refl
thread_follows _ m = absurd m

-- a declaration begins with its word
pub no_other : (part : Expected) (s : TreeView) (t : Token) → FitsPart part s → takes part t ≡ true
    → (t ≡ token.Record → ⊥) → (t ≡ token.Global → ⊥) → (t ≡ token.Proc → ⊥) → (t ≡ token.Thread → ⊥) → ⊥
no_other expected.Records s token.Record f h a b c d = a refl
no_other expected.Records s token.Global f h a b c d = b refl
no_other expected.Records s token.Proc f h a b c d = c refl
no_other expected.Records s token.Thread f h a b c d = d refl
no_other expected.Records s _ f h a b c d = cc
no_other expected.Globals s token.Global f h a b c d = b refl
no_other expected.Globals s token.Proc f h a b c d = c refl
no_other expected.Globals s token.Thread f h a b c d = d refl
no_other expected.Globals s _ f h a b c d = cc
no_other expected.Procedures s token.Proc f h a b c d = c refl
no_other expected.Procedures s token.Thread f h a b c d = d refl
no_other expected.Procedures s _ f h a b c d = cc
no_other expected.Threads s token.Thread f h a b c d = d refl
no_other expected.Threads s _ f h a b c d = cc
no_other _ s t f h a b c d = f

-- 2. The tokens with one more declaration.

records_grow : (rs : List Record) (r : Record) (w : List Token)
    → records_tokens (rs ++ r ∷ []) w ≡ records_tokens rs (record_tokens r w)
records_grow [] r w = refl
records_grow (q ∷ rs) r w = ap (record_tokens q) (records_grow rs r w)

globals_grow : (gs : List GlobalObject) (g : GlobalObject) (w : List Token)
    → globals_tokens (gs ++ g ∷ []) w ≡ globals_tokens gs (global_tokens g w)
globals_grow [] g w = refl
globals_grow (h ∷ gs) g w = ap (global_tokens h) (globals_grow gs g w)

procedures_grow : (ps : List Procedure) (p : Procedure) (w : List Token)
    → procedures_tokens (ps ++ p ∷ []) w ≡ procedures_tokens ps (procedure_tokens p w)
procedures_grow [] p w = refl
procedures_grow (q ∷ ps) p w = ap (procedure_tokens q) (procedures_grow ps p w)

threads_grow : (ts : List Thread) (t : Thread) (w : List Token)
    → threads_tokens (ts ++ t ∷ []) w ≡ threads_tokens ts (thread_tokens t w)
threads_grow [] t w = refl
threads_grow (u ∷ ts) t w = ap (thread_tokens u) (threads_grow ts t w)

-- what stands behind the parts that are empty
abbrev behind_records : TreeView → List Token → List Token
behind_records s w = globals_tokens s.globals (procedures_tokens s.procedures (threads_tokens s.threads w))

no_globals : (s : TreeView) → FitsPart expected.Records s → (w : List Token) → behind_records s w ≡ w
no_globals s f w =
    ap (λ x. globals_tokens x (procedures_tokens s.procedures (threads_tokens s.threads w))) f.0
    ∙ (ap (λ x. procedures_tokens x (threads_tokens s.threads w)) f.1 ∙ ap (λ x. threads_tokens x w) f.2)

no_procedures : (s : TreeView) → FitsPart expected.Globals s → (w : List Token)
    → procedures_tokens s.procedures (threads_tokens s.threads w) ≡ w
no_procedures s f w =
    ap (λ x. procedures_tokens x (threads_tokens s.threads w)) f.0 ∙ ap (λ x. threads_tokens x w) f.1

pub record_grown : (s : TreeView) (r : Record) → FitsPart expected.Records s
    → source_tokens (with_record s r) [] ≡ source_tokens s (record_tokens r [])
record_grown s r f =
    records_grow s.records r (behind_records s [])
    ∙ ap (records_tokens s.records) (ap (record_tokens r) (no_globals s f []) ∙ sym
    (no_globals s f (record_tokens r [])))

pub global_grown : (s : TreeView) (g : GlobalObject) → FitsPart expected.Globals s
    → source_tokens (with_global s g) [] ≡ source_tokens s (global_tokens g [])
global_grown s g f =
    ap (records_tokens s.records) (globals_grow s.globals g (procedures_tokens s.procedures
    (threads_tokens s.threads []))
    ∙ ap (globals_tokens s.globals) (ap (global_tokens g) (no_procedures s f [])
    ∙ sym (no_procedures s f (global_tokens g []))))

pub procedure_grown : (s : TreeView) (p : Procedure) → FitsPart expected.Procedures s
    → source_tokens (with_procedure s p) [] ≡ source_tokens s (procedure_tokens p [])
procedure_grown s p f =
    ap (λ x. records_tokens s.records (globals_tokens s.globals x))
    (procedures_grow s.procedures p (threads_tokens s.threads [])
    ∙ ap (procedures_tokens s.procedures) (ap (procedure_tokens p) (ap (λ x. threads_tokens x []) f)
    ∙ sym (ap (λ x. threads_tokens x (procedure_tokens p [])) f)))

pub thread_grown : (s : TreeView) (t : Thread) → source_tokens (with_thread s t) [] ≡ source_tokens s
    (thread_tokens t [])
thread_grown s t =
    ap (λ x. records_tokens s.records (globals_tokens s.globals (procedures_tokens s.procedures x)))
    (threads_grow s.threads t [])

pub source_behind : (s : TreeView) (w : List Token) → source_tokens s [] ++ w ≡ source_tokens s w
source_behind s w = ap (λ x. x ++ w) (sym (tokens_same s)) ∙ tokens_before s w
