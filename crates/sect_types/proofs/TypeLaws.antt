-- The expanded text of a typed text is sound where its fresh locals have the types of their declarations.
use Rattle.std.specs.Prelude.{Bool, true, false, not, ◌&&◌, ◌||◌, is_some, nat_eq}
use Rattle.std.proofs.Common.{◌≡◌, ℕ, zero, suc, ◌+◌, List, [], ◌∷◌, ◌++◌, map, Option, Some, None, IfSome, refl, sym}
use Rattle.std.proofs.{Common.{◌∙◌, arith, subst, length, length-append}, lemmas.Bool.{eqb-true, and_parts, not-false}}
use Rattle.sect_front.specs.{declared.tree.Operand.{Operand}, declared.tree.Kind.{Kind}}
use Rattle.sect_front.specs.declared.tree.Declaration.{Declaration}
use Rattle.sect_front.specs.Syntax.{StatementView, Primitive, If, IfElse, While, Atomic, Call, BlockView, End, Then}
use Rattle.sect_front.specs.{declared.tree.Procedure.{Procedure}, declared.tree.Thread.{Thread}, TreeView.{TreeView}}
use Rattle.sect_types.specs.declared.declarations.types.ValueType.{ValueType}
use Rattle.sect_types.specs.{declared.expansion.action.Action.{Action}, declared.rules.resolve.Given.{Given}}
use Rattle.sect_types.specs.{Sight.{names_of_records, operand_of}, Numbered.{value_by}}
use Rattle.sect_types.specs.Environments.{Environment, environment, type_of, field_types, global_records}
use Rattle.sect_types.specs.{Sound.{HasType, IsSound, AreSound, StandsRight, is_shared}, Statements.{TextView, joined}}
use Rattle.sect_types.specs.declared.rules.place.Place.{Place}
use Rattle.sect_types.specs.declared.rules.place.Place.TheVariants.{InThread, InProcedure}
use Rattle.sect_types.specs.Items.{deeper, in_section, is_inside, variables, AStatement, PrimitiveHead, CallHead}
use Rattle.sect_types.specs.declared.counting.sums.Sums.{Sums}
use Rattle.sect_types.specs.Sums.{sums, sums_within, statement_sums, block_sums, number_of}
use Rattle.sect_types.specs.Rules.{Declared, seen, kind_accepts, all_accept, shares, knows_operands, as_many}
use Rattle.sect_types.specs.{Rules.{procedure_at, procedure_of, call_agrees, declared_in}, First.{IsTyped}}
use Rattle.sect_types.specs.Expanded.{NextNumbers, Freshens, of_call, past_statement, past_block, cleared, after_call}
use Rattle.sect_types.specs.Expanded.{procedure_numbered, fresh_of, fresh_within, fresh_in, statement_fresh}
use Rattle.sect_types.specs.Expanded.{block_fresh, local_types_of, past_thread}
use Rattle.sect_types.specs.declared.expansion.expand.Fresh.{Fresh}
use Rattle.sect_types.specs.steps.Written.{Writer, written_statement, written_block, argument_in, write_parameters}
use Rattle.sect_types.specs.steps.Written.{write_locals, written_call, written_within, written_thread, written_threads}
use Rattle.sect_types.specs.steps.Written.{written_texts}
use Rattle.sect_types.specs.steps.Clean.{IsClean, IsCleanStatement, IsCleanBlock, AreCleanThreads}
use Rattle.sect_types.proofs.SoundLemmas.{IsGiven, accepts_has, operand_there}
use Rattle.sect_types.proofs.CountLaws.{CountsFresh, statement_freshens, block_freshens, call_freshens, of_call_long}
use Rattle.sect_types.proofs.{MovedLaws.{StandFrom, moved_type, moved_sound, moved_holds}, Walked.{text_clean}}
use Rattle.sect_types.proofs.Resolved.{and_not, resolved, resolved_test, moved_shared}
use Rattle.sect_types.proofs.SiteLaws.{AreClean, called_clean, typed_clean, view}
use Rattle.sect_types.proofs.StandingTypes.{stand_first, stand_next, stand_left, stand_right, stand_whole, stand_behind}
use Rattle.sect_types.proofs.StandingTypes.{types_in, fresh_types, fresh_left, fresh_right, call_types, types_both}
use Rattle.sect_types.proofs.{StandingTypes.{types_long}, SectionLaws.{inside_section}, shared.Joining.{sound_joined}}
use Rattle.sect_front.specs.declared.tree.Kind.TheVariants as kind

-- what statements see where these are the types of all locals
abbrev pub whole : Declared → List ValueType → Environment
whole d all = record {
  records = field_types (names_of_records d.records) d.records;
  globals = global_records (names_of_records d.records) d.globals;
  locals = all;
}

-- the type that a declaration has
abbrev type_in : Declared → Declaration → ValueType
type_in d x = type_of (names_of_records d.records) x.kind

-- an argument that a parameter takes has its type
given_has : (d : Declared) (ls : List Declaration) (n : ℕ) (all : List ValueType) → StandFrom n (types_in d ls) all
    → (p : Declaration) (o : Option Given) → IfSome o (IsGiven (seen d ls)) → kind_accepts p.kind o ≡ true
    → HasType (whole d all) (argument_in n o) (type_in d p)
given_has d ls n all stand p None h t = absurd (let off : false ≡ true = t in cc)
given_has d ls n all stand p (Some g) h t =
    moved_type (environment (seen d ls)) n all stand (value_by g) (type_in d p) (accepts_has (seen d ls) p.kind g h t)

-- 0 and null have theirs
cleared_has : (d : Declared) (all : List ValueType) (k : Kind)
    → HasType (whole d all) (cleared k) (type_of (names_of_records d.records) k)
cleared_has d all kind.Int = tt
cleared_has d all (kind.Record r) = tt

-- parameters that stand among the locals are set to what they take
pub set_sound : (d : Declared) (ls : List Declaration) (n : ℕ) (all : List ValueType) → StandFrom n (types_in d ls) all
    → (x : ℕ) (ps : List Declaration) (vs : List Operand) (k : TextView) → StandFrom x (types_in d ps) all
    → length ps ≡ length vs → all_accept (seen d ls) ps vs ≡ true → IsSound (whole d all) true k
    → IsSound (whole d all) true (write_parameters (view d ls n) x ps vs k)
set_sound d ls n all stand x [] vs k there same t h = h
set_sound d ls n all stand x (p ∷ ps) [] k there same t h = absurd (omega (arith, same))
set_sound d ls n all stand x (p ∷ ps) (u ∷ us) k there same t h =
    let o = operand_of (seen d ls) u in
    let taken = and_parts (kind_accepts p.kind o) (all_accept (seen d ls) ps us) t in
    let few = types_in d ps in (
      (
        type_in d p,
        stand_first x (type_in d p) few all there,
        given_has d ls n all stand p o (operand_there (seen d ls) u) taken.0,
      ),
      tt,
      set_sound d ls n all stand (x + 1) ps us k (stand_next x (type_in d p) few all there)
          (omega (arith, same)) taken.1 h,
    )

-- and locals to 0 or null
pub clear_sound : (d : Declared) (all : List ValueType) (x : ℕ) (ds : List Declaration) (k : TextView)
    → StandFrom x (types_in d ds) all → IsSound (whole d all) true k → IsSound (whole d all) true (write_locals x ds k)
clear_sound d all x [] k there h = h
clear_sound d all x (l ∷ ds) k there h =
    let few = types_in d ds in (
      (type_in d l, stand_first x (type_in d l) few all there, cleared_has d all l.kind),
      tt,
      clear_sound d all (x + 1) ds k (stand_next x (type_in d l) few all there) h,
    )

-- the arguments of a call are as many as the parameters, which take them
abbrev pub IsTaken : Declared → List Declaration → Option ℕ → List Operand → Type 0
IsTaken d ls q vs = (p : Procedure) → procedure_numbered d.procedures q ≡ Some p
    → (length p.parameters ≡ length vs) × (all_accept (seen d ls) p.parameters vs ≡ true)

same_procedure : (ps : List Procedure) (q : Option ℕ) → procedure_at ps q ≡ procedure_numbered ps q
same_procedure ps None = refl
same_procedure ps (Some q) = refl

or_not : (a b : Bool) → a ≡ true → (not a || b) ≡ true → b ≡ true
or_not true b h g = g
or_not false b h g = absurd (let off : false ≡ true = h in cc)

taken_by : (d : Declared) (ls : List Declaration) (o : Option Procedure) (vs : List Operand) (p : Procedure)
    → o ≡ Some p
    → as_many o vs ≡ true → call_agrees (seen d ls) o vs ≡ true
    → (length p.parameters ≡ length vs) × (all_accept (seen d ls) p.parameters vs ≡ true)
taken_by d ls None vs p e a r = absurd (cc)
taken_by d ls (Some q) vs p e a r =
    let same : q ≡ p = cc in
    let right = or_not (nat_eq (length q.parameters) (length vs)) (all_accept (seen d ls) q.parameters vs) a r in
    subst (λ (x : Procedure). (length x.parameters ≡ length vs) × (all_accept (seen d ls) x.parameters vs ≡ true)) same
    (eqb-true (length q.parameters) (length vs) a, right)

-- a clean call's are
pub taken : (d : Declared) (ls : List Declaration) (at : Place) (f : List ℕ) (vs : List Operand)
    → IsClean d (AStatement (CallHead f vs) ls at) → IsTaken d ls (number_of d.procedures f) vs
taken d ls at f vs h p e =
    let o = procedure_of d.procedures f in
    let known = not-false (is_some (number_of d.procedures f) && knows_operands (seen d ls) vs) h.known in
    taken_by d ls o vs p (same_procedure d.procedures (number_of d.procedures f)
    ∙ e) (not-false (as_many o vs) h.counted)
    (and_not _ (call_agrees (seen d ls) o vs) known h.right)

stands_right : (inside b : Bool) (a : Action) → is_shared a ≡ b → (b && not inside) ≡ false → StandsRight inside a
stands_right true b a e h = tt
stands_right false true a e h = absurd (let off : true ≡ false = h in cc)
stands_right false false a e h = e

-- where a block stands
pub inside_deeper : (at : Place) → is_inside (deeper at) ≡ is_inside at
inside_deeper (InThread inside depth) = refl
inside_deeper (InProcedure p) = refl

-- the expansion of a call that takes its arguments is sound where its fresh locals stand from the next one on
abbrev pub SoundCalls : Declared → List ValueType → Writer → Freshens → Type 0
SoundCalls d all call fresh =
    (q : Option ℕ) (ls : List Declaration) (n : ℕ) (a : NextNumbers) (c : ℕ) (vs : List Operand) (k : TextView)
    → IsTaken d ls q vs → StandFrom n (types_in d ls) all → StandFrom a.fresh (fresh_types d (fresh q c)) all
    → IsSound (whole d all) true k → IsSound (whole d all) true (call q (view d ls n) a vs k)

-- a clean body is sound where its variables stand from n on, and its fresh locals from the next one on
mutual
  pub statement_sound : (d : Declared) (all : List ValueType) (table : List Sums) (call : Writer) (fresh : Freshens)
      → SoundCalls d all call fresh → CountsFresh table fresh
      → (ls : List Declaration) (at : Place) (n : ℕ) (a : NextNumbers) (c : ℕ) (s : StatementView) (k : TextView)
      → StandFrom n (types_in d ls) all → IsCleanStatement d ls at s
      → StandFrom a.fresh (fresh_types d (statement_fresh d.procedures table fresh c s)) all
      → IsSound (whole d all) (is_inside at) k
      → IsSound (whole d all) (is_inside at) (written_statement d.procedures table call (view d ls n) a s k)
  statement_sound d all table call fresh m i ls at n a c (Primitive p) k stand h f g =
      let x = resolved d ls at a.sites p h in (
        moved_sound (environment (seen d ls)) n all stand _ x.sound,
        stands_right (is_inside at) (shares (PrimitiveHead p)) _ (moved_shared n _ ∙ x.shared) h.stands,
        g,
      )
  statement_sound d all table call fresh m i ls at n a c (If t b) k stand h f g = (
    moved_holds (environment (seen d ls)) n all stand _ (resolved_test d ls at t h.0),
    subst (λ z. IsSound (whole d all) z (written_block d.procedures table call (view d ls n) a b)) (inside_deeper at)
        (block_sound d all table call fresh m i ls (deeper at) n a c b stand h.1 f),
    tt,
    g,
  )
  statement_sound d all table call fresh m i ls at n a c (IfElse t b e) k stand h f g =
      let ps = d.procedures in
      let past = past_block ps table a b in
      let x = block_fresh ps table fresh c b in
      let y = block_fresh ps table fresh (c + (block_sums ps table b).calls) e in (
        moved_holds (environment (seen d ls)) n all stand _ (resolved_test d ls at t h.0),
        subst (λ z. IsSound (whole d all) z (written_block ps table call (view d ls n) a b)) (inside_deeper at)
            (block_sound d all table call fresh m i ls (deeper at) n a c b stand h.1 (fresh_left d a.fresh x y all f)),
        subst (λ z. IsSound (whole d all) z (written_block ps table call (view d ls n) past e)) (inside_deeper at)
            (block_sound d all table call fresh m i ls (deeper at) n past _ e stand h.2
            (fresh_right d a.fresh _ x y all (block_freshens ps table fresh i c b) f)),
        g,
      )
  statement_sound d all table call fresh m i ls at n a c (While t b) k stand h f g = (
    moved_holds (environment (seen d ls)) n all stand _ (resolved_test d ls at t h.0),
    subst (λ z. IsSound (whole d all) z (written_block d.procedures table call (view d ls n) a b)) (inside_deeper at)
        (block_sound d all table call fresh m i ls (deeper at) n a c b stand h.1 f),
    g,
  )
  statement_sound d all table call fresh m i ls at n a c (Atomic lock b) k stand h f g =
      let e : NextNumbers = record a { sections = a.sections + 1 } in (
        h.0.flat,
        subst (λ z. IsSound (whole d all) z (written_block d.procedures table call (view d ls n) e b))
            (inside_section at)
            (block_sound d all table call fresh m i ls (in_section at) n e c b stand h.1 f),
        g,
      )
  statement_sound d all table call fresh m i ls at n a c (Call x vs) k stand h f g =
      let q = number_of d.procedures x in
      let inside = not-false (is_inside at) h.stands in
      subst (λ z. IsSound (whole d all) z (call q (view d ls n) a vs k)) (sym inside)
      (m q ls n a c vs k (taken d ls at x vs h) stand f (subst (λ z. IsSound (whole d all) z k) inside g))

  pub block_sound : (d : Declared) (all : List ValueType) (table : List Sums) (call : Writer) (fresh : Freshens)
      → SoundCalls d all call fresh → CountsFresh table fresh
      → (ls : List Declaration) (at : Place) (n : ℕ) (a : NextNumbers) (c : ℕ) (b : BlockView)
      → StandFrom n (types_in d ls) all → IsCleanBlock d ls at b
      → StandFrom a.fresh (fresh_types d (block_fresh d.procedures table fresh c b)) all
      → IsSound (whole d all) (is_inside at) (written_block d.procedures table call (view d ls n) a b)
  block_sound d all table call fresh m i ls at n a c End stand h f = tt
  block_sound d all table call fresh m i ls at n a c (Then s b) stand h f =
      let ps = d.procedures in
      let x = statement_fresh ps table fresh c s in
      let y = block_fresh ps table fresh (c + (statement_sums ps table s).calls) b in
      statement_sound d all table call fresh m i ls at n a c s _ stand h.0 (fresh_left d a.fresh x y all f)
      (block_sound d all table call fresh m i ls at n (past_statement ps table a s) _ b stand h.1
      (fresh_right d a.fresh _ x y all (statement_freshens ps table fresh i c s) f))

-- where the fresh locals of a call stand, there stand its parameters, then its locals, then those of its body
record CallStands (d : Declared) (all : List ValueType) (n : ℕ) (p : Procedure) (more : List ValueType) : Type 0 where
  variables_stand : StandFrom n (types_in d (variables p)) all
  parameters_stand : StandFrom n (types_in d p.parameters) all
  locals_stand : StandFrom (n + length p.parameters) (types_in d p.locals) all
  block_stands : StandFrom (n + (length p.parameters + length p.locals)) more all

own_long : (c : ℕ) (p : Procedure) → length (of_call c (variables p)) ≡ length p.parameters + length p.locals
own_long c p = of_call_long c (variables p) ∙ length-append p.parameters p.locals

call_stands : (d : Declared) (all : List ValueType) (n c : ℕ) (p : Procedure) (more : List Fresh)
    → StandFrom n (fresh_types d (of_call c (variables p) ++ more)) all → CallStands d all n p (fresh_types d more)
call_stands d all n c p more h =
    let own = of_call c (variables p) in
    let v = subst (λ l. StandFrom n l all) (call_types d c (variables p)) (fresh_left d n own more all h) in
    let x = types_in d p.parameters in
    let y = types_in d p.locals in
    let w = subst (λ l. StandFrom n l all) (types_both d p.parameters p.locals) v in
    record {
      variables_stand = v;
      parameters_stand = stand_left n x y all w;
      locals_stand = stand_right n (length p.parameters) x y all (types_long d p.parameters) w;
      block_stands = fresh_right d n _ own more all (own_long c p) h;
    }

call_sound : (d : Declared) (all : List ValueType) → AreClean d d.procedures → (table : List Sums) (call : Writer)
    (fresh : Freshens) → SoundCalls d all call fresh → CountsFresh table fresh
    → (o : Option Procedure) (q : Option ℕ) → procedure_numbered d.procedures q ≡ o
    → (ls : List Declaration) (n : ℕ) (a : NextNumbers) (c : ℕ) (vs : List Operand) (k : TextView) → IsTaken d ls q vs
    → StandFrom n (types_in d ls) all → StandFrom a.fresh (fresh_types d (fresh_of d.procedures table fresh o c)) all
    → IsSound (whole d all) true k
    → IsSound (whole d all) true (written_call d.records d.globals d.procedures table call o q (view d ls n) a vs k)
call_sound d all clean table call fresh m i None q e ls n a c vs k t stand f g = g
call_sound d all clean table call fresh m i (Some p) q e ls n a c vs k t stand f g =
    let x = called_clean d d.procedures clean q p e in
    let b = after_call a p in
    let text = written_block d.procedures table call (view d (variables p) a.fresh) b p.body in
    let at = call_stands d all a.fresh c p (block_fresh d.procedures table fresh (c + 1) p.body) f in
    let sound = block_sound d all table call fresh m i (variables p) (InProcedure x.0) a.fresh b (c + 1) p.body
    at.variables_stand x.1 at.block_stands in
    set_sound d ls n all stand a.fresh p.parameters vs _ at.parameters_stand (t p e).0 (t p e).1
    (clear_sound d all (a.fresh + length p.parameters) p.locals (joined text k) at.locals_stand
    (sound_joined (whole d all) true text k sound g))

-- the expansion of a call is sound
pub calls_sound : (n : ℕ) (d : Declared) (all : List ValueType) → AreClean d d.procedures
    → SoundCalls d all (written_within n d.records d.globals d.procedures) (fresh_within n d.procedures)
calls_sound zero d all clean q ls n a c vs k t stand f g = g
calls_sound (suc i) d all clean q ls n a c vs k t stand f g =
    let ps = d.procedures in
    call_sound d all clean (sums_within i ps) (written_within i d.records d.globals ps) (fresh_within i ps)
    (calls_sound i d all clean) (call_freshens i ps) (procedure_numbered ps q) q refl ls n a c vs k t stand f g

-- the text of a thread is sound for its locals, the fresh ones behind its own
pub thread_sound : (t : TreeView) → AreClean (declared_in t) t.procedures → (a : NextNumbers) (h : Thread)
    → IsCleanBlock (declared_in t) h.locals (InThread false 1) h.body
    → IsSound (whole (declared_in t) (local_types_of t h)) false (written_thread t a h)
thread_sound t clean a h g =
    let d = declared_in t in
    let ps = t.procedures in
    let n = length ps in
    let own = types_in d h.locals in
    let fresh = fresh_types d (fresh_in t h) in
    block_sound d (local_types_of t h) (sums ps) (written_within n t.records t.globals ps) (fresh_within n ps)
    (calls_sound n d (local_types_of t h) clean) (call_freshens n ps) h.locals (InThread false 1) 0
    (record a { fresh = length h.locals }) 0 h.body (stand_whole own fresh) g
    (stand_behind (length h.locals) own fresh (types_long d h.locals))

pub threads_sound : (t : TreeView) → AreClean (declared_in t) t.procedures → (a : NextNumbers) (hs : List Thread)
    → AreCleanThreads (declared_in t) hs
    → AreSound (field_types (names_of_records t.records) t.records)
    (global_records (names_of_records t.records) t.globals)
    (map (local_types_of t) hs) (written_threads t a hs)
threads_sound t clean a [] g = tt
threads_sound t clean a (h ∷ hs) g = (thread_sound t clean a h g.0, threads_sound t clean (past_thread t a h) hs g.1)

-- the texts of a typed tree are sound
pub typed_sound : (t : TreeView) → IsTyped t
    → AreSound (field_types (names_of_records t.records) t.records)
    (global_records (names_of_records t.records) t.globals)
    (map (local_types_of t) t.threads) (written_texts t)
typed_sound t h =
    threads_sound t (typed_clean t h) (record { sites = length t.globals; sections = 0; fresh = 0 }) t.threads
    (text_clean t h).1
