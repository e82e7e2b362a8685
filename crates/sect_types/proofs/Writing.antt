-- Writing an expansion, statement by statement.
use Rattle.std.proofs.Common.{◌≡◌, ℕ, zero, suc, ◌+◌, ◌<◌, ◌≤◌, List, [], ◌∷◌, drop, get_or, Option, Some, None, refl}
use Rattle.std.proofs.Common.{sym, ◌∙◌, ap, arith, length, slice_get, subst, length-append, ◌*◌}
use Rattle.std.proofs.lemmas.List.{drop_all}
use Rattle.sect_front.specs.{declared.tree.Declaration.{Declaration}, declared.tree.Operand.{Operand}}
use Rattle.sect_front.specs.{declared.tree.Procedure.{Procedure}, declared.tree.Record.{Record}}
use Rattle.sect_front.specs.declared.tree.GlobalObject.{GlobalObject}
use Rattle.sect_front.specs.Syntax.{StatementView, Primitive, If, IfElse, While, Atomic, Call, BlockView, End, Then}
use Rattle.sect_front.specs.{TreeView.{TreeView}, declared.tree.Test.{Test}, declared.tree.Locking.{Locking}}
use Rattle.sect_front.specs.{declared.tree.Statement.{Statement}, Trees.{statement_of, block_of, block_size}}
use Rattle.sect_types.specs.{declared.expansion.action.Value.{Value}, declared.expansion.action.Action.{Action}}
use Rattle.sect_types.specs.{declared.expansion.action.Condition.{Condition}, Numbered.{action_of, condition_of}}
use Rattle.sect_types.specs.{declared.expansion.text.Step.{Step}, declared.counting.sums.Sums.{Sums}}
use Rattle.sect_types.specs.{Sight.{Sight, operand_of}, Rules.{sight}, Items.{variables}}
use Rattle.sect_types.specs.Sums.{sums_at, sums_within, block_sums, number_of, statement_sums, sums_of}
use Rattle.sect_types.specs.{Statements.{TextView, Stop, Do, Choose, Loop, Section, joined}, Texts.{step_then}}
use Rattle.sect_types.specs.Expanded.{Scene, block_sections, past_block, cleared, moved_action, moved_condition}
use Rattle.sect_types.specs.Expanded.{after_call, procedure_numbered, NextNumbers, statement_sections, past_statement}
use Rattle.sect_types.specs.Limits.{most_all_locals}
use Rattle.sect_types.specs.steps.Written.{action_in, condition_in, Writer, written_block, argument_in}
use Rattle.sect_types.specs.steps.Written.{write_parameters, write_locals, written_call, written_within}
use Rattle.sect_types.specs.steps.Expansion.{Appends, IsPast, table_by, calls_by, view_of, statement_by, block_by}
use Rattle.sect_types.specs.steps.Expansion.{argument_at, HasRoom, IsExpanding, total_size}
use Rattle.sect_lemmas.proofs.Elements.{drop_next}
use Rattle.sect_types.proofs.{shared.Joining.{joined_stop, joined_again}, Passing.{next_of}, Filling.{joined_step}}
use Rattle.sect_types.proofs.CountLaws.{looked}
use Rattle.sect_types.specs.declared.expansion.action.Value.TheVariants as value
use Rattle.sect_types.specs.declared.expansion.action.Action.TheVariants as action
use Rattle.sect_front.specs.declared.tree.Primitive as leaf
use Rattle.sect_types.specs.declared.expansion.text.Step.TheVariants as step

pub pushed : (old new : TextView) (s : Step) → new ≡ joined old (step_then s Stop) → Appends old new (step_then s)
pushed old new s e k = ap (λ t. joined t k) e ∙ joined_step old s k

-- a text of its own
pub alone : (new e : TextView) → Appends Stop new (joined e) → new ≡ e
alone new e h = sym (joined_stop new) ∙ h Stop ∙ joined_stop e

-- the local at an index is set to 0 or null
pub cleared_more : (old text new : TextView) (start i : ℕ) (ds : List Declaration) (d : Declaration) (v : Value)
    → i < length ds → d ≡ get_or ds i d → v ≡ cleared (get_or ds i d).kind
    → ((k : TextView) → joined text (write_locals (start + i) (drop i ds) k) ≡ joined old (write_locals start ds k))
    → new ≡ joined text (step_then (step.Do (action.Assign (start + i) v)) Stop) → (k : TextView)
    → joined new (write_locals (start + (i + 1)) (drop (i + 1) ds) k) ≡ joined old (write_locals start ds k)
cleared_more old text new start i ds d v lt is same inv e k =
    let next : start + (i + 1) ≡ start + i + 1 = omega arith in
    let here = same ∙ ap (λ (x : Declaration). cleared x.kind) (sym is) in
    pushed text new (step.Do (action.Assign (start + i) v)) e (write_locals (start + (i + 1)) (drop (i + 1) ds) k)
    ∙ (λ j. joined text (Do (action.Assign (start + i) (here j)) (write_locals (next j) (drop (i + 1) ds) k)))
    ∙ ap (λ l. joined text (write_locals (start + i) l k)) (sym (drop_next ds i d lt is)) ∙ inv k

next_index : (i : ℕ) → suc (i + 1) ≡ suc i + 1
next_index i = omega arith

two_more : (i : ℕ) → suc (suc i) ≡ suc i + 1
two_more i = omega arith

drop_one : (vs : List Operand) (i : ℕ) → drop 1 (drop i vs) ≡ drop (i + 1) vs
drop_one vs zero = refl
drop_one [] (suc i) = ap (λ n. drop {A = Operand} n []) (two_more i)
drop_one (v ∷ vs) (suc i) = drop_one vs i ∙ ap (λ n. drop n (v ∷ vs)) (next_index i)

argument_there : (v : Scene) (vs : List Operand) (i : ℕ) → argument_at v (drop i vs) 0 ≡ argument_at v vs i
argument_there v vs zero = refl
argument_there v [] (suc i) = refl
argument_there v (u ∷ vs) (suc i) = argument_there v vs i

set_first : (v : Scene) (x : ℕ) (d : Declaration) (ds : List Declaration) (vs : List Operand) (k : TextView)
    → write_parameters v x (d ∷ ds) vs k ≡ Do (action.Assign x (argument_at v vs 0))
    (write_parameters v (x + 1) ds (drop 1 vs) k)
set_first v x d ds [] k = refl
set_first v x d ds (u ∷ us) k = refl

next_there : (ds : List Declaration) (i : ℕ) → i < length ds → (d : Declaration) × (drop i ds ≡ d ∷ drop (i + 1) ds)
next_there [] i lt = absurd (omega arith)
next_there (x ∷ xs) zero lt = (x, refl)
next_there (x ∷ xs) (suc i) lt =
    let more = next_there xs i (omega arith) in
    let next : suc (i + 1) ≡ suc i + 1 = omega arith in
    (more.0, more.1 ∙ ap (λ n. more.0 ∷ drop n (x ∷ xs)) next)

-- the parameter at an index is set to its argument
pub set_more : (v : Scene) (old text new : TextView) (start i : ℕ) (ds : List Declaration) (vs : List Operand)
    (w : Value)
    → i < length ds → w ≡ argument_at v vs i
    → ((k : TextView)
    → joined text (write_parameters v (start + i) (drop i ds) (drop i vs) k) ≡ joined old
    (write_parameters v start ds vs k))
    → new ≡ joined text (step_then (step.Do (action.Assign (start + i) w)) Stop) → (k : TextView)
    → joined new (write_parameters v (start + (i + 1)) (drop (i + 1) ds) (drop (i + 1) vs) k)
    ≡ joined old (write_parameters v start ds vs k)
set_more v old text new start i ds vs w lt same inv e k =
    let next : start + (i + 1) ≡ start + i + 1 = omega arith in
    let here = same ∙ sym (argument_there v vs i) in
    let there = next_there ds i lt in
    let left = drop (i + 1) ds in
    pushed text new (step.Do (action.Assign (start + i) w)) e
    (write_parameters v (start + (i + 1)) left (drop (i + 1) vs) k)
    ∙ (λ j. joined text (Do (action.Assign (start + i) (here j))
    (write_parameters v (next j) left (sym (drop_one vs i) j) k)))
    ∙ ap (joined text) (sym (set_first v (start + i) there.0 left (drop i vs) k))
    ∙ ap (λ l. joined text (write_parameters v (start + i) l (drop i vs) k)) (sym there.1) ∙ inv k

-- nothing is left to be set
pub cleared_all : (start i : ℕ) (ds : List Declaration) (k : TextView) → length ds ≤ i
    → write_locals (start + i) (drop i ds) k ≡ k
cleared_all start i ds k le = ap (λ l. write_locals (start + i) l k) (drop_all i ds le)

pub set_all : (v : Scene) (start i : ℕ) (ds : List Declaration) (vs : List Operand) (k : TextView) → length ds ≤ i
    → write_parameters v (start + i) (drop i ds) vs k ≡ k
set_all v start i ds vs k le = ap (λ l. write_parameters v (start + i) l vs k) (drop_all i ds le)

-- the position behind a statement, and behind a block
pub at_past : (ps : List Procedure) (table : List Sums) (a e : NextNumbers) (s : StatementView)
    → IsPast a e (statement_sums ps table s) (statement_sections s) → e ≡ past_statement ps table a s
at_past ps table a e s h = λ i. record { sites = h.of_sites i; sections = h.of_sections i; fresh = h.of_fresh i }

pub at_past_block : (ps : List Procedure) (table : List Sums) (a e : NextNumbers) (b : BlockView)
    → IsPast a e (block_sums ps table b) (block_sections b) → e ≡ past_block ps table a b
at_past_block ps table a e b h = λ i. record { sites = h.of_sites i; sections = h.of_sections i; fresh = h.of_fresh i }

-- what follows a call can be written behind it
abbrev Follows : Writer → Type 0
Follows call = (q : Option ℕ) (v : Scene) (a : NextNumbers) (vs : List Operand) (k l : TextView)
    → joined (call q v a vs k) l ≡ call q v a vs (joined k l)

set_follows : (v : Scene) (x : ℕ) (ds : List Declaration) (vs : List Operand) (k l : TextView)
    → joined (write_parameters v x ds vs k) l ≡ write_parameters v x ds vs (joined k l)
set_follows v x [] vs k l = refl
set_follows v x (d ∷ ds) [] k l = ap (Do (action.Assign x value.Null)) (set_follows v (x + 1) ds [] k l)
set_follows v x (d ∷ ds) (u ∷ us) k l =
    ap (Do (action.Assign x (argument_in v.first (operand_of v.sight u)))) (set_follows v (x + 1) ds us k l)

cleared_follows : (x : ℕ) (ds : List Declaration) (k l : TextView)
    → joined (write_locals x ds k) l ≡ write_locals x ds (joined k l)
cleared_follows x [] k l = refl
cleared_follows x (d ∷ ds) k l = ap (Do (action.Assign x (cleared d.kind))) (cleared_follows (x + 1) ds k l)

call_follows : (rs : List Record) (gs : List GlobalObject) (ps : List Procedure) (table : List Sums) (call : Writer)
    (o : Option Procedure) → Follows (written_call rs gs ps table call o)
call_follows rs gs ps table call None q v a vs k l = refl
call_follows rs gs ps table call (Some p) q v a vs k l =
    let inner : Scene = record { sight = sight rs gs (variables p); first = a.fresh } in
    let text = written_block ps table call inner (after_call a p) p.body in
    let x = a.fresh + length p.parameters in
    set_follows v a.fresh p.parameters vs (write_locals x p.locals (joined text k)) l
    ∙ ap (write_parameters v a.fresh p.parameters vs) (cleared_follows x p.locals (joined text k) l)
    ∙ ap (λ y. write_parameters v a.fresh p.parameters vs (write_locals x p.locals y)) (joined_again text k l)

calls_follow : (n : ℕ) (rs : List Record) (gs : List GlobalObject) (ps : List Procedure)
    → Follows (written_within n rs gs ps)
calls_follow zero rs gs ps q v a vs k l = refl
calls_follow (suc n) rs gs ps q v a vs k l =
    call_follows rs gs ps (sums_within n ps) (written_within n rs gs ps) (procedure_numbered ps q) q v a vs k l

pub statement_follows : (t : TreeView) (n : ℕ) (s : Sight) (first : ℕ) (a : NextNumbers) (f : StatementView)
    (k l : TextView)
    → joined (statement_by t n s first a f k) l ≡ statement_by t n s first a f (joined k l)
statement_follows t n s first a (Primitive p) k l = refl
statement_follows t n s first a (If c b) k l = refl
statement_follows t n s first a (IfElse c b e) k l = refl
statement_follows t n s first a (While c b) k l = refl
statement_follows t n s first a (Atomic lock b) k l = refl
statement_follows t n s first a (Call f vs) k l =
    calls_follow n t.records t.globals t.procedures (number_of t.procedures f) (view_of s first) a vs k l

-- at the start of a block, and at its end
pub starts : (t : TreeView) (n : ℕ) (s : Sight) (first : ℕ) (block all : BlockView) (at : NextNumbers) (text : TextView)
    → all ≡ block → HasRoom at (block_sums t.procedures (table_by t n) block) (block_sections block)
    → IsExpanding t n s first block all all at at text text
starts t n s first block all at text e room = record {
  whole = e;
  written = λ k. ap (λ b. joined text (joined (block_by t n s first at b) k)) e;
  past = λ x h. subst (λ b. IsPast at x (block_sums t.procedures (table_by t n) b) (block_sections b)) e h;
  room = subst (λ b. HasRoom at (block_sums t.procedures (table_by t n) b) (block_sections b)) (sym e) room;
}

goes_on : (t : TreeView) (n : ℕ) (s : Sight) (first : ℕ) (block all : BlockView) (f : StatementView) (rest : BlockView)
    (old now next : NextNumbers) (before text new : TextView)
    → IsExpanding t n s first block all (Then f rest) old now before text
    → IsPast now next (statement_sums t.procedures (table_by t n) f) (statement_sections f)
    → Appends text new (statement_by t n s first now f) → IsExpanding t n s first block all rest old next before new
goes_on t n s first block all f rest old now next before text new h past writes = record {
  whole = h.whole;
  written = λ k.
      let b = block_by t n s first next rest in
      let same = at_past t.procedures (table_by t n) now next f past in
      writes (joined b k) ∙ ap (joined text) (sym (statement_follows t n s first now f b k))
      ∙ ap (λ e. joined text (joined (statement_by t n s first now f (block_by t n s first e rest)) k)) same
      ∙ h.written k;
  past = λ e g. h.past e (record {
    of_sites = omega (arith, past.of_sites, g.of_sites);
    of_sections = omega (arith, past.of_sections, g.of_sections);
    of_fresh = omega (arith, past.of_fresh, g.of_fresh);
  });
  room = record {
    for_sites = omega (arith, past.of_sites, h.room.for_sites);
    for_sections = omega (arith, past.of_sections, h.room.for_sections);
    for_fresh = omega (arith, past.of_fresh, h.room.for_fresh);
  };
}

-- the next statement is written
pub one_more : (t : TreeView) (n : ℕ) (s : Sight) (first : ℕ) (block : BlockView) (ss : List Statement) (i : ℕ)
    (x : Statement) (old now next : NextNumbers) (before text new : TextView) → i < length ss → x ≡ get_or ss i x
    → IsExpanding t n s first block (block_of ss) (block_of (drop i ss)) old now before text
    → IsPast now next (statement_sums t.procedures (table_by t n) (statement_of x))
    (statement_sections (statement_of x))
    → Appends text new (statement_by t n s first now (statement_of x))
    → IsExpanding t n s first block (block_of ss) (block_of (drop (i + 1) ss)) old next before new
one_more t n s first block ss i x old now next before text new lt e h past writes =
    goes_on t n s first block (block_of ss) (statement_of x) (block_of (drop (i + 1) ss)) old now next before text new
    (subst (λ b. IsExpanding t n s first block (block_of ss) b old now before text) (next_of ss i x lt e) h) past writes

ended : (t : TreeView) (n : ℕ) (s : Sight) (first : ℕ) (block all : BlockView) (ss : List Statement) (i : ℕ)
    (old now : NextNumbers) (before text : TextView) → length ss ≤ i
    → IsExpanding t n s first block all (block_of (drop i ss)) old now before text
    → IsExpanding t n s first block all End old now before text
ended t n s first block all ss i old now before text le h =
    subst (λ l. IsExpanding t n s first block all (block_of l) old now before text) (drop_all i ss le) h

pub ends_text : (t : TreeView) (n : ℕ) (s : Sight) (first : ℕ) (block all : BlockView) (ss : List Statement) (i : ℕ)
    (old now : NextNumbers) (before text : TextView) → length ss ≤ i
    → IsExpanding t n s first block all (block_of (drop i ss)) old now before text
    → Appends before text (joined (block_by t n s first old block))
ends_text t n s first block all ss i old now before text le h k =
    (ended t n s first block all ss i old now before text le h).written k

-- a call is an assignment for each parameter and local, and the body
pub called : (t : TreeView) (n q : ℕ) (p : Procedure) → slice_get t.procedures q ≡ Some p
    → sums_at (table_by t (suc n)) (Some q) ≡ sums_of t.procedures (table_by t n) (Some p)
called t n q p e = looked t.procedures (table_by t n) (Some q) ∙ ap (sums_of t.procedures (table_by t n)) e

call_written : (t : TreeView) (n q : ℕ) (p : Procedure) (s : Sight) (first : ℕ) (a : NextNumbers) (vs : List Operand)
    (zero_text one_text two_text new : TextView) → slice_get t.procedures q ≡ Some p
    → Appends zero_text one_text (write_parameters (view_of s first) a.fresh p.parameters vs)
    → Appends one_text two_text (write_locals (a.fresh + length p.parameters) p.locals)
    → Appends two_text new (joined
    (block_by t n (sight t.records t.globals (variables p)) a.fresh (after_call a p) p.body))
    → Appends zero_text new (calls_by t (suc n) (Some q) (view_of s first) a vs)
call_written t n q p s first a vs zero_text one_text two_text new e f g h k =
    let inner = sight t.records t.globals (variables p) in
    let text = block_by t n inner a.fresh (after_call a p) p.body in
    h k ∙ g (joined text k) ∙ f (write_locals (a.fresh + length p.parameters) p.locals (joined text k))
    ∙ ap
    (λ o. joined zero_text (written_call t.records t.globals t.procedures (table_by t n) (calls_by t n) o (Some q)
    (view_of s first) a vs k))
    (sym e)

-- the same, as the code has it
pub call_by_parts : (t : TreeView) (n fuel q : ℕ) (p : Procedure) (s inner : Sight) (first own : ℕ) (a b : NextNumbers)
    (ps ls : List Declaration) (vs : List Operand) (old one two new : TextView) → fuel ≡ suc n
    → slice_get t.procedures q ≡ Some p → inner ≡ sight t.records t.globals (variables p) → own ≡ a.fresh
    → ps ≡ p.parameters → ls ≡ p.locals → b ≡ record a { fresh = a.fresh + (length ps + length ls) }
    → Appends old one (write_parameters (view_of s first) own ps vs)
    → Appends one two (write_locals (own + length ps) ls)
    → Appends two new (joined (block_by t n inner own b p.body))
    → Appends old new (calls_by t fuel (Some q) (view_of s first) a vs)
call_by_parts t n fuel q p s inner first own a b ps ls vs old one two new f e i o x y c g h j k =
    call_written t n q p s first a vs old one two new e
    (λ l. g l ∙ (λ z. joined old (write_parameters (view_of s first) (o z) (x z) vs l)))
    (λ l. h l ∙ (λ z. joined one (write_locals (o z + length (x z)) (y z) l)))
    (λ l. j l ∙ (λ z. joined two (joined (block_by t n (i z) (o z) (at z) p.body) l))) k
    ∙ ap (λ m. joined old (calls_by t m (Some q) (view_of s first) a vs k)) (sym f)
  where
    at : b ≡ after_call a p
    at = c ∙ (λ z. record a { fresh = a.fresh + (length (x z) + length (y z)) })

-- what a call comes to
record CallCounts (t : TreeView) (n fuel q : ℕ) (p : Procedure) : Type 0 where
  sites_are : (sums_at (table_by t fuel) (Some q)).sites ≡ (block_sums t.procedures (table_by t n) p.body).sites
  fresh_are : (sums_at (table_by t fuel) (Some q)).fresh
      ≡ length p.parameters + length p.locals + (block_sums t.procedures (table_by t n) p.body).fresh

call_counts : (t : TreeView) (n fuel q : ℕ) (p : Procedure) → fuel ≡ suc n → slice_get t.procedures q ≡ Some p
    → CallCounts t n fuel q p
call_counts t n fuel q p f e =
    let same = ap (λ m. sums_at (table_by t m) (Some q)) f ∙ called t n q p e in
    record { sites_are = ap (λ (s : Sums). s.sites) same; fresh_are = ap (λ (s : Sums). s.fresh) same }

-- there are so many locals left for its variables
pub call_own : (t : TreeView) (n fuel q : ℕ) (p : Procedure) (a : NextNumbers) → fuel ≡ suc n
    → slice_get t.procedures q ≡ Some p
    → HasRoom a (sums_at (table_by t fuel) (Some q)) 0
    → a.fresh + (length p.parameters + length p.locals) ≤ most_all_locals
call_own t n fuel q p a f g h =
    let counts = call_counts t n fuel q p f g in omega (arith, h.for_fresh, counts.fresh_are)

-- a body is no larger than all bodies
pub size_within : (ps : List Procedure) (q : ℕ) (p : Procedure) → slice_get ps q ≡ Some p
    → block_size p.body ≤ total_size ps
size_within [] q p e = absurd (cc)
size_within (x ∷ ps) zero p e = let same : x ≡ p = cc in omega (arith, ap (λ (y : Procedure). block_size y.body) same)
size_within (x ∷ ps) (suc q) p e = omega (arith, size_within ps q p e)

-- the measure of a body is less than that of a call
pub falls : (n fuel total size : ℕ) → fuel ≡ suc n → size ≤ total
    → n * (4 * total + 3) + 4 * size + 2 < fuel * (4 * total + 3)
falls n fuel total size e le = omega (arith, e, le, ap (λ m. m * (4 * total + 3)) e)

-- the variables of a procedure are as many as it takes
pub own_locals : (t : TreeView) (n fuel q : ℕ) (p : Procedure) (a : NextNumbers) (s : Sight) (own : ℕ) → fuel ≡ suc n
    → slice_get t.procedures q ≡ Some p → s ≡ sight t.records t.globals (variables p) → own ≡ a.fresh
    → HasRoom a (sums_at (table_by t fuel) (Some q)) 0 → own + length s.locals ≤ most_all_locals
own_locals t n fuel q p a s own f g i o h =
    omega (
      arith,
      call_own t n fuel q p a f g h,
      ap (λ (x : Sight). length x.locals) i,
      o,
      length-append p.parameters p.locals,
    )

-- a statement is written by one step
pub primitive_written : (t : TreeView) (n : ℕ) (s : Sight) (first : ℕ) (a : NextNumbers) (f : StatementView)
    (p : leaf.Primitive)
    (x : Action) (old new : TextView) → f ≡ Primitive p → x ≡ moved_action first (action_in (action_of s a.sites p))
    → new ≡ joined old (step_then (step.Do x) Stop) → Appends old new (statement_by t n s first a f)
primitive_written t n s first a f p x old new e g h k =
    pushed old new (step.Do x) h k ∙ ap (λ y. joined old (Do y k)) g
    ∙ ap (λ y. joined old (statement_by t n s first a y k)) (sym e)

pub if_written : (t : TreeView) (n : ℕ) (s : Sight) (first : ℕ) (a : NextNumbers) (f : StatementView) (v : Test)
    (b : BlockView)
    (c : Condition) (p q old new : TextView) → f ≡ If v b → c ≡ moved_condition first (condition_in (condition_of s v))
    → p ≡ block_by t n s first a b → q ≡ Stop → new ≡ joined old (Choose c p q Stop)
    → Appends old new (statement_by t n s first a f)
if_written t n s first a f v b c p q old new e g h i j k =
    pushed old new (step.If c p q) j k ∙ (λ z. joined old (Choose (g z) (h z) (i z) k))
    ∙ ap (λ y. joined old (statement_by t n s first a y k)) (sym e)

pub either_written : (t : TreeView) (n : ℕ) (s : Sight) (first : ℕ) (a m : NextNumbers) (f : StatementView) (v : Test)
    (b d : BlockView) (c : Condition) (p q old new : TextView) → f ≡ IfElse v b d
    → c ≡ moved_condition first (condition_in (condition_of s v)) → p ≡ block_by t n s first a b
    → IsPast a m (block_sums t.procedures (table_by t n) b) (block_sections b) → q ≡ block_by t n s first m d
    → new ≡ joined old (Choose c p q Stop) → Appends old new (statement_by t n s first a f)
either_written t n s first a m f v b d c p q old new e g h past i j k =
    let there = i ∙ ap (λ x. block_by t n s first x d) (at_past_block t.procedures (table_by t n) a m b past) in
    pushed old new (step.If c p q) j k ∙ (λ z. joined old (Choose (g z) (h z) (there z) k))
    ∙ ap (λ y. joined old (statement_by t n s first a y k)) (sym e)

pub while_written : (t : TreeView) (n : ℕ) (s : Sight) (first : ℕ) (a : NextNumbers) (f : StatementView) (v : Test)
    (b : BlockView)
    (c : Condition) (inner old new : TextView) → f ≡ While v b
    → c ≡ moved_condition first (condition_in (condition_of s v))
    → inner ≡ block_by t n s first a b → new ≡ joined old (Loop c inner Stop)
    → Appends old new (statement_by t n s first a f)
while_written t n s first a f v b c inner old new e g h j k =
    pushed old new (step.While c inner) j k ∙ (λ z. joined old (Loop (g z) (h z) k))
    ∙ ap (λ y. joined old (statement_by t n s first a y k)) (sym e)

pub section_written : (t : TreeView) (n : ℕ) (s : Sight) (first : ℕ) (a m : NextNumbers) (f : StatementView)
    (lock : Locking)
    (b : BlockView) (number : ℕ) (inner old new : TextView) → f ≡ Atomic lock b → number ≡ a.sections
    → m ≡ record a { sections = a.sections + 1 } → inner ≡ block_by t n s first m b
    → new ≡ joined old (Section number inner Stop) → Appends old new (statement_by t n s first a f)
section_written t n s first a m f lock b number inner old new e g past h j k =
    let there = h ∙ ap (λ x. block_by t n s first x b) past in
    pushed old new (step.Section number inner) j k ∙ (λ z. joined old (Section (g z) (there z) k))
    ∙ ap (λ y. joined old (statement_by t n s first a y k)) (sym e)
