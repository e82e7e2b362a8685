-- How far an expansion has come, statement by statement.
use Rattle.std.proofs.Common.{◌≡◌, ℕ, zero, suc, ◌+◌, ◌*◌, ◌<◌, ◌≤◌, List, [], ◌∷◌, ◌++◌, map, drop, get_or, Some, sym}
use Rattle.std.proofs.Common.{◌∙◌, ap, arith, subst, length, append_assoc, slice_get, length-append, None, refl}
use Rattle.std.proofs.{lemmas.List.{drop_all, append-nil}, lemmas.Option.{slice_get-map}}
use Rattle.sect_front.specs.{declared.tree.Declaration.{Declaration}, declared.tree.Operand.{Operand}}
use Rattle.sect_front.specs.{declared.tree.Procedure.{Procedure}, declared.tree.Test.{Test}}
use Rattle.sect_front.specs.declared.tree.Statement.{Statement}
use Rattle.sect_front.specs.Syntax.{StatementView, IfElse, Call, BlockView, End, Then}
use Rattle.sect_front.specs.Trees.{statement_of, block_of, block_size}
use Rattle.sect_types.specs.{Limits.{most_all_locals, most_calls}, declared.expansion.expand.Fresh.{Fresh}}
use Rattle.sect_types.specs.{declared.counting.sums.Sums.{Sums}, Items.{variables}}
use Rattle.sect_types.specs.Sums.{sums_within, block_sums, sums_at, number_of}
use Rattle.sect_types.specs.Statements.{TextView, Stop, Choose, joined}
use Rattle.sect_types.specs.{declared.expansion.action.Condition.{Condition}, Numbered.{condition_of}}
use Rattle.sect_types.specs.Expanded.{moved_condition, Scene, of_call, block_fresh, fresh_of, fresh_within}
use Rattle.sect_types.specs.{Sight.{Sight, names_of_declared}, Rules.{sight}}
use Rattle.sect_types.specs.steps.Written.{condition_in, written_within, write_parameters, write_locals}
use Rattle.sect_types.specs.steps.Expanding.{SettingView, FrontView, Fits, front_past_statement, front_past_block}
use Rattle.sect_types.specs.steps.Expanding.{numbered_there, numbered_block, expanded_there, block_there, IsFront}
use Rattle.sect_types.specs.steps.{Expanding.{most_size, tree_of, AreFlat}, Expansion.{Appends, view_of}}
use Rattle.sect_types.specs.steps.Threads.{VariablesView, variables_shown}
use Rattle.std.specs.{Prelude.{IsSome}, Option.{option_map}}
use Rattle.sect_types.proofs.{Optional.{first_there, second_there}, Passing.{next_of}}
use Rattle.sect_types.proofs.Writing.{called, statement_follows, call_by_parts, alone, either_written}
use Rattle.sect_lemmas.proofs.Elements.{drop_next}

-- two fronts of the same parts
pub front_same : (a b : FrontView) → a.at.sites ≡ b.at.sites → a.at.sections ≡ b.at.sections → a.at.fresh ≡ b.at.fresh
    → a.calls ≡ b.calls → a.fresh ≡ b.fresh → a ≡ b
front_same a b e f g h i = λ j. record {
  at = record { sites = e j; sections = f j; fresh = g j };
  calls = h j;
  fresh = i j;
}

-- past the first statement of a block
then_front : (w : SettingView) (n : ℕ) (f : FrontView) (s : StatementView) (b : BlockView)
    → front_past_block w n (front_past_statement w n f s) b ≡ front_past_block w n f (Then s b)
then_front w n f s b =
    front_same (front_past_block w n (front_past_statement w n f s) b) (front_past_block w n f (Then s b))
    (omega arith) (omega arith) (omega arith) (omega arith) (append_assoc f.fresh _ _)

-- at the start of a block
pub starts : (w : SettingView) (n : ℕ) (v : Scene) (block all : BlockView) (f : FrontView) (text : TextView)
    → all ≡ block → IsSome (numbered_block w n v f block)
    → IsFront w n v block all all f f text text
starts w n v block all f text e k = record {
  whole = e;
  written = λ k. ap (λ b. joined text (joined (block_there w n v f b) k)) e;
  past = ap (front_past_block w n f) e;
  known = subst (λ b. IsSome (numbered_block w n v f b)) (sym e) k;
}

part_fits : (w : SettingView) (n : ℕ) (f : FrontView) (s : StatementView) (b : BlockView)
    → Fits (front_past_block w n f (Then s b)) → Fits (front_past_statement w n f s)
part_fits w n f s b h = record {
  few_sites = omega (arith, h.few_sites);
  few_sections = omega (arith, h.few_sections);
  few_locals = omega (arith, h.few_locals);
  few_calls = omega (arith, h.few_calls);
}

-- the next statement fits
pub next_fits : (w : SettingView) (n : ℕ) (v : Scene) (block : BlockView) (ss : List Statement) (i : ℕ) (x : Statement)
    (old now : FrontView) (before text : TextView) → i < length ss → x ≡ get_or ss i x
    → IsFront w n v block (block_of ss) (block_of (drop i ss)) old now before text
    → Fits (front_past_block w n old block)
    → Fits (front_past_statement w n now (statement_of x))
next_fits w n v block ss i x old now before text lt is h fits =
    part_fits w n now (statement_of x) (block_of (drop (i + 1) ss))
    (subst (λ b. Fits (front_past_block w n now b)) (next_of ss i x lt is) (subst Fits (sym h.past) fits))

-- and is there by numbers
pub next_known : (w : SettingView) (n : ℕ) (v : Scene) (block : BlockView) (ss : List Statement) (i : ℕ)
    (x : Statement) (old now : FrontView) (before text : TextView) → i < length ss → x ≡ get_or ss i x
    → IsFront w n v block (block_of ss) (block_of (drop i ss)) old now before text
    → IsSome (numbered_there w n v now (statement_of x))
next_known w n v block ss i x old now before text lt is h =
    first_there joined (numbered_there w n v now (statement_of x)) _
    (subst (λ b. IsSome (numbered_block w n v now b)) (next_of ss i x lt is) h.known)

goes_on : (w : SettingView) (n : ℕ) (v : Scene) (block all : BlockView) (s : StatementView) (rest : BlockView)
    (old now next : FrontView) (before text new : TextView) → IsFront w n v block all (Then s rest) old now before text
    → next ≡ front_past_statement w n now s → Appends text new (expanded_there w n v now s)
    → IsFront w n v block all rest old next before new
goes_on w n v block all s rest old now next before text new h e writes = record {
  whole = h.whole;
  written = λ k.
      let b = block_there w n v next rest in
      writes (joined b k)
      ∙ ap (joined text) (sym (statement_follows (tree_of w []) n v.sight v.first now.at s b k))
      ∙ ap (λ (x : FrontView). joined text (joined (expanded_there w n v now s (block_there w n v x rest)) k)) e
      ∙ h.written k;
  past = ap (λ x. front_past_block w n x rest) e ∙ then_front w n now s rest ∙ h.past;
  known = subst (λ x. IsSome (numbered_block w n v x rest)) (sym e)
      (second_there joined (numbered_there w n v now s) (numbered_block w n v (front_past_statement w n now s) rest)
      h.known);
}

-- the next statement is written
pub one_more : (w : SettingView) (n : ℕ) (v : Scene) (block : BlockView) (ss : List Statement) (i : ℕ) (x : Statement)
    (old now next : FrontView) (before text new : TextView) → i < length ss → x ≡ get_or ss i x
    → IsFront w n v block (block_of ss) (block_of (drop i ss)) old now before text
    → next ≡ front_past_statement w n now (statement_of x)
    → Appends text new (expanded_there w n v now (statement_of x))
    → IsFront w n v block (block_of ss) (block_of (drop (i + 1) ss)) old next before new
one_more w n v block ss i x old now next before text new lt is h e writes =
    goes_on w n v block (block_of ss) (statement_of x) (block_of (drop (i + 1) ss)) old now next before text new
    (subst (λ b. IsFront w n v block (block_of ss) b old now before text) (next_of ss i x lt is) h) e writes

ended : (w : SettingView) (n : ℕ) (v : Scene) (block all : BlockView) (ss : List Statement) (i : ℕ)
    (old now : FrontView)
    (before text : TextView) → length ss ≤ i → IsFront w n v block all (block_of (drop i ss)) old now before text
    → IsFront w n v block all End old now before text
ended w n v block all ss i old now before text le h =
    subst (λ l. IsFront w n v block all (block_of l) old now before text) (drop_all i ss le) h

pub ends_text : (w : SettingView) (n : ℕ) (v : Scene) (block all : BlockView) (ss : List Statement) (i : ℕ)
    (old now : FrontView) (before text : TextView) → length ss ≤ i
    → IsFront w n v block all (block_of (drop i ss)) old now before text
    → Appends before text (joined (block_there w n v old block))
ends_text w n v block all ss i old now before text le h k =
    (ended w n v block all ss i old now before text le h).written k

pub ends_front : (w : SettingView) (n : ℕ) (v : Scene) (block all : BlockView) (ss : List Statement) (i : ℕ)
    (old now : FrontView) (before text : TextView) → length ss ≤ i
    → IsFront w n v block all (block_of (drop i ss)) old now before text → now ≡ front_past_block w n old block
ends_front w n v block all ss i old now before text le h =
    front_same now (front_past_block w n now End) (omega arith) (omega arith) (omega arith) (omega arith)
    (sym (append-nil now.fresh))
    ∙ (ended w n v block all ss i old now before text le h).past

-- a call of what is no procedure, and one that is too deep, come to nothing
nothing_numbered : (w : SettingView) (n : ℕ) (f : FrontView) → fresh_within n w.procedures None f.calls ≡ []
nothing_numbered w zero f = refl
nothing_numbered w (suc n) f = refl

-- what a call comes to
record CallIs (w : SettingView) (n most : ℕ) (f : FrontView) (x : List ℕ) (p : Procedure) : Type 0 where
  sites_are : (sums_at (sums_within most w.procedures) (number_of w.procedures x)).sites
      ≡ (block_sums w.procedures (sums_within n w.procedures) p.body).sites
  fresh_is : (sums_at (sums_within most w.procedures) (number_of w.procedures x)).fresh
      ≡ length p.parameters + length p.locals + (block_sums w.procedures (sums_within n w.procedures) p.body).fresh
  calls_are : (sums_at (sums_within most w.procedures) (number_of w.procedures x)).calls
      ≡ 1 + (block_sums w.procedures (sums_within n w.procedures) p.body).calls
  list_is : fresh_within most w.procedures (number_of w.procedures x) f.calls
      ≡ of_call f.calls (variables p)
      ++ block_fresh w.procedures (sums_within n w.procedures) (fresh_within n w.procedures) (f.calls + 1) p.body

call_is : (w : SettingView) (n most : ℕ) (f : FrontView) (x : List ℕ) (q : ℕ) (p : Procedure) → most ≡ suc n
    → number_of w.procedures x ≡ Some q → slice_get w.procedures q ≡ Some p → CallIs w n most f x p
call_is w n most f x q p e g h =
    let same = ap (sums_at (sums_within most w.procedures)) g
    ∙ ap (λ m. sums_at (sums_within m w.procedures) (Some q)) e ∙ called (tree_of w []) n q p h in
    record {
      sites_are = ap (λ (s : Sums). s.sites) same;
      fresh_is = ap (λ (s : Sums). s.fresh) same;
      calls_are = ap (λ (s : Sums). s.calls) same;
      list_is =
          ap (λ o. fresh_within most w.procedures o f.calls) g
          ∙ ap (λ m. fresh_within m w.procedures (Some q) f.calls) e
          ∙ ap (λ o. fresh_of w.procedures (sums_within n w.procedures) (fresh_within n w.procedures) o f.calls) h;
    }

-- the front with the variables of the call
abbrev pub with_call : FrontView → List Declaration → FrontView
with_call f ds = record {
  at = record f.at { fresh = f.at.fresh + length ds };
  calls = f.calls + 1;
  fresh = f.fresh ++ of_call f.calls ds;
}

pub call_front : (w : SettingView) (n most : ℕ) (f two new : FrontView) (x : List ℕ) (vs : List Operand) (q : ℕ)
    (p : Procedure) (ds : List Declaration) → AreFlat w.procedures → most ≡ suc n → number_of w.procedures x ≡ Some q
    → slice_get w.procedures q ≡ Some p → ds ≡ variables p → two ≡ with_call f ds
    → new ≡ front_past_block w n two p.body → new ≡ front_past_statement w most f (Call x vs)
call_front w n most f two new x vs q p ds flat e g h i j k =
    let is = call_is w n most f x q p e g h in
    let long = length-append p.parameters p.locals in
    let body = block_fresh w.procedures (sums_within n w.procedures) (fresh_within n w.procedures) (f.calls + 1)
    p.body in
    k ∙ ap (λ y. front_past_block w n y p.body) (j ∙ ap (with_call f) i)
    ∙ front_same (front_past_block w n (with_call f (variables p)) p.body) (front_past_statement w most f (Call x vs))
    (omega (arith, is.sites_are)) (omega (arith, flat q p h)) (omega (arith, is.fresh_is, long))
    (omega (arith, is.calls_are))
    (append_assoc f.fresh (of_call f.calls (variables p)) body ∙ ap (λ l. f.fresh ++ l) (sym is.list_is))

-- a call that fits: its body does, and its variables
pub record CallFits (w : SettingView) (n : ℕ) (f two : FrontView) (p : Procedure) : Type 0 where
  pub body_fits : Fits (front_past_block w n two p.body)
  pub few_own : f.at.fresh + (length p.parameters + length p.locals) ≤ most_all_locals
  pub few_before : f.calls < most_calls

pub call_fits : (w : SettingView) (n most : ℕ) (f two : FrontView) (x : List ℕ) (vs : List Operand) (q : ℕ)
    (p : Procedure)
    (ds : List Declaration) → AreFlat w.procedures → most ≡ suc n → number_of w.procedures x ≡ Some q
    → slice_get w.procedures q ≡ Some p → ds ≡ variables p → two ≡ with_call f ds
    → Fits (front_past_statement w most f (Call x vs)) → CallFits w n f two p
call_fits w n most f two x vs q p ds flat e g h i j fits =
    let is = call_is w n most f x q p e g h in
    let long = length-append p.parameters p.locals in
    let same = j ∙ ap (with_call f) i in
    record {
      body_fits = subst (λ y. Fits (front_past_block w n y p.body)) (sym same) (record {
        few_sites = omega (arith, fits.few_sites, is.sites_are);
        few_sections = omega (arith, fits.few_sections, flat q p h);
        few_locals = omega (arith, fits.few_locals, is.fresh_is, long);
        few_calls = omega (arith, fits.few_calls, is.calls_are);
      });
      few_own = omega (arith, fits.few_locals, is.fresh_is);
      few_before = omega (arith, fits.few_calls, is.calls_are);
    }

-- there is room for its variables, and for its number
pub record CallRoom (f : FrontView) (p : Procedure) : Type 0 where
  pub few_own : f.at.fresh + (length p.parameters + length p.locals) ≤ most_all_locals
  pub few_before : f.calls < most_calls

pub call_room : (w : SettingView) (n most : ℕ) (f : FrontView) (x : List ℕ) (vs : List Operand) (q : ℕ)
    (p : Procedure) → most ≡ suc n → number_of w.procedures x ≡ Some q → slice_get w.procedures q ≡ Some p
    → Fits (front_past_statement w most f (Call x vs)) → CallRoom f p
call_room w n most f x vs q p e g h fits =
    let is = call_is w n most f x q p e g h in
    record {
      few_own = omega (arith, fits.few_locals, is.fresh_is);
      few_before = omega (arith, fits.few_calls, is.calls_are);
    }

-- where both branches of a test fit, the second does behind the first
pub other_fits : (w : SettingView) (n : ℕ) (f one : FrontView) (s : StatementView) (t : Test) (b d : BlockView)
    → s ≡ IfElse t b d → one ≡ front_past_block w n f b → Fits (front_past_statement w n f s)
    → Fits (front_past_block w n one d)
other_fits w n f one s t b d e g fits =
    let h = subst (λ x. Fits (front_past_statement w n f x)) e fits in
    subst (λ x. Fits (front_past_block w n x d)) (sym g) (record {
      few_sites = omega (arith, h.few_sites);
      few_sections = omega (arith, h.few_sections);
      few_locals = omega (arith, h.few_locals);
      few_calls = omega (arith, h.few_calls);
    })

-- the text of a call, as the code has it
pub call_text : (w : SettingView) (n most : ℕ) (f two : FrontView) (x : List ℕ) (vs : List Operand) (q : ℕ)
    (p : Procedure)
    (s inner : Sight) (first own : ℕ) (ps ls ds : List Declaration) (old one more new : TextView) → most ≡ suc n
    → number_of w.procedures x ≡ Some q → slice_get w.procedures q ≡ Some p → ds ≡ variables p → two ≡ with_call f ds
    → inner ≡ sight w.records w.globals ds → own ≡ f.at.fresh → ps ≡ p.parameters → ls ≡ p.locals
    → Appends old one (write_parameters (view_of s first) own ps vs)
    → Appends one more (write_locals (own + length ps) ls)
    → Appends more new (joined (block_there w n (view_of inner own) two p.body))
    → Appends old new (expanded_there w most (view_of s first) f (Call x vs))
call_text w n most f two x vs q p s inner first own ps ls ds old one more new e g h i j o r y z a b c k =
    let long = length-append p.parameters p.locals in
    let count : length ds ≡ length ps + length ls = omega (arith, ap length i, ap length y, ap length z, long) in
    let at = ap (λ (m : FrontView). m.at) j ∙ (λ m. record f.at { fresh = f.at.fresh + count m }) in
    call_by_parts (tree_of w []) n most q p s inner first own f.at two.at ps ls vs old one more new e h
    (o ∙ ap (sight w.records w.globals) i) r y z at a b c k
    ∙ ap (λ m. joined old (written_within most w.records w.globals w.procedures m (view_of s first) f.at vs k)) (sym g)

-- the measure
pub size_most : (ps : List Procedure) (q : ℕ) (p : Procedure) → slice_get ps q ≡ Some p
    → 3 + 2 * block_size p.body ≤ most_size ps
size_most [] q p e = absurd (cc)
size_most (x ∷ ps) zero p e =
    let same : x ≡ p = cc in omega (arith, ap (λ (y : Procedure). block_size y.body) same, at_least ps)
  where
    at_least : (ps : List Procedure) → 3 ≤ most_size ps
    at_least [] = omega arith
    at_least (y ∷ ps) = omega (arith, at_least ps)
size_most (x ∷ ps) (suc q) p e = omega (arith, size_most ps q p e)

pub falls : (n most size total : ℕ) → most ≡ suc n → 3 + 2 * size ≤ total → n * total + 2 + 2 * size < most * total
falls n most size total e le = omega (arith, e, le, ap (λ m. m * total) e)

-- the variables of a procedure that is there
pub variables_found : (ps : List Procedure) (all : List VariablesView) (q : ℕ) (p : Procedure) (v : VariablesView)
    → all ≡ map variables_shown ps → slice_get ps q ≡ Some p → slice_get all q ≡ Some v → v ≡ variables_shown p
variables_found ps all q p v e g h =
    let found : Some v ≡ Some (variables_shown p) =
    sym h ∙ ap (λ l. slice_get l q) e ∙ slice_get-map variables_shown ps q ∙ ap (option_map variables_shown) g in
    cc

-- a text that was begun anew
pub anew : (start new e : TextView) → start ≡ Stop → Appends start new (joined e) → new ≡ e
anew start new e h g = alone new e (subst (λ x. Appends x new (joined e)) h g)

pub either_text : (w : SettingView) (n : ℕ) (v : Sight) (first : ℕ) (f one : FrontView) (s : StatementView) (t : Test)
    (b d : BlockView) (c : Condition) (p q old new : TextView) → s ≡ IfElse t b d
    → c ≡ moved_condition first (condition_in (condition_of v t)) → p ≡ block_there w n (view_of v first) f b
    → one ≡ front_past_block w n f b → q ≡ block_there w n (view_of v first) one d
    → new ≡ joined old (Choose c p q Stop)
    → Appends old new (expanded_there w n (view_of v first) f s)
either_text w n v first f one s t b d c p q old new e g h past i j =
    either_written (tree_of w []) n v first f.at one.at s t b d c p q old new e g h
    (record {
      of_sites = ap (λ (x : FrontView). x.at.sites) past;
      of_sections = ap (λ (x : FrontView). x.at.sections) past;
      of_fresh = ap (λ (x : FrontView). x.at.fresh) past;
    }) i j

-- the variables of a call are shown with their names
pub shown_names : (p : Procedure) (v : VariablesView) (ds : List Declaration) (names : List (List ℕ))
    → v ≡ variables_shown p → ds ≡ v.list → names ≡ v.names → names ≡ names_of_declared ds
shown_names p v ds names e f g =
    g ∙ ap (λ (x : VariablesView). x.names) e ∙ ap names_of_declared (sym (f ∙ ap (λ (x : VariablesView). x.list) e))

-- the variable at an index
pub variable_more : (c : ℕ) (ds : List Declaration) (i : ℕ) (d : Declaration) (before out new : List Fresh)
    → i < length ds
    → d ≡ get_or ds i d → out ++ of_call c (drop i ds) ≡ before ++ of_call c ds
    → new ≡ out ++ record { declared = d; call = c } ∷ [] → new ++ of_call c (drop (i + 1) ds) ≡ before ++ of_call c ds
variable_more c ds i d before out new lt is inv e =
    let x : Fresh = record { declared = d; call = c } in
    ap (λ l. l ++ of_call c (drop (i + 1) ds)) e ∙ append_assoc out (x ∷ []) (of_call c (drop (i + 1) ds))
    ∙ ap (λ l. out ++ of_call c l) (sym (drop_next ds i d lt is)) ∙ inv

pub variables_all : (c : ℕ) (ds : List Declaration) (i : ℕ) (before out : List Fresh) → length ds ≤ i
    → out ++ of_call c (drop i ds) ≡ before ++ of_call c ds → out ≡ before ++ of_call c ds
variables_all c ds i before out le inv =
    sym (append-nil out) ∙ ap (λ l. out ++ of_call c l) (sym (drop_all i ds le)) ∙ inv
