-- The parts of what is there by numbers are there.
use Rattle.std.specs.Prelude.{IsSome, is_some, true, ◌&&◌, ◌-◌}
use Rattle.std.proofs.Common.{◌≡◌, ℕ, zero, suc, ◌+◌, ◌<◌, List, [], ◌∷◌, get_or, Option, Some, None, refl, sym, ap}
use Rattle.std.proofs.Common.{◌∙◌, arith, subst, length, length-append, slice_get, true≢false}
use Rattle.std.proofs.lemmas.Bool.{and_parts}
use Rattle.sect_front.specs.{declared.tree.Declaration.{Declaration}, declared.tree.Operand.{Operand}}
use Rattle.sect_front.specs.{declared.tree.Test.{Test}, declared.tree.Record.{Record}}
use Rattle.sect_front.specs.{declared.tree.GlobalObject.{GlobalObject}, declared.tree.Procedure.{Procedure}}
use Rattle.sect_front.specs.Syntax.{StatementView, IfElse, Call, BlockView}
use Rattle.sect_types.specs.{Sight.{Sight, operand_of}, Items.{variables}, Sums.{sums_within, number_of}}
use Rattle.sect_types.specs.{Rules.{sight, knows_operands}, Numbered.{value_of, condition_of}}
use Rattle.sect_types.specs.Expanded.{Scene, NextNumbers, condition_at, expanded_block, set_parameters, after_call}
use Rattle.sect_types.specs.Expanded.{call_of, expand_within}
use Rattle.sect_types.specs.steps.Expanding.{SettingView, FrontView, numbered_there, numbered_block, front_past_block}
use Rattle.sect_types.specs.steps.Expansion.{view_of}
use Rattle.sect_types.proofs.{Optional.{first_there, second_there, one_there, three_parts, the}, Fronts.{with_call}}

-- a test and the blocks behind it
either_known : (w : SettingView) (n : ℕ) (v : Scene) (f : FrontView) (s : StatementView) (t : Test)
    (b d : BlockView) → s ≡ IfElse t b d → IsSome (numbered_there w n v f s)
    → IsSome (condition_of v.sight t) × IsSome (numbered_block w n v f b)
    × IsSome (numbered_block w n v (front_past_block w n f b) d)
either_known w n v f s t b d e h =
    let k = the _ (subst (λ x. IsSome (numbered_there w n v f x)) e h) in
    let m = three_parts _ (condition_at v t) (numbered_block w n v f b)
    (numbered_block w n v (front_past_block w n f b) d) k.0 k.1 in
    (one_there _ (condition_of v.sight t) (ap is_some m.first_is), ap is_some m.second_is, ap is_some m.third_is)

-- what has a text can be called
positive : (n : ℕ) (rs : List Record) (gs : List GlobalObject) (ps : List Procedure) (o : Option ℕ) (v : Scene)
    (a : NextNumbers) (vs : List Operand) → IsSome (expand_within n rs gs ps o v a vs) → 0 < n
positive zero rs gs ps o v a vs h = absurd (true≢false (sym h))
positive (suc n) rs gs ps o v a vs h = omega arith

named : (n : ℕ) (rs : List Record) (gs : List GlobalObject) (ps : List Procedure) (o : Option ℕ) (v : Scene)
    (a : NextNumbers) (vs : List Operand) → IsSome (expand_within n rs gs ps o v a vs) → IsSome o
named n rs gs ps (Some q) v a vs h = refl
named zero rs gs ps None v a vs h = absurd (true≢false (sym h))
named (suc n) rs gs ps None v a vs h = absurd (true≢false (sym h))

pub call_positive : (w : SettingView) (n : ℕ) (v : Scene) (f : FrontView) (x : List ℕ) (vs : List Operand)
    → IsSome (numbered_there w n v f (Call x vs)) → 0 < n
call_positive w n v f x vs h =
    positive n w.records w.globals w.procedures (number_of w.procedures x) v f.at vs h

pub one_less : (w : SettingView) (n : ℕ) (v : Scene) (f : FrontView) (x : List ℕ) (vs : List Operand)
    → IsSome (numbered_there w n v f (Call x vs)) → n ≡ suc (n - 1)
one_less w n v f x vs h = omega (arith, call_positive w n v f x vs h)

pub call_named : (w : SettingView) (n : ℕ) (v : Scene) (f : FrontView) (x : List ℕ) (vs : List Operand)
    → IsSome (numbered_there w n v f (Call x vs)) → IsSome (number_of w.procedures x)
call_named w n v f x vs h = named n w.records w.globals w.procedures (number_of w.procedures x) v f.at vs h

-- as many arguments as parameters, whose names are known
set_known : (v : Scene) (n : ℕ) (ds : List Declaration) (us : List Operand) → IsSome (set_parameters v n ds us)
    → (length ds ≡ length us) × (knows_operands v.sight us ≡ true)
set_known v n [] [] h = (refl, refl)
set_known v n [] (u ∷ us) h = absurd (true≢false (sym h))
set_known v n (d ∷ ds) [] h = absurd (true≢false (sym h))
set_known v n (d ∷ ds) (u ∷ us) h =
    let x = one_there _ (operand_of v.sight u)
    (first_there _ (value_of v.sight u) (set_parameters v (n + 1) ds us) h) in
    let y = set_known v (n + 1) ds us
    (second_there _ (value_of v.sight u) (set_parameters v (n + 1) ds us) h) in
    (omega (arith, y.0), λ i. x i && y.1 i)

-- the arguments and the body of a call
call_parts : (w : SettingView) (n most : ℕ) (v : Scene) (f : FrontView) (x : List ℕ) (vs : List Operand) (q : ℕ)
    (p : Procedure) → most ≡ suc n → number_of w.procedures x ≡ Some q → slice_get w.procedures q ≡ Some p
    → IsSome (numbered_there w most v f (Call x vs))
    → IsSome (set_parameters v f.at.fresh p.parameters vs)
    × IsSome (expanded_block w.procedures (sums_within n w.procedures)
    (expand_within n w.records w.globals w.procedures)
    (view_of (sight w.records w.globals (variables p)) f.at.fresh) (after_call f.at p) p.body)
call_parts w n most v f x vs q p e g h known =
    let table = sums_within n w.procedures in
    let call = expand_within n w.records w.globals w.procedures in
    let here = subst (λ m. IsSome (expand_within m w.records w.globals w.procedures (Some q) v f.at vs)) e
    (subst (λ o. IsSome (expand_within most w.records w.globals w.procedures o v f.at vs)) g known) in
    let there = subst (λ o. IsSome (call_of w.records w.globals w.procedures table call o (Some q) v f.at vs)) h here in
    let args = set_parameters v f.at.fresh p.parameters vs in
    let body = expanded_block w.procedures table call (view_of (sight w.records w.globals (variables p)) f.at.fresh)
    (after_call f.at p) p.body in
    (first_there _ args body there, second_there _ args body there)

pub arguments_known : (w : SettingView) (n most : ℕ) (v : Scene) (f : FrontView) (x : List ℕ) (vs : List Operand)
    (q : ℕ) (p : Procedure) → most ≡ suc n → number_of w.procedures x ≡ Some q → slice_get w.procedures q ≡ Some p
    → IsSome (numbered_there w most v f (Call x vs))
    → (length p.parameters ≡ length vs) × (knows_operands v.sight vs ≡ true)
arguments_known w n most v f x vs q p e g h known =
    set_known v f.at.fresh p.parameters vs (call_parts w n most v f x vs q p e g h known).0

-- the body, as the code has it
pub body_known : (w : SettingView) (n most : ℕ) (v : Scene) (f two : FrontView) (x : List ℕ) (vs : List Operand)
    (q : ℕ) (p : Procedure) (inner : Sight) (own : ℕ) (ds : List Declaration) → most ≡ suc n
    → number_of w.procedures x ≡ Some q → slice_get w.procedures q ≡ Some p → ds ≡ variables p → two ≡ with_call f ds
    → inner ≡ sight w.records w.globals ds → own ≡ f.at.fresh → IsSome (numbered_there w most v f (Call x vs))
    → IsSome (numbered_block w n (view_of inner own) two p.body)
body_known w n most v f two x vs q p inner own ds e g h i j o r known =
    let long = length-append p.parameters p.locals in
    let count : length ds ≡ length p.parameters + length p.locals = omega (arith, ap length i, long) in
    let at : two.at ≡ after_call f.at p =
    ap (λ (m : FrontView). m.at) j ∙ (λ m. record f.at { fresh = f.at.fresh + count m }) in
    let seen : inner ≡ sight w.records w.globals (variables p) = o ∙ ap (sight w.records w.globals) i in
    let same : numbered_block w n (view_of inner own) two p.body
    ≡ expanded_block w.procedures (sums_within n w.procedures) (expand_within n w.records w.globals w.procedures)
    (view_of (sight w.records w.globals (variables p)) f.at.fresh) (after_call f.at p) p.body =
    λ z. expanded_block w.procedures (sums_within n w.procedures) (expand_within n w.records w.globals w.procedures)
    (view_of (seen z) (r z)) (at z) p.body in
    subst IsSome (sym same) (call_parts w n most v f x vs q p e g h known).1

-- the second branch, behind the first
pub other_known : (w : SettingView) (n : ℕ) (v : Scene) (f one : FrontView) (s : StatementView) (t : Test)
    (b d : BlockView) → s ≡ IfElse t b d → one ≡ front_past_block w n f b → IsSome (numbered_there w n v f s)
    → IsSome (numbered_block w n v one d)
other_known w n v f one s t b d e g h =
    subst (λ x. IsSome (numbered_block w n v x d)) (sym g) (either_known w n v f s t b d e h).2

-- the operand at an index
pub operand_known : (s : Sight) (us : List Operand) (i : ℕ) (u : Operand) → knows_operands s us ≡ true → i < length us
    → u ≡ get_or us i u → IsSome (operand_of s u)
operand_known s [] i u k lt is = absurd (omega (arith, lt))
operand_known s (x ∷ us) zero u k lt is =
    subst (λ y. IsSome (operand_of s y)) (sym is) (and_parts (is_some (operand_of s x)) (knows_operands s us) k).0
operand_known s (x ∷ us) (suc i) u k lt is =
    operand_known s us i u (and_parts (is_some (operand_of s x)) (knows_operands s us) k).1 (omega (arith, lt)) is
