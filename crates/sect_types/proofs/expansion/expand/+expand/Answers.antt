use Rattle.std.proofs.Common.{◌≡◌, suc, arith, ap, sym, ◌∙◌, length, length-append, subst}
use Rattle.std.specs.Prelude.{ℕ, ◌-◌, [], IsSome, true}
use Rattle.sect_front.specs.Trees.{statement_of, statement_size, block_size}
use Rattle.sect_front.proofs.shared.Bodies.{size_at}
use Rattle.sect_types.specs.steps.{Threads.{VariablesView}, Expanding.{FrontView, most_size, tree_of}}
use Rattle.sect_types.specs.steps.{Expansion.{view_of}, Written.{action_in}}
use Rattle.sect_types.specs.{Expanded.{moved_action}, Numbered.{action_of}, Sight.{Sight}}
use Rattle.sect_types.specs.Rules.{sight, knows_operands}
use Rattle.sect_types.proofs.Writing.{primitive_written, if_written, while_written, section_written}
use Rattle.sect_types.proofs.Fronts.{starts, next_fits, next_known, one_more, ends_text, ends_front, call_front}
use Rattle.sect_types.proofs.Fronts.{call_fits, CallFits, CallRoom, call_room, other_fits, call_text, size_most, falls}
use Rattle.sect_types.proofs.Fronts.{anew, either_text, shown_names}
use Rattle.sect_types.proofs.Parts.{one_less, call_named, arguments_known, body_known, other_known}
use Rattle.sect_types.proofs.expansion.expand.+expand.Goals.{expand_call-After-scope-scope}
use Rattle.sect_types.proofs.expansion.expand.+expand.Goals.{expand_call-After-procedure-procedure}
use Rattle.sect_types.proofs.expansion.expand.+expand.Goals as goal

pub expand_block-expand_statement-requires : goal.expand_block-expand_statement-requires
expand_block-expand_statement-requires t c =
    let i = c.args.inside.now in (
      omega (
        arith,
        size_at c.as_slice-statement-items.result.now c.loop-statement.statement-index c.statement-item.result
            (omega arith),
        ap (λ s. statement_size (statement_of s)) c.statement-item.is,
        ap block_size c.loop-statement.invariant.whole,
        c.decreases,
      ),
      (
        next_fits i.setting.now i.most (view_of i.scope.now i.first) c.args.block.now
            c.as_slice-statement-items.result.now c.loop-statement.statement-index c.statement-item.result
            c.args.front.now c.loop-statement.front c.args.out.now c.loop-statement.out c.loop-statement-test.true
            c.statement-item.is c.loop-statement.invariant c.requires.fits,
        next_known i.setting.now i.most (view_of i.scope.now i.first) c.args.block.now
            c.as_slice-statement-items.result.now c.loop-statement.statement-index c.statement-item.result
            c.args.front.now c.loop-statement.front c.args.out.now c.loop-statement.out c.loop-statement-test.true
            c.statement-item.is c.loop-statement.invariant,
      ),
    )

pub expand_block-loop-statement-init : goal.expand_block-loop-statement-init
expand_block-loop-statement-init t c =
    let i = c.args.inside.now in
    starts i.setting.now i.most (view_of i.scope.now i.first) c.args.block.now _ c.args.front.now
    c.args.out.now c.as_slice-statement-items.ensures c.requires.known

pub expand_block-loop-statement-preserved : goal.expand_block-loop-statement-preserved
expand_block-loop-statement-preserved t c =
    let i = c.args.inside.now in
    one_more i.setting.now i.most (view_of i.scope.now i.first) c.args.block.now
    c.as_slice-statement-items.result.now c.loop-statement.statement-index c.statement-item.result c.args.front.now
    c.loop-statement.front c.expand_statement.new.front c.args.out.now c.loop-statement.out c.expand_statement.new.out
    c.loop-statement-test.true c.statement-item.is c.loop-statement.invariant c.in_ok-expand_statement.ensures.front
    c.in_ok-expand_statement.ensures.text

pub expand_block-returns-clause-text : goal.expand_block-returns-clause-text
expand_block-returns-clause-text t c =
    let i = c.args.inside.now in
    ends_text i.setting.now i.most (view_of i.scope.now i.first) c.args.block.now _
    c.as_slice-statement-items.result.now c.loop-statement.statement-index c.args.front.now c.loop-statement.front
    c.args.out.now c.loop-statement.out (omega arith) c.loop-statement.invariant

pub expand_block-returns-clause-front : goal.expand_block-returns-clause-front
expand_block-returns-clause-front t c =
    let i = c.args.inside.now in
    ends_front i.setting.now i.most (view_of i.scope.now i.first) c.args.block.now _
    c.as_slice-statement-items.result.now c.loop-statement.statement-index c.args.front.now c.loop-statement.front
    c.args.out.now c.loop-statement.out (omega arith) c.loop-statement.invariant

pub expand_call-unwrap-number-requires : goal.expand_call-unwrap-number-requires
expand_call-unwrap-number-requires t c =
    let i = c.args.inside.now in
    subst IsSome (sym c.number_of.ensures)
    (call_named i.setting.now i.most (view_of i.scope.now i.first) c.args.front.now c.args.name.now
    c.args.operands.now c.requires.known)

-- there is room for the call
room : (t : ℕ) (c : expand_call-After-procedure-procedure t)
    → CallRoom c.args.front.now c.procedure-procedure.result.now
room t c =
    let i = c.args.inside.now in
    call_room i.setting.now (i.most - 1) i.most c.args.front.now c.args.name.now c.args.operands.now
    c.unwrap-number.result c.procedure-procedure.result.now
    (one_less i.setting.now i.most (view_of i.scope.now i.first) c.args.front.now c.args.name.now c.args.operands.now
    c.requires.known) (sym c.number_of.ensures ∙ c.unwrap-number.ensures) c.procedure-procedure.ensures.there
    c.requires.fits

-- and its arguments are known
arguments : (t : ℕ) (c : expand_call-After-procedure-procedure t)
    → (length c.procedure-procedure.result.now.parameters ≡ length c.args.operands.now)
    × (knows_operands c.args.inside.now.scope.now c.args.operands.now ≡ true)
arguments t c =
    let i = c.args.inside.now in
    arguments_known i.setting.now (i.most - 1) i.most (view_of i.scope.now i.first) c.args.front.now c.args.name.now
    c.args.operands.now c.unwrap-number.result c.procedure-procedure.result.now
    (one_less i.setting.now i.most (view_of i.scope.now i.first) c.args.front.now c.args.name.now c.args.operands.now
    c.requires.known) (sym c.number_of.ensures ∙ c.unwrap-number.ensures) c.procedure-procedure.ensures.there
    c.requires.known

pub expand_call-put_parameters-requires-clause-as_many : goal.expand_call-put_parameters-requires-clause-as_many
expand_call-put_parameters-requires-clause-as_many t c =
    ap length c.as_slice-parameters.ensures
    ∙ (arguments t (goal.at.expand_call-put_parameters-requires-clause-as_many t c).After-procedure-procedure).0

pub expand_call-put_parameters-requires-clause-known : goal.expand_call-put_parameters-requires-clause-known
expand_call-put_parameters-requires-clause-known t c =
    (arguments t (goal.at.expand_call-put_parameters-requires-clause-known t c).After-procedure-procedure).1

pub expand_call-overflow_cast-cleared : goal.expand_call-overflow_cast-cleared
expand_call-overflow_cast-cleared t c =
    omega (
      arith,
      (room t (goal.at.expand_call-overflow_cast-cleared t c).After-procedure-procedure).few_own,
      ap length c.as_slice-parameters.ensures,
    )

pub expand_call-overflow_add-cleared : goal.expand_call-overflow_add-cleared
expand_call-overflow_add-cleared t c =
    omega (
      arith,
      (room t (goal.at.expand_call-overflow_add-cleared t c).After-procedure-procedure).few_own,
      c.next-fresh.ensures,
      ap length c.as_slice-parameters.ensures,
    )

pub expand_call-put_cleared-requires : goal.expand_call-put_cleared-requires
expand_call-put_cleared-requires t c =
    omega (
      arith,
      (room t (goal.at.expand_call-put_cleared-requires t c).After-procedure-procedure).few_own,
      c.next-fresh.ensures,
      ap length c.as_slice-parameters.ensures,
      ap length c.as_slice.ensures,
    )

pub expand_call-pass_call-requires : goal.expand_call-pass_call-requires
expand_call-pass_call-requires t c =
    (room t (goal.at.expand_call-pass_call-requires t c).After-procedure-procedure).few_before

pub expand_call-scope-scope-requires : goal.expand_call-scope-scope-requires
expand_call-scope-scope-requires t c =
    shown_names c.procedure-procedure.result.now c.variables-variables.result.now c.as_slice-3.result.now
    c.names.result.now
    (c.variables-variables.ensures c.procedure-procedure.result.now c.procedure-procedure.ensures.there)
    c.as_slice-3.ensures c.names.ensures

-- the body of the procedure is within the limits
body_fits : (t : ℕ) (c : expand_call-After-scope-scope t) → CallFits c.args.inside.now.setting.now
    (c.args.inside.now.most - 1) c.args.front.now c.pass_call.new.self c.procedure-procedure.result.now
body_fits t c =
    let i = c.args.inside.now in
    let p = c.procedure-procedure.result.now in
    let there = c.procedure-procedure.ensures.there in
    let shown = c.variables-variables.ensures p there in
    call_fits i.setting.now (i.most - 1) i.most c.args.front.now c.pass_call.new.self c.args.name.now
    c.args.operands.now c.unwrap-number.result p c.as_slice-2.result.now c.procedure-procedure.ensures.flat
    (one_less i.setting.now i.most (view_of i.scope.now i.first) c.args.front.now c.args.name.now
    c.args.operands.now c.requires.known) (sym c.number_of.ensures ∙ c.unwrap-number.ensures) there
    (c.as_slice-2.ensures ∙ ap (λ (v : VariablesView). v.list) shown)
    c.in_ok-pass_call.ensures c.requires.fits

pub expand_call-invariant_of-inner : goal.expand_call-invariant_of-inner
expand_call-invariant_of-inner t c =
    let p = c.procedure-procedure.result.now in
    let shown = c.variables-variables.ensures p c.procedure-procedure.ensures.there in
    omega (
      arith,
      (body_fits t (goal.at.expand_call-invariant_of-inner t c).After-scope-scope).few_own,
      c.next-fresh.ensures,
      ap (λ (x : Sight). length x.locals) c.scope-scope.ensures,
      ap length (c.as_slice-3.ensures ∙ ap (λ (v : VariablesView). v.list) shown),
      length-append p.parameters p.locals,
    )

pub expand_call-expand_block-requires : goal.expand_call-expand_block-requires
expand_call-expand_block-requires t c =
    let i = c.args.inside.now in
    let p = c.procedure-procedure.result.now in
    let procedures = i.setting.now.procedures in
    let shown = c.variables-variables.ensures p c.procedure-procedure.ensures.there in
    let more : i.most ≡ suc (i.most - 1) = one_less i.setting.now i.most (view_of i.scope.now i.first) c.args.front.now
    c.args.name.now
    c.args.operands.now c.requires.known in (
      omega (
        arith,
        falls (i.most - 1) i.most (block_size p.body) (most_size procedures) more
            (size_most procedures c.unwrap-number.result p c.procedure-procedure.ensures.there),
        c.decreases,
      ),
      (
        (body_fits t (goal.at.expand_call-expand_block-requires t c).After-scope-scope).body_fits,
        body_known i.setting.now (i.most - 1) i.most (view_of i.scope.now i.first) c.args.front.now c.pass_call.new.self
            c.args.name.now c.args.operands.now c.unwrap-number.result p c.scope-scope.result c.next-fresh.result
            c.as_slice-2.result.now more (sym c.number_of.ensures ∙ c.unwrap-number.ensures)
            c.procedure-procedure.ensures.there (c.as_slice-2.ensures ∙ ap (λ (v : VariablesView). v.list) shown)
            c.in_ok-pass_call.ensures
            (c.scope-scope.ensures ∙ ap (sight i.setting.now.records i.setting.now.globals)
            (c.as_slice-3.ensures ∙ sym c.as_slice-2.ensures))
            c.next-fresh.ensures c.requires.known,
      ),
    )

pub expand_call-returns-clause-front : goal.expand_call-returns-clause-front
expand_call-returns-clause-front t c =
    let i = c.args.inside.now in
    let p = c.procedure-procedure.result.now in
    let shown = c.variables-variables.ensures p c.procedure-procedure.ensures.there in
    call_front i.setting.now (i.most - 1) i.most c.args.front.now c.pass_call.new.self c.expand_block.new.front
    c.args.name.now c.args.operands.now c.unwrap-number.result p c.as_slice-2.result.now
    c.procedure-procedure.ensures.flat
    (one_less i.setting.now i.most (view_of i.scope.now i.first) c.args.front.now c.args.name.now
    c.args.operands.now c.requires.known) (sym c.number_of.ensures ∙ c.unwrap-number.ensures)
    c.procedure-procedure.ensures.there
    (c.as_slice-2.ensures ∙ ap (λ (v : VariablesView). v.list) shown) c.in_ok-pass_call.ensures
    c.in_ok-expand_block.ensures.front

pub expand_call-returns-clause-text : goal.expand_call-returns-clause-text
expand_call-returns-clause-text t c =
    let i = c.args.inside.now in
    let p = c.procedure-procedure.result.now in
    let there = c.procedure-procedure.ensures.there in
    let shown = c.variables-variables.ensures p there in
    let own = c.as_slice-2.ensures ∙ ap (λ (v : VariablesView). v.list) shown in
    let same = c.as_slice-3.ensures ∙ sym c.as_slice-2.ensures in
    call_text i.setting.now (i.most - 1) i.most c.args.front.now c.pass_call.new.self c.args.name.now
    c.args.operands.now c.unwrap-number.result p i.scope.now c.scope-scope.result i.first c.next-fresh.result
    c.as_slice-parameters.result.now c.as_slice.result.now c.as_slice-2.result.now c.args.out.now
    c.put_parameters.new.out c.put_cleared.new.out c.expand_block.new.out
    (one_less i.setting.now i.most (view_of i.scope.now i.first) c.args.front.now c.args.name.now
    c.args.operands.now c.requires.known)
    (sym c.number_of.ensures ∙ c.unwrap-number.ensures) there own c.in_ok-pass_call.ensures
    (c.scope-scope.ensures ∙ ap (sight i.setting.now.records i.setting.now.globals) same) c.next-fresh.ensures
    c.as_slice-parameters.ensures c.as_slice.ensures c.in_ok-put_parameters.ensures c.in_ok-put_cleared.ensures
    c.in_ok-expand_block.ensures.text

pub expand_statement-expand_block-requires-in-IfElse-2 : goal.expand_statement-expand_block-requires-in-IfElse-2
expand_statement-expand_block-requires-in-IfElse-2 t c =
    let i = c.args.inside.now in
    let is = ap statement_of c.in-IfElse.is in
    let past = c.in_ok-expand_block-in-IfElse.ensures.front in (
      omega (arith, ap statement_size is, c.decreases),
      (
        other_fits i.setting.now i.most c.args.front.now c.expand_block-in-IfElse.new.front _ _ c.in-IfElse.then
            c.in-IfElse.other is past c.requires.fits,
        other_known i.setting.now i.most (view_of i.scope.now i.first) c.args.front.now
            c.expand_block-in-IfElse.new.front _ _ c.in-IfElse.then c.in-IfElse.other is past c.requires.known,
      ),
    )

pub expand_statement-returns-in_ok-push-in-Primitive-clause-text :
    goal.expand_statement-returns-in_ok-push-in-Primitive-clause-text
expand_statement-returns-in_ok-push-in-Primitive-clause-text t c =
    let i = c.args.inside.now in
    primitive_written (tree_of i.setting.now []) i.most i.scope.now i.first c.args.front.now.at _ _
    c.action-action.result c.args.out.now c.push.new.self (ap statement_of c.in-Primitive.is)
    (c.action-action.ensures ∙ ap (λ (f : FrontView). moved_action i.first
    (action_in (action_of i.scope.now f.at.sites c.in-Primitive.primitive))) c.front.view_is)
    c.in_ok-push-in-Primitive.ensures.ok

pub expand_statement-returns-in_ok-push-in-If-clause-text : goal.expand_statement-returns-in_ok-push-in-If-clause-text
expand_statement-returns-in_ok-push-in-If-clause-text t c =
    let i = c.args.inside.now in
    if_written (tree_of i.setting.now []) i.most i.scope.now i.first c.args.front.now.at _ _ _
    c.condition-condition.result c.expand_block.new.out c.new.result c.args.out.now c.push-in-If.new.self
    (ap statement_of c.in-If.is) c.condition-condition.ensures
    (anew c.in_ok-yes-in-If.yes c.expand_block.new.out _ c.in_ok-yes-in-If.ensures c.in_ok-expand_block-in-If.ensures.text)
    c.new.ensures
    c.in_ok-push-in-If.ensures.ok

pub expand_statement-returns-in_ok-push-in-IfElse-clause-text :
    goal.expand_statement-returns-in_ok-push-in-IfElse-clause-text
expand_statement-returns-in_ok-push-in-IfElse-clause-text t c =
    let i = c.args.inside.now in
    either_text i.setting.now i.most i.scope.now i.first c.args.front.now
    c.expand_block-in-IfElse.new.front _ _ _ _ c.condition-condition-in-IfElse.result c.expand_block-in-IfElse.new.out
    c.expand_block-in-IfElse-2.new.out c.args.out.now c.push-in-IfElse.new.self (ap statement_of c.in-IfElse.is)
    c.condition-condition-in-IfElse.ensures
    (anew c.in_ok-yes-in-IfElse.yes c.expand_block-in-IfElse.new.out _ c.in_ok-yes-in-IfElse.ensures
    c.in_ok-expand_block-in-IfElse.ensures.text) c.in_ok-expand_block-in-IfElse.ensures.front
    (anew c.in_ok-no-in-IfElse.no c.expand_block-in-IfElse-2.new.out _ c.in_ok-no-in-IfElse.ensures
    c.in_ok-expand_block-in-IfElse-2.ensures.text)
    c.in_ok-push-in-IfElse.ensures.ok

pub expand_statement-returns-in_ok-push-in-While-clause-text :
    goal.expand_statement-returns-in_ok-push-in-While-clause-text
expand_statement-returns-in_ok-push-in-While-clause-text t c =
    let i = c.args.inside.now in
    while_written (tree_of i.setting.now []) i.most i.scope.now i.first c.args.front.now.at _ _ _
    c.condition-condition-in-While.result c.expand_block-in-While.new.out c.args.out.now c.push-in-While.new.self
    (ap statement_of c.in-While.is) c.condition-condition-in-While.ensures
    (anew c.in_ok-inner-in-While.inner c.expand_block-in-While.new.out _ c.in_ok-inner-in-While.ensures
    c.in_ok-expand_block-in-While.ensures.text)
    c.in_ok-push-in-While.ensures.ok

pub expand_statement-returns-in_ok-push-in-Atomic-clause-text :
    goal.expand_statement-returns-in_ok-push-in-Atomic-clause-text
expand_statement-returns-in_ok-push-in-Atomic-clause-text t c =
    let i = c.args.inside.now in
    section_written (tree_of i.setting.now []) i.most i.scope.now i.first c.args.front.now.at
    c.pass_section-number.new.self.at _ _ _ c.pass_section-number.result c.expand_block-in-Atomic.new.out c.args.out.now
    c.push-in-Atomic.new.self (ap statement_of c.in-Atomic.is) c.pass_section-number.ensures.number
    (ap (λ (f : FrontView). f.at) c.pass_section-number.ensures.front)
    (anew c.in_ok-inner-in-Atomic.inner c.expand_block-in-Atomic.new.out _ c.in_ok-inner-in-Atomic.ensures
    c.in_ok-expand_block-in-Atomic.ensures.text) c.in_ok-push-in-Atomic.ensures.ok
