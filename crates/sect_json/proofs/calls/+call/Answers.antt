use Rattle.std.proofs.Common.{◌≡◌, ◌++◌, [], ◌∷◌, ◌-◌, ◌∙◌, if◌then◌else◌, take, length, map, ap, sym, arith}
use Rattle.std.proofs.{lemmas.List.{take_all, append-nil}, lemmas.Result.{on_ok_weaker}}
use Rattle.std.specs.{List.{flat_map}, Prelude.{Vec}, declared.alloc.Global.{Global}}
use Rattle.serde_json.specs.{View.{view}, declared.value.Value.{Value}}
use Rattle.sect_lemmas.proofs.Changed.{get_there}
use Rattle.sect_places.proofs.shared.Names.{name_proper}
use Rattle.sect_lint.specs.Calls.{procedure_item}
use Rattle.sect_json.specs.{Calls.{call_json, calls_at, calls_within, from_item}, Values.{by_place}}
use Rattle.sect_json.proofs.{Calling.{told_behind, flat_taken, calls_deep}, Rows.{view_more}}
use Rattle.sect_json.proofs.calls.+call.Goals as goal
use Rattle.sect_json.proofs.calls.+call.Goals.{put_calls-then-is_call_in+in_ok-put_call, put_calls-else-is_call_in}

pub put_call-returns-in-Some : goal.put_call-returns-in-Some
put_call-returns-in-Some t c =
    let of = c.args.of.now in
    let names = of.names.now in
    let x = c.args.named.now in
    let told = call_json of.source.now in
    let old = c.args.values.now.items in
    let had = c.push.new.self.items in
    let more = c.put_calls.new.values.items in
    let inner = calls_within c.args.most names in
    let many : c.len.result ≡ length old = omega (arith, c.len.ensures) in
    let first : map view had ≡ map view old ++ by_place told (length old) (x ∷ []) =
    view_more old had c.in_ok-call_value.field-0 (told (length old) x) c.in_ok-push.ensures.items
    (c.in_ok-call_value.ensures ∙ ap (λ n. told n x) many) in
    on_ok_weaker c.put_calls.result
    (λ rest. told_behind told old had more (x ∷ []) (inner c.in-Some.item) first rest
    ∙ ap (λ o. map view old ++ by_place told (length old) (x ∷ from_item inner o)) c.in-Some.ensures)
    c.put_calls.ensures

pub put_call-returns-in-None : goal.put_call-returns-in-None
put_call-returns-in-None t c =
    let of = c.args.of.now in
    let names = of.names.now in
    let x = c.args.named.now in
    let told = call_json of.source.now in
    let old = c.args.values.now.items in
    let had = c.push.new.self.items in
    let inner = calls_within c.args.most names in
    let many : c.len.result ≡ length old = omega (arith, c.len.ensures) in
    let first : map view had ≡ map view old ++ by_place told (length old) (x ∷ []) =
    view_more old had c.in_ok-call_value.field-0 (told (length old) x) c.in_ok-push.ensures.items
    (c.in_ok-call_value.ensures ∙ ap (λ n. told n x) many) in
    first ∙ ap (λ o. map view old ++ by_place told (length old) (x ∷ from_item inner o)) c.in-None.ensures

pub put_calls-put_call-requires : goal.put_calls-put_call-requires
put_calls-put_call-requires t c =
    let of = c.args.of.now in
    let x = c.named-item.result in
    let at = get_there c.loop-named.named-index x of.names.now c.loop-named-test.true c.named-item.is in
    let proper = name_proper (length of.source.now) of.names.now c.loop-named.named-index x c.requires at in (
      omega (arith, c.decreases, c.if-most-eq0.false),
      ((omega (arith, proper.0), proper.1), c.requires),
    )

pub put_calls-loop-named-preserved : goal.put_calls-loop-named-preserved
put_calls-loop-named-preserved t c =
    let of = c.args.of.now in
    let names = of.names.now in
    let x = c.named-item.result in
    let n = c.loop-named.named-index in
    let inner = calls_within (c.args.most - 1) names in
    let step = calls_at inner names c.args.scope in
    let told = call_json of.source.now in
    let old = c.args.values.now.items in
    let had = c.loop-named.values.items in
    let next = flat_taken step names n x c.loop-named-test.true c.named-item.is in
    let test = sym c.is_call_in.ensures in
    elim c.if-is_call_in.branch [
      | put_calls-then-is_call_in+in_ok-put_call w ↦
          (let called = x ∷ from_item inner (procedure_item names x.used.name) in
          let here : step x ≡ called = ap (λ b. if b then called else []) (test ∙ w.if-is_call_in.true) in
          ap (λ (v : Vec Value Global). map view v.items) w.values-is
          ∙ (told_behind told old had w.put_call.new.values.items (flat_map step (take n names)) called
          c.loop-named.invariant w.in_ok-put_call.ensures
          ∙ ap (λ xs. map view old ++ by_place told (length old) xs)
          (ap (λ ys. flat_map step (take n names) ++ ys) (sym here) ∙ sym next)))
      | put_calls-else-is_call_in w ↦
          (let called = x ∷ from_item inner (procedure_item names x.used.name) in
          let here : step x ≡ [] = ap (λ b. if b then called else []) (test ∙ w.if-is_call_in.false) in
          ap (λ (v : Vec Value Global). map view v.items) w.values-is
          ∙ (c.loop-named.invariant ∙ ap (λ xs. map view old ++ by_place told (length old) xs)
          (sym (next ∙ (ap (λ ys. flat_map step (take n names) ++ ys) here
          ∙ append-nil (flat_map step (take n names)))))))
    ]

pub put_calls-returns : goal.put_calls-returns
put_calls-returns t c =
    let of = c.args.of.now in
    let names = of.names.now in
    let step = calls_at (calls_within (c.args.most - 1) names) names c.args.scope in
    let told = call_json of.source.now in
    let old = c.args.values.now.items in
    c.loop-named.invariant
    ∙ ap (λ xs. map view old ++ by_place told (length old) xs)
    (ap (flat_map step) (take_all c.loop-named.named-index names (omega (arith, c.loop-named-test.false)))
    ∙ sym (calls_deep names c.args.scope c.args.most c.if-most-eq0.false))
