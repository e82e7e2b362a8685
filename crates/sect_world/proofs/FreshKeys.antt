-- The key of the object that a thread makes next is free.
use Rattle.std.proofs.Common.{◌≡◌, ℕ, List, [], Option, Some, None, refl, sym, ◌∙◌, ap}
use Rattle.sect_modes.specs.declared.mode.Mode.{Mode}
use Rattle.sect_table.specs.{Contents.{Contents, entry_of}, Sound.{IsKept}}
use Rattle.sect_emit.specs.{declared.plan.Grip.{Grip}, Plan.{grip, key_of, held_mode}, Compiled.{CompiledView}}
use Rattle.sect_emit.specs.State.{State}
use Rattle.sect_types.specs.declared.meaning.store.ObjectName.TheVariants.{Made}
use Rattle.sect_types.specs.Store.{StoreView, row, count}
use Rattle.sect_world.specs.Kept.{AreGripsKept, IsWellKept}
use Rattle.sect_lemmas.proofs.{Options.{none_or_some}, Elements.{is_past}}
use Rattle.sect_modes.proofs.shared.Keys.{key_itself}
use Rattle.sect_world.specs.steps.Fits.{Fits}
use Rattle.sect_world.proofs.{Claims.{held-here}, Agreeing.{nobody_claims}}

-- none of these keys is that of an object that isn't there
ungripped : (s : StoreView) (gs : List Grip) (t : ℕ) → AreGripsKept s gs
    → held_mode (key_of (Made t (count s t))) gs ≡ None
ungripped s gs t kept = by (held_mode (key_of (Made t (count s t))) gs) refl where
  by : (o : Option Mode) → held_mode (key_of (Made t (count s t))) gs ≡ o → o ≡ None
  by None e = refl
  by (Some m) e = let there = (kept (Made t (count s t)) m e).0 in
      absurd (none_or_some there.0 (sym (is_past (row s t)) ∙ there.1))

pub next_key_free : (p : CompiledView) (c : Contents) (s : State) (t : ℕ) → IsWellKept p s → IsKept c → Fits c s
    → ((entry_of (key_of (Made t (count s.store t))) c.entries).holders ≡ [])
    × ((entry_of (key_of (Made t (count s.store t))) c.entries).waiters ≡ [])
next_key_free p c s t well kept f =
    nobody_claims c s (key_of (Made t (count s.store t))) kept f
    (λ u th at. ungripped s.store th.held t (well.threads u th at).held) (λ u th m at wants.
    let none = ungripped s.store th.wanted t (well.threads u th at).wanted in
    let some : held_mode (key_of (Made t (count s.store t))) th.wanted ≡ Some m =
    ap (held_mode (key_of (Made t (count s.store t)))) wants.1
    ∙ held-here (key_of (Made t (count s.store t))) (grip (key_of (Made t (count s.store t))) m) wants.0
    (key_itself (key_of (Made t (count s.store t)))) in
    none_or_some m (sym none ∙ some))
