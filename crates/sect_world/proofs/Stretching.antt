-- One act more of a stretch that is run apart.
use Rattle.std.proofs.Common.{◌≡◌, ℕ, ℤ, zero, suc, ◌+◌, ◌<◌, List, [], length, Some, None, Option, Bool, true, false}
use Rattle.std.proofs.Common.{Result, Ok, Err}
use Rattle.std.proofs.Common.{refl, sym, ap, ◌∙◌, subst, add-one, slice_get, true≢false, if◌then◌else◌}
use Rattle.std.specs.Prelude.{IfNone, IfSome}
use Rattle.sect_lemmas.proofs.Options.{some_injective, none_or_some}
use Rattle.sect_types.specs.declared.expansion.action.Label.{Label}
use Rattle.sect_types.specs.declared.expansion.action.Label.TheVariants.{Act, Test, Section as WholeSection}
use Rattle.sect_types.specs.{declared.expansion.action.Action.{Action}, declared.expansion.action.Condition.{Condition}}
use Rattle.sect_types.specs.{declared.meaning.store.Fault.{Fault}, declared.meaning.store.ObjectName.{ObjectName}}
use Rattle.sect_types.specs.{Programs.{ProgramView}, Whole.{Through, Broken, left_by}}
use Rattle.sect_types.specs.declared.meaning.store.Datum.TheVariants.{Number}
use Rattle.sect_types.specs.{Statements.{TextView, Stop, Do, Choose, Loop, Section, joined}, Sections.{sections_of}}
use Rattle.sect_types.specs.Store.{ObjectView, StoreView}
use Rattle.sect_types.specs.Meaning.{WorkView, Went, Fell, Unchanged, assigned, On, Off, done, paid, going, taken, next}
use Rattle.sect_types.specs.Meaning.{looks}
use Rattle.sect_types.specs.Meaning.{found_at, fits, computed, loaded, stored, result_of, integer_of, value_datum}
use Rattle.sect_types.specs.Meaning.{base_datum}
use Rattle.sect_types.specs.Meaning.{Came, name_in, begins_step, one, looked, after_change}
use Rattle.sect_graph.specs.{declared.flow.Node.{Node}, declared.flow.Successors.{Successors}, Paths.{node}}
use Rattle.sect_graph.specs.{declared.flow.Successors.TheVariants.{Next as To, Branch}, Rests.{Begins, rest_at}}
use Rattle.sect_store.specs.{declared.part.Part.{Part}, Parts.{ShowsAll, IsPartOf, written, MakesNone}}
use Rattle.sect_emit.specs.{declared.plan.Grip.{Grip}, Compiled.{CompiledView, IsCompiled, program_of}}
use Rattle.sect_world.specs.{Acting.{phase_by, ActsOnce, Acts, IsApart}, Events.{step_in}, Viewing.{body_at}}
use Rattle.sect_world.specs.{declared.runner.Phase.{Phase}, declared.apart.Apart.{Apart}}
use Rattle.sect_world.specs.steps.Moves.{Goes, IsStep, IsPlain, chosen, grips_by}
use Rattle.sect_world.proofs.NodeSteps.{section_graph}
use Rattle.sect_types.specs.declared.expansion.action.Action.TheVariants as action
use Rattle.sect_types.specs.declared.meaning.store.Fault.TheVariants as fault
use Rattle.sect_world.specs.declared.runner.Phase.TheVariants as phase

-- a statement that makes no object brings no key
no_grips : (c : CompiledView) (t n : ℕ) (r : TextView) (a : Action) (found : Option ObjectView) (w : WorkView) (m : ℕ)
    → MakesNone a → grips_by c t n (going r (paid m w (done (program_of c) t a found))) ≡ []
no_grips c t n r a found w zero plain = refl
no_grips c t n r (action.Assign x v) found w (suc m) plain = refl
no_grips c t n r (action.Compute x v o u) found w (suc m) plain =
    fit (result_of o (integer_of (value_datum w.locals v)) (integer_of (value_datum w.locals u))) where
      by : (z : ℤ) (v : WorkView) (b : Bool)
          → grips_by c t n (going r (if b then Went (assigned x (Number z) v) Unchanged else Fell fault.Overflow v))
          ≡ []
      by z v true = refl
      by z v false = refl

      fit : (z : ℤ) → grips_by c t n (going r (computed x z (record w { fuel = m }))) ≡ []
      fit z = by z (record w { fuel = m }) (fits z)
no_grips c t n r (action.New x q site) found w (suc m) plain = absurd plain
no_grips c t n r (action.Load x b f) found w (suc m) plain = by found where
  by : (found : Option ObjectView) → grips_by c t n (going r (loaded x f.number found (record w { fuel = m }))) ≡ []
  by None = refl
  by (Some o) = refl
no_grips c t n r (action.Store b f v) found w (suc m) plain = by (name_in (base_datum w.locals b)) where
  by : (o : Option ObjectName)
      → grips_by c t n (going r (stored f.number (value_datum w.locals v) o (record w { fuel = m }))) ≡ []
  by None = refl
  by (Some o) = refl
no_grips c t n r (action.Print v) found w (suc m) plain = refl

-- nor does a test
test_grips : (c : CompiledView) (t n m : ℕ) (d : _) (p q : TextView) (w : WorkView)
    → grips_by c t n (taken m d p q w) ≡ []
test_grips c t n zero d p q w = refl
test_grips c t n (suc m) d p q w = refl

-- so of a node
pub plain_grips : (c : CompiledView) (t : ℕ) (rest : ℕ → TextView) (x : Node) (k : TextView) (w : WorkView) (s :
    StoreView)
    → Begins rest x k → IsPlain x.label → grips_by c t w.made (step_in c t k w s) ≡ []
plain_grips c t rest x Stop w s b plain = absurd b
plain_grips c t rest x (Do a r) w s b plain =
    no_grips c t w.made r a (found_at s (looks (Do a r) w)) w w.fuel
    (subst (λ (y : Node). IsPlain y.label) b.1 plain)
plain_grips c t rest x (Choose d p q r) w s b plain = test_grips c t w.made w.fuel d (joined p r) (joined q r) w
plain_grips c t rest x (Loop d p r) w s b plain = test_grips c t w.made w.fuel d (joined p (Loop d p r)) r w
plain_grips c t rest x (Section i p r) w s b plain = absurd (subst (λ (y : Node). IsPlain y.label) b.1 plain)

-- a node that is no section begins a step
pub step_begins : (rest : ℕ → TextView) (x : Node) (k : TextView) → Begins rest x k → IsStep x.label
    → begins_step k ≡ true
step_begins rest x Stop b step = absurd b
step_begins rest x (Do a r) b step = refl
step_begins rest x (Choose d p q r) b step = refl
step_begins rest x (Loop d p r) b step = refl
step_begins rest x (Section i p r) b step = absurd (subst (λ (y : Node). IsStep y.label) b.1 step)

-- one act more
pub one_more : (c : CompiledView) → IsCompiled c → (a b : Apart) (g : List Node) (node : ℕ) (x : Node) (went : Result
    ℕ Fault)
    → IsApart c a → slice_get c.scheme.graphs.sections a.section ≡ Some g → slice_get g node ≡ Some x
    → IsStep x.label → IsPlain x.label → a.phase ≡ phase.Running a.section node
    → ((s : StoreView) → IsPartOf a.part s → IsPartOf b.part s
    × ((rest : ℕ → TextView) (k : TextView) (y : Node) → slice_get g node ≡ Some y → Begins rest y k
    → begins_step k ≡ true
    → Goes rest a.thread (written s a.part.writes.items) (next (program_of c) a.thread k
    (found_at (written s a.part.writes.items) (looks k a.work)) a.work) went b.work (written s b.part.writes.items)))
    → b.thread ≡ a.thread → b.section ≡ a.section → b.node ≡ a.node → b.start ≡ a.start → b.known ≡ a.known
    → b.phase ≡ phase_by a.section went → b.acts ≡ a.acts + 1 → IsApart c b
one_more c is a b g node x went old graph at step plain stood goes same_thread same_section same_node same_start
    same_known phased counted = record {
      sited = subst (λ i. i < length (sections_of (program_of c).texts)) (sym same_section) old.sited;
      acts = λ s shows.
          let shows' : ShowsAll s a.known.items = subst (λ (z : _). ShowsAll s z.items) same_known shows in
          let was = old.acts s shows' in
          let now = goes s was.0 in
          let rest : ℕ → TextView = rest_at (body_at c a.section) in
          let begins : Begins rest x (rest_at (body_at c a.section) node) =
          (section_graph c is a.section old.sited g graph).running.begins node x at in
          let starts : begins_step (rest_at (body_at c a.section) node) ≡ true =
          step_begins rest x (rest_at (body_at c a.section) node) begins step in
          let once : ActsOnce c a.thread a.section node a.work (written s a.part.writes.items) b.phase b.work
          (written s b.part.writes.items) = (
            starts,
            plain_grips c a.thread rest x (rest_at (body_at c a.section) node) a.work (written s a.part.writes.items)
                begins plain,
            (went, now.1 rest (rest_at (body_at c a.section) node) x at begins starts, phased),
          ) in
          let before : Acts c a.thread a.section a.acts (phase.Running a.section a.node) a.start s
          (phase.Running a.section node) a.work (written s a.part.writes.items) =
          subst (λ q. Acts c a.thread a.section a.acts (phase.Running a.section a.node) a.start s q a.work
          (written s a.part.writes.items)) stood was.1 in
          let all : Acts c a.thread a.section (suc a.acts) (phase.Running a.section a.node) a.start s b.phase b.work
          (written s b.part.writes.items) = (node, a.work, written s a.part.writes.items, before, once) in
          (now.0, rw (same_thread, same_section, same_node, same_start, counted, add-one a.acts) all);
    }

-- what has the same work, cells and writes is a stretch still
pub still_apart : (c : CompiledView) (a : Apart) (v : WorkView) (p : Part) → IsApart c a → v ≡ a.work
    → p.cells.items ≡ a.part.cells.items → p.writes.items ≡ a.part.writes.items
    → IsApart c (record a { work = v; part = p })
still_apart c a v p old worked cells writes = record {
  sited = old.sited;
  acts = λ s shows. rw (worked, cells, writes) (old.acts s shows);
}

-- a node that is this statement goes on with what the statement leaves
module _ (p : ProgramView) (t : ℕ) (rest : ℕ → TextView) (x : Node) (a : Action) (w v : WorkView) (z r : StoreView)
    (label : x.label ≡ Act a) where
  goes_by : (k : TextView) (n : ℕ) (came : Came) → rest n ≡ k → Through v r ≡ left_by t z came
      → Goes rest t z (going k came) (Ok n) v r
  goes_by k n (Went u ch) leads e =
      let both : Through v r ≡ Through u (after_change t z ch) = e in (leads, cc, cc)
  goes_by k n (Fell why u) leads e = absurd (let both : Through v r ≡ Broken why u z = e in cc)

  falls_by : (k : TextView) (f : Fault) (came : Came) → Broken f v r ≡ left_by t z came
      → Goes rest t z (going k came) (Err f) v r
  falls_by k f (Went u ch) e = absurd (let both : Broken f v r ≡ Through u (after_change t z ch) = e in cc)
  falls_by k f (Fell why u) e = let both : Broken f v r ≡ Broken why u z = e in (cc, cc, cc)

  -- the statement with which the node begins
  same_action : (b : Action) (to : Successors) → x ≡ node (Act b) to → a ≡ b
  same_action b to is = let both : Act a ≡ Act b = sym label ∙ ap (λ (y : Node). y.label) is in cc

  no_test : (d : Condition) (to : Successors) → x ≡ node (Test d) to → ⊥
  no_test d to is = let off : Act a ≡ Test d = sym label ∙ ap (λ (y : Node). y.label) is in cc

  pub acted_goes : (n : ℕ) (to : Successors) → x.next ≡ to → n ≡ chosen to true
      → Through v r ≡ left_by t z (one p t a (found_at z (looked a w.locals)) w)
      → (k : TextView) → Begins rest x k → begins_step k ≡ true
      → Goes rest t z (next p t k (found_at z (looks k w)) w) (Ok n) v r
  acted_goes n to leads is left Stop b starts = absurd b
  acted_goes n to leads is left (Do a' k) b starts =
      goes_by k n (one p t a' (found_at z (looked a' w.locals)) w)
      (ap rest (is ∙ ap (λ y. chosen y true) (sym leads ∙ ap (λ (y : Node). y.next) b.1)) ∙ b.2)
      (left ∙ ap (λ y. left_by t z (one p t y (found_at z (looked y w.locals)) w)) (same_action a' (To b.0) b.1))
  acted_goes n to leads is left (Choose d k l m) b starts = absurd (no_test d (Branch b.0 b.1) b.2)
  acted_goes n to leads is left (Loop d k l) b starts = absurd (no_test d (Branch b.0 b.1) b.2)
  acted_goes n to leads is left (Section i k l) b starts = absurd (true≢false (sym starts))

  pub acted_falls : (f : Fault) → Broken f v r ≡ left_by t z (one p t a (found_at z (looked a w.locals)) w)
      → (k : TextView) → Begins rest x k → begins_step k ≡ true
      → Goes rest t z (next p t k (found_at z (looks k w)) w) (Err f) v r
  acted_falls f left Stop b starts = absurd b
  acted_falls f left (Do a' k) b starts =
      falls_by k f (one p t a' (found_at z (looked a' w.locals)) w)
      (left ∙ ap (λ y. left_by t z (one p t y (found_at z (looked y w.locals)) w)) (same_action a' (To b.0) b.1))
  acted_falls f left (Choose d k l m) b starts = absurd (no_test d (Branch b.0 b.1) b.2)
  acted_falls f left (Loop d k l) b starts = absurd (no_test d (Branch b.0 b.1) b.2)
  acted_falls f left (Section i k l) b starts = absurd (true≢false (sym starts))

-- what holds if there is nothing, holds where there is nothing
pub none_of : {A P : Type 0} (o : Option A) → o ≡ None → IfNone o P → P
none_of None e h = h
none_of (Some y) e h = absurd (none_or_some y (sym e))

-- what holds if there is something, holds of it
pub some_of : {A : Type 0} (P : A → Type 0) (o : Option A) (x : A) → o ≡ Some x → IfSome o P → P x
some_of P None x e h = absurd (none_or_some x e)
some_of P (Some y) x e h = subst P (some_injective y x e) h

-- what is no section and makes no object is a statement or a test
pub plain_steps : (l : Label) → IsPlain l → IsStep l
plain_steps (Act a) plain = tt
plain_steps (Test d) plain = tt
plain_steps (WholeSection i) plain = absurd plain
