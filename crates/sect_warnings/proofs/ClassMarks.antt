-- The chain of a class lock that a section of a compiled program takes.
use Rattle.std.proofs.Common.{◌≡◌, ◌<◌, ℕ, zero, suc, ◌-◌, List, [], ◌∷◌, Some, true, length, refl, sym, ap, ◌∙◌, subst}
use Rattle.std.proofs.{Common.{arith}, lemmas.Option.{slice_get-get_or, slice_get_within, get_or_from_slice_get}}
use Rattle.std.specs.{Prelude.{slice_get, slice_index_or}, List.{position, AllZip}}
use Rattle.sect_lemmas.specs.Lists.{Has}
use Rattle.sect_lemmas.proofs.Membership.{Has-slice_get}
use Rattle.sect_types.specs.Sections.{sections_of}
use Rattle.sect_graph.specs.{declared.flow.Node.{Node}, Layout.{flow_nodes}}
use Rattle.sect_points.specs.Paths.{PathView}
use Rattle.sect_names.specs.{declared.link.Link.{Link}, declared.lock.Effect.{Effect}, declared.lock.Lock.{Lock}}
use Rattle.sect_names.specs.{Carrying.{Before}, Laws.{IsSoundStep}, Locks.{IsPathOf}, Needed.{end_of}}
use Rattle.sect_names.specs.{Records.{IsNeedable}, Printing.{AreNamed}}
use Rattle.sect_names.proofs.shared.{Ends.{only_all}, Named.{named_lock}}
use Rattle.sect_names.proofs.shared.{Needing.{keeps_record, generated_needable, carried_needable}, Placing.{step_sound}}
use Rattle.sect_names.proofs.shared.{SectionSteps.{section_step}, Sounding.{path_there}}
use Rattle.sect_emit.specs.{Compiled.{CompiledView, IsCompiled}, Explaining.{section_at, IsChained}}
use Rattle.sect_emit.specs.Words.{IsChainNamed}
use Rattle.sect_chains.specs.Chains.{IsFirstChain}
use Rattle.sect_emit.proofs.shared.TypedPrograms.{typed_program}
use Rattle.sect_warnings.specs.ClassLocks.{class_lock, IsReason, IsTooLong}
use Rattle.sect_warnings.specs.steps.Reasons.{ReasonsView, AreReasons, is_on_path, IsLong, IsTurn, ArePathsBefore}
use Rattle.sect_warnings.proofs.{Judging.{section_is, flow_is}, Reasoning.{last_stands, all_needable, turned}}
use Rattle.sect_warnings.proofs.Turning.{Turn, turning, turn_found}
use Rattle.sect_front.specs.declared.tree.Locking.TheVariants as locking
use Rattle.sect_names.specs.declared.lock.Lock.TheVariants as lock

module _ (c : CompiledView) (compiled : IsCompiled c) (i : ℕ)
    (within : i < length (sections_of c.scheme.program.texts))
  where
    abbrev nodes : List Node
    nodes = flow_nodes (section_at c i).body

    -- the graph of the section is kept
    graph_is : slice_get c.scheme.graphs.sections i ≡ Some nodes
    graph_is =
        let many = compiled.scheme.graphed.section_count in
        let kept = slice_get-get_or c.scheme.graphs.sections i [] (omega (arith, within, many)) in
        kept ∙ ap (λ g. Some g) (flow_is c compiled.scheme i within (slice_index_or c.scheme.graphs.sections i []) kept)

    -- what its nodes do agrees with the declarations
    pub step_there : (j : ℕ) (y : Node) → slice_get nodes j ≡ Some y
        → IsSoundStep c.scheme.program (section_at c i).thread y.label
    step_there j y at = step_sound c.scheme (typed_program c compiled) (section_at c i).thread y.label
        (section_step c.scheme compiled.scheme (section_at c i) y
        (i, nodes, j, section_is c compiled.scheme i within, graph_is, at))

    ends_so : (l : Lock) → Has (end_of c.scheme i) l → lock.All ≡ l
    ends_so l has = only_all (slice_index_or c.scheme.program.lockings i locking.Inferred) l has

    module _ (n : ℕ) (e : Effect) where
      -- somewhere along it a path gets too long
      pub turn_of : (chain : List Link) → IsReason c i (class_lock n e) chain
          → Turn c.scheme (section_at c i).thread nodes n e chain
      turn_of [] reason = absurd reason.is
      turn_of (a ∷ links) reason =
          turning c.scheme (section_at c i).thread (end_of c.scheme i) nodes n e ends_so a links
          (ap (λ (x : Link). x.lock) reason.is.0) reason.is.1

      -- its last step stands at a node
      pub last_there : (chain : List Link) → IsReason c i (class_lock n e) chain
          → (x : Link) × (slice_get chain (length chain - 1) ≡ Some x) × (x.node < length nodes)
      last_there [] reason = absurd reason.is
      last_there (a ∷ links) reason =
          let first : a.lock ≡ class_lock n e = ap (λ (x : Link). x.lock) reason.is.0 in
          let found = last_stands c.scheme (section_at c i).thread (end_of c.scheme i) nodes ends_so a links
          (λ all. (let not : class_lock n e ≡ lock.All = sym first ∙ all in absurd cc)) reason.is.1 in
          let place : length (a ∷ links) - 1 ≡ length links = omega arith in
          (found.0, subst (λ k. slice_get (a ∷ links) k ≡ Some found.0) (sym place) found.1, found.2)

      -- what may denote before the node what the path denotes behind it is a path of the program
      pub path_is : (chain : List Link) → IsReason c i (class_lock n e) chain
          → (turn : Turn c.scheme (section_at c i).thread nodes n e chain) (x : Node) (q : PathView)
          → slice_get nodes turn.here.node ≡ Some x
          → Before c.scheme.classes (section_at c i).thread x.label turn.path q → IsPathOf c.scheme.program q
      path_is [] reason turn x q at before = absurd reason.is
      path_is (a ∷ links) reason turn x q at before =
          let s = c.scheme in
          let t = (section_at c i).thread in
          let needed : IsNeedable s t turn.next.lock = all_needable s t (end_of s i) nodes ends_so
          (λ j y there l made. generated_needable s t compiled.scheme y.label (step_there j y there) l made)
          (λ j y there l r is back. carried_needable s t y.label (step_there j y there) l r is back) a links reason.is.1
          (suc turn.place) turn.next turn.second in
          let bare : IsNeedable s t (lock.Path turn.path turn.effect) = subst (IsNeedable s t) turn.on_path needed in
          path_there s.program q bare.1.0
          (keeps_record s t x.label (step_there turn.here.node x at) turn.path q bare.1.0 before bare.1.1)

      module _ (chain : List Link) (reason : IsReason c i (class_lock n e) chain) where
        abbrev turn : Turn c.scheme (section_at c i).thread nodes n e chain
        turn = turn_of chain reason

        -- the step behind is the first whose lock is on a path
        pub found_at : position (λ (a : Link). is_on_path a.lock) chain ≡ Some (suc turn.place)
        found_at = turn_found c.scheme (section_at c i).thread (end_of c.scheme i) nodes n e ends_so chain turn

        -- the steps on both sides, by the number that is found
        module _ (k : ℕ) (a b : Link) (found : Some k ≡ position (λ (x : Link). is_on_path x.lock) chain) where
          number_is : k ≡ suc turn.place
          number_is = let same : Some k ≡ Some (suc turn.place) = found ∙ found_at in cc

          here_at : slice_index_or chain (k - 1) a ≡ turn.here
          here_at =
              let place : k - 1 ≡ turn.place = omega (arith, number_is) in
              ap (λ m. slice_index_or chain m a) place ∙ get_or_from_slice_get chain turn.place turn.here a turn.first

          next_at : slice_index_or chain k b ≡ turn.next
          next_at = ap (λ m. slice_index_or chain m b) number_is
              ∙ get_or_from_slice_get chain (suc turn.place) turn.next b turn.second

          pub turn_is : IsTurn chain (slice_index_or chain (k - 1) a).node (slice_index_or chain k b).lock
          turn_is = record {
            place = turn.place;
            here = turn.here;
            next = turn.next;
            found = found_at;
            first = turn.first;
            second = turn.second;
            stands = ap (λ (x : Link). x.node) (sym here_at);
            on_path = ap (λ (x : Link). x.lock) (sym next_at);
          }

          pub here_there : (slice_index_or chain (k - 1) a).node < length nodes
          here_there = subst (λ (x : Link). x.node < length nodes) (sym here_at)
              (slice_get_within nodes turn.here.node turn.links.0 turn.links.1)

          pub next_on_path : is_on_path (slice_index_or chain k b).lock ≡ true
          next_on_path = ap is_on_path (ap (λ (x : Link). x.lock) next_at ∙ turn.on_path)

        -- there are two steps at least
        pub some_steps : 1 < length chain
        some_steps = let w = slice_get_within chain (suc turn.place) turn.next turn.second in omega (arith, w)

        -- there is but one such place
        module _ (j : ℕ) (l : Lock) (t : IsTurn chain j l) where
          same_place : t.place ≡ turn.place
          same_place = let same : Some (suc t.place) ≡ Some (suc turn.place) = sym t.found ∙ found_at in cc

          same_here : turn.here.node ≡ j
          same_here =
              let same : Some turn.here ≡ Some t.here =
              sym turn.first ∙ (ap (slice_get chain) (sym same_place) ∙ t.first) in
              let one : turn.here ≡ t.here = cc in ap (λ (x : Link). x.node) one ∙ t.stands

          same_next : turn.next.lock ≡ l
          same_next =
              let same : Some turn.next ≡ Some t.next =
              sym turn.second ∙ (ap (λ m. slice_get chain (suc m)) (sym same_place) ∙ t.second) in
              let one : turn.next ≡ t.next = cc in ap (λ (x : Link). x.lock) one ∙ t.on_path

        module _ (j : ℕ) (l : Lock) (t : IsTurn chain j l) (paths : List PathView) (are : ArePathsBefore c i j l paths)
          where
            node : turn.here.node ≡ j
            node = same_here j l t

            same : turn.next.lock ≡ l
            same = same_next j l t

            -- one of the paths before the node gets too long
            pub one_long : (q : PathView) × Has paths q × IsLong c.scheme n q
            one_long =
                let to = turned c.scheme (section_at c i).thread nodes n e turn.effect turn.here turn.next turn.path
                turn.links turn.on_class turn.on_path in (
                  to.2.0,
                  (are turn.path turn.effect to.0 (sym same ∙ turn.on_path)
                      (subst (λ m. slice_get nodes m ≡ Some to.0) node to.1) to.2.0).1 to.2.1,
                  (to.2.2, to.2.3),
                )

            -- whichever of them does is what is told
            pub too_long : (q : PathView) → Has paths q → IsLong c.scheme n q → IsTooLong c i n e chain j q
            too_long q has long =
                let at = subst (λ m. slice_get nodes m ≡ Some turn.links.0) node turn.links.1 in
                record {
                  place = turn.place;
                  here = turn.here;
                  next = turn.next;
                  path = turn.path;
                  effect = turn.effect;
                  step = turn.links.0;
                  first = turn.first;
                  second = turn.second;
                  stands = node;
                  on_class = turn.on_class;
                  on_path = turn.on_path;
                  there = at;
                  before = (are turn.path turn.effect turn.links.0 (sym same ∙ turn.on_path) at q).0 has;
                  classed = long.0;
                  long = long.1;
                }

            -- each is a path of the program
            pub named_path : (q : PathView) → Has paths q → IsPathOf c.scheme.program q
            named_path q has =
                let at = subst (λ m. slice_get nodes m ≡ Some turn.links.0) node turn.links.1 in
                path_is chain reason turn turn.links.0 q turn.links.1
                ((are turn.path turn.effect turn.links.0 (sym same ∙ turn.on_path) at q).0 has)

-- of two lists whose elements go together, those at one place do
pub zip_at : {A B : Type 0} (R : A → B → Type 0) (xs : List A) (ys : List B) → AllZip R xs ys → (k : ℕ) (x : A)
    → slice_get xs k ≡ Some x → (y : B) × (slice_get ys k ≡ Some y) × R x y
zip_at R [] [] each k x at = absurd cc
zip_at R [] (y ∷ ys) each k x at = absurd each
zip_at R (z ∷ xs) [] each k x at = absurd each
zip_at R (z ∷ xs) (y ∷ ys) each zero x at = let is : z ≡ x = cc in (y, refl, subst (λ w. R w y) is each.0)
zip_at R (z ∷ xs) (y ∷ ys) each (suc k) x at = zip_at R xs ys each.1 k x at

has_within : (sets : List (List Lock)) (i : ℕ) (l : Lock) → Has (slice_index_or sets i []) l → i < length sets
has_within [] zero l has = absurd has
has_within [] (suc i) l has = absurd has
has_within (s ∷ sets) zero l has = omega arith
has_within (s ∷ sets) (suc i) l has = let w = has_within sets i l has in omega (arith, w)

-- the lock of that number in the set of section i has its chain at that place
reason_there : (c : CompiledView) (i : ℕ) (chains : List (List Link)) → IsChained c i chains → (l : Lock) (k : ℕ)
    → slice_get (slice_index_or c.sets i []) k ≡ Some l
    → (chain : List Link) × (slice_get chains k ≡ Some chain) × IsReason c i l chain
reason_there c i chains chained l k at =
    zip_at (IsFirstChain c.scheme (section_at c i).thread (end_of c.scheme i) (flow_nodes (section_at c i).body))
    (slice_index_or c.sets i []) chains chained k l at

-- where the chains of a section are kept that of a lock of its set is among them, and what it names is there
pub kept_reason : (c : CompiledView) (r s : ReasonsView) → r ≡ s → AreReasons c s → (l : Lock) (set : List Lock) (k : ℕ)
    → slice_get c.sets r.section ≡ Some set → slice_get set k ≡ Some l
    → (chain : List Link) × (slice_get r.chains k ≡ Some chain) × IsReason c s.section l chain
    × IsChainNamed c.scheme.program chain
kept_reason c r s same are l set k own at =
    let own_are : AreReasons c r = subst (AreReasons c) (sym same) are in
    let there = reason_there c r.section r.chains own_are.chained l k
    (subst (λ ls. slice_get ls k ≡ Some l) (sym (get_or_from_slice_get c.sets r.section set [] own)) at) in (
      there.0,
      there.1,
      subst (λ (x : ReasonsView). IsReason c x.section l there.0) same there.2,
      own_are.named there.0 (Has-slice_get r.chains k there.0 there.1),
    )

-- a section that takes a lock is there
pub taken_there : (c : CompiledView) → IsCompiled c → (i : ℕ) (l : Lock) → Has (slice_index_or c.sets i []) l
    → i < length (sections_of c.scheme.program.texts)
taken_there c compiled i l has =
    let many = compiled.set_count in let within = has_within c.sets i l has in omega (arith, many, within)

-- what the locks of a section's set name is there
pub set_named : (c : CompiledView) → IsCompiled c → (i : ℕ) → AreNamed c.scheme.program (slice_index_or c.sets i [])
set_named c compiled i l has =
    let within = taken_there c compiled i l has in
    let many = compiled.set_count in
    named_lock c.scheme (section_at c i).thread l (compiled.lawful i (section_at c i) (slice_index_or c.sets i []) l
    (section_is c compiled.scheme i within) (slice_get-get_or c.sets i [] (omega (arith, within, many))) has)
