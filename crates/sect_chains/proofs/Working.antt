-- The worklist: what it keeps, where it ends, and that it ends.
use Rattle.std.proofs.Common.{◌≡◌, ℕ, ◌+◌, ◌<◌, ◌≤◌, List, [], ◌∷◌, map, length, length-append, Some, inl, inr, ap}
use Rattle.std.proofs.{Common.{subst, arith}, lemmas.Bool.{cases_lt}, lemmas.List.{length-map}}
use Rattle.std.proofs.lemmas.Option.{slice_get_within}
use Rattle.std.specs.{Prelude.{slice_get}, List.{flat_map}}
use Rattle.sect_lemmas.proofs.{Places.{Has-index, at_of, one_at}, Listing.{Has-map, Has-flat_map, below, Has-below}}
use Rattle.sect_graph.specs.declared.flow.Node.{Node}
use Rattle.sect_names.specs.{declared.link.Link.{Link}, contracts.link.LinkEq.TheImpl.Laws.{laws-law as the_link_laws}}
use Rattle.sect_names.specs.{declared.lock.Lock.{Lock}, Schemes.{SchemeView}, Locks.{IsLockOf}}
use Rattle.sect_names.specs.{Chains.{link, IsGeneratedAt, LinksTo, AreLinked}, Laws.{AreLawful}}
use Rattle.sect_names.proofs.shared.{Covering.{covers_trans}, Finiteness.{all_locks, finite_locks}}
use Rattle.sect_names.proofs.shared.Telling.{link_tells}
use Rattle.sect_infer.specs.Numberings.{NumberingView}
use Rattle.sect_infer.proofs.shared.Apart.{apart_short}
use Rattle.sect_chains.specs.steps.{Keeping.{KeptView}, Trails.{RespectCover}}
use Rattle.sect_chains.specs.steps.Working.{link_of, links_of, IsFoundAt, IsCoveredAt, IsKept, Grows}
use Rattle.sect_chains.proofs.Growing.{kept_trail, grows_found, grows_at}

-- every lock of the program at every node and at the exit
pub all_steps : SchemeView → List Node → List Link
all_steps s g = flat_map (λ j. map (link j) (all_locks s)) (below (length g + 1))

module _ (s : SchemeView) (t : ℕ) (last : List Lock) (g : List Node) where
  -- what is found and kept, where those locks are found that link to one of the first `done` steps
  pub record IsWorklist (a : NumberingView) (w : KeptView) (done : ℕ) : Type 0 where
    pub kept : IsKept s t last g a w
    pub generated : (x : Link) → IsGeneratedAt s t last g x → IsFoundAt a.keys w.found x
    pub closed : (i : ℕ) (b x : Link) → i < done → slice_get (links_of a.keys w.steps) i ≡ Some b → LinksTo s t g x b
        → IsFoundAt a.keys w.found x
    pub within : done ≤ length w.steps

  -- the locks that link to one step more are found
  pub work_next : (a : NumberingView) (w : KeptView) (b : NumberingView) (v : KeptView) (done : ℕ)
      → done < length w.steps
      → IsWorklist a w done
      → ((x : Link) → slice_get (links_of a.keys w.steps) done ≡ Some x
      → Grows s t last g a w b v (λ y. LinksTo s t g y x))
      → IsWorklist b v (done + 1)
  work_next a w b v done lt work grows =
      let long = length-map w.steps (link_of a.keys) in
      let x = at_of (links_of a.keys w.steps) done (omega (arith, lt, long)) in
      let f = grows x.0 x.1 in
      let stays = grows_found s t last g a w b v (λ y. LinksTo s t g y x.0) f in
      let at = grows_at s t last g a w b v (λ y. LinksTo s t g y x.0) work.kept f in
      record {
        kept = f.kept;
        generated = λ y h. stays y (work.generated y h);
        closed = λ i m y le here c. elim (cases_lt i done) [
          | inl k ↦ (let old = at_of (links_of a.keys w.steps) i (omega (arith, k, lt, long)) in
              let same = one_at (links_of b.keys v.steps) i m old.0 here (at i old.0 old.1) in
              stays y (work.closed i old.0 y k old.1 (subst (LinksTo s t g y) same c)))
          | inr k ↦ (let e : i ≡ done = omega (arith, le, k) in
              let got = subst (λ n. slice_get (links_of b.keys v.steps) n ≡ Some m) e here in
              f.each y (subst (LinksTo s t g y) (one_at (links_of b.keys v.steps) done m x.0 got (at done x.0 x.1)) c))
        ];
        within = (let grown = f.steps.1 in omega (arith, lt, ap length grown, length-append w.steps f.steps.0));
      }

  -- where all is done, each step with a trail is covered at its node
  pub work_ends : RespectCover s t g → (a : NumberingView) (w : KeptView) (done : ℕ) → length w.steps ≤ done
      → IsWorklist a w done → (x : Link) (links : List Link) → AreLinked s t last g x links
      → IsCoveredAt s (links_of a.keys w.steps) x
  work_ends respects a w done past work x [] h = work.kept.covered x (work.generated x h)
  work_ends respects a w done past work x (b ∷ links) (c, h) =
      let top = work_ends respects a w done past work b links h in
      let here = Has-index (links_of a.keys w.steps) (link b.node top.0) top.1 in
      let within = slice_get_within (links_of a.keys w.steps) here.0 (link b.node top.0) here.1 in
      let over = respects x.node c.0 c.1 b.lock top.0 x.lock top.2 c.3 in
      let found = work.closed here.0 (link b.node top.0) (link x.node over.0)
      (omega (arith, within, length-map w.steps (link_of a.keys), past)) here.1 (c.0, c.1, c.2, over.1) in
      let kept = work.kept.covered (link x.node over.0) found in
      (kept.0, kept.1, covers_trans s kept.0 over.0 x.lock kept.2 over.2)

  module _ (lawful : AreLawful s t last g) where
    -- a step with a trail is at a node or at the exit, and its lock is the program's
    pub trail_lock : (a : Link) (links : List Link) → AreLinked s t last g a links → (a.node ≤ length g)
        × IsLockOf s t a.lock
    trail_lock a [] h = elim h [
      | inl k ↦ (
        (let w = slice_get_within g a.node k.0 k.1 in
            omega (arith, w)),
        lawful.generated a.node k.0 k.1 a.lock k.2,
      )
      | inr k ↦ ((let e = k.0 in omega (arith, e)), lawful.ended a.lock k.1)
    ]
    trail_lock a (b ∷ links) (c, h) =
        let before = trail_lock b links h in (
          (let w = slice_get_within g a.node c.0 c.1 in omega (arith, w)),
          lawful.carried a.node c.0 c.1 b.lock a.lock
              before.1 c.3,
        )

    -- so the steps that are kept are few
    pub few : (a : NumberingView) (w : KeptView) → IsKept s t last g a w → length w.steps ≤ length (all_steps s g)
    unfolding all_steps
    few a w k =
        let short = apart_short the_link_laws link_tells (links_of a.keys w.steps) (all_steps s g) k.apart (λ x h.
        let d = kept_trail s t last g a w k x h in
        let l = trail_lock x d.0 d.1 in
        Has-flat_map (λ j. map (link j) (all_locks s)) (below (length g + 1)) x.node x
        (Has-below (length g + 1) x.node (let w = l.0 in omega (arith, w)))
        (Has-map (link x.node) (all_locks s) x.lock (finite_locks s t x.lock l.1))) in
        omega (arith, short, length-map w.steps (link_of a.keys))
