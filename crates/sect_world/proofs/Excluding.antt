-- Readers and writers keep apart: of two threads none may read what the other may write.
use Rattle.std.proofs.Common.{◌≡◌, ◌≢◌, inl, inr, ℕ, List, true, Option, Some, None, sym, ◌∙◌, subst, Bool}
use Rattle.std.specs.Prelude.{slice_get}
use Rattle.sect_modes.specs.{declared.mode.Mode.{Mode}, declared.key.Key.{Key}}
use Rattle.sect_modes.specs.Mode.{are_compatible, is_at_least, intention_of, is_reading, is_making}
use Rattle.sect_types.specs.{declared.meaning.store.ObjectName.{ObjectName}, Store.{ObjectView, StoreView, object_at}}
use Rattle.sect_emit.specs.{declared.plan.Grip.{Grip}, Plan.{key_of, held_mode}, Compiled.{CompiledView}}
use Rattle.sect_emit.specs.{State.{ThreadState, State, IsThread}, ModeTests.{is_reading_object, is_writing}}
use Rattle.sect_world.specs.Held.{holds_all, class_mode_in, mode_of_class, locked_object, may_read, may_write}
use Rattle.sect_world.specs.Kept.{HaveTheirClass, IsWellKept}
use Rattle.sect_emit.proofs.shared.Modes.{writing_is, sharing_turned, apart_from_writing, apart_from_making}
use Rattle.sect_emit.proofs.shared.PlanModes.{key_of-injective, class_or_object, all_or_object}
use Rattle.sect_world.proofs.Holding.{passes_in, IsHeldPart, IsHeldBy, held_is, class_is}
use Rattle.sect_modes.specs.declared.key.Key.TheVariants as key

-- who holds an object or its class holds `all` in some mode
all_in : (c : CompiledView) (s : StoreView) (held : List Grip) → HaveTheirClass c s held
    → (for_key for_class : Mode → Bool) (o : ObjectName) (x : ObjectView) → object_at s o ≡ Some x
    → IsHeldBy c for_key for_class held o x → (b : Mode) × (held_mode key.All held ≡ Some b)
all_in c s held whole for_key for_class o x there by = elim by [
  | inl all ↦ from_all all
  | inr (inl (m, is, passed)) ↦ elim (whole.objects o x m is there)
      [ inl all ↦ from_all all | inr (b, of_class, enough) ↦ from_class b of_class ]
  | inr (inr (m, is, passed)) ↦ from_class m is
]
  where
    from_all : holds_all held ≡ true → (b : Mode) × (held_mode key.All held ≡ Some b)
    from_all all = let m = passes_in is_writing (held_mode key.All held) all in (m.0, m.1)

    from_class : (m : Mode) → mode_of_class c held x.site ≡ Some m → (b : Mode) × (held_mode key.All held ≡ Some b)
    from_class m is = let n = class_is c held x.site m is in let a = whole.classes n.0 m n.2 in (a.0, a.1)

-- two lists of keys, and an object: where both have its key, that of a class or that of all, the modes go together
module _ (c : CompiledView) (s : StoreView) (mine theirs : List Grip) (q : ObjectName)
    (share : (k : Key) (m n : Mode) → ((o : ObjectName) → k ≡ key_of o → o ≡ q) → held_mode k mine ≡ Some m
    → held_mode k theirs ≡ Some n → are_compatible m n ≡ true) where
  all_share : (m n : Mode) → held_mode key.All mine ≡ Some m → held_mode key.All theirs ≡ Some n
      → are_compatible m n ≡ true
  all_share m n = share key.All m n (λ o e. absurd (all_or_object o e))

  -- those of a class, if there is one
  in_class_share : (o : Option ℕ) (m n : Mode) → class_mode_in mine o ≡ Some m → class_mode_in theirs o ≡ Some n
      → are_compatible m n ≡ true
  in_class_share None m n e f = absurd cc
  in_class_share (Some k) m n e f = share (key.Class k) m n (λ o is. absurd (class_or_object k o is)) e f

  -- and those of the class of a site
  classes_share : (site : ℕ) (m n : Mode) → mode_of_class c mine site ≡ Some m → mode_of_class c theirs site ≡ Some n
      → are_compatible m n ≡ true
  classes_share site m n e f = in_class_share (slice_get c.scheme.classes.numbers site) m n e f

  -- who holds all objects in X is the only one that holds `all`
  all_alone : holds_all mine ≡ true → (b : Mode) → held_mode key.All theirs ≡ Some b → ⊥
  all_alone all b is =
      let m = passes_in is_writing (held_mode key.All mine) all in
      apart_from_writing b m.0 m.2 (sym (sharing_turned m.0 b) ∙ all_share m.0 b m.1 is)

  -- that writer keeps each reader out
  writer_alone : holds_all theirs ≡ true → (b : Mode) → held_mode key.All mine ≡ Some b → ⊥
  writer_alone all b is =
      let m = passes_in is_writing (held_mode key.All theirs) all in
      apart_from_writing b m.0 m.2 (all_share b m.0 is m.1)

  module _ (classes : HaveTheirClass c s mine) (other_classes : HaveTheirClass c s theirs) where
    -- where one holds the object's key or class for reading and the other for writing
    parts_apart : (x : ObjectView) → object_at s q ≡ Some x → IsHeldPart c is_reading_object is_reading mine q x
        → IsHeldPart c is_writing is_writing theirs q x → ⊥
    parts_apart x there (inl (m, is, reads)) (inl (n, uis, writes)) =
        apart_from_writing m n writes
        (share (key_of q) m n (λ o e. sym (key_of-injective q o e)) is uis)
    parts_apart x there (inl (m, is, reads)) (inr (n, uis, writes)) = elim (classes.objects q x m is there) [
      | inl all ↦ (let b = all_in c s theirs other_classes is_writing is_writing q x there
          (inr (inr (n, uis, writes))) in all_alone all b.0 b.1)
      | inr (b, of_class, enough) ↦ apart_from_writing b n writes (classes_share x.site b n of_class uis)
    ]
    parts_apart x there (inr (m, is, reads)) (inl (n, uis, writes)) = elim (other_classes.objects q x n uis there) [
      | inl all ↦ (let b = all_in c s mine classes is_reading_object is_reading q x there
          (inr (inr (m, is, reads))) in writer_alone all b.0 b.1)
      | inr (b, of_class, enough) ↦
          let makes : is_making b ≡ true =
          subst (λ z. is_at_least b (intention_of z) ≡ true) (writing_is n writes) enough in
          apart_from_making m b reads makes (classes_share x.site m b is of_class)
    ]
    parts_apart x there (inr (m, is, reads)) (inr (n, uis, writes)) =
        apart_from_writing m n writes (classes_share x.site m n is uis)

    -- where one holds the object for reading and the other for writing
    apart_at : (x : ObjectView) → object_at s q ≡ Some x → IsHeldBy c is_reading_object is_reading mine q x
        → IsHeldBy c is_writing is_writing theirs q x → ⊥
    apart_at x there (inl all) writer = let b =
        all_in c s theirs other_classes is_writing is_writing q x there writer in all_alone all b.0 b.1
    apart_at x there (inr part) (inl all) = let b =
        all_in c s mine classes is_reading_object is_reading q x there (inr part) in writer_alone all b.0 b.1
    apart_at x there (inr part) (inr other_part) = parts_apart x there part other_part

-- with such keys of what is locked for an object none may read what another may write
pub reader_and_writer_clash : (c : CompiledView) (s : StoreView) (mine theirs : List Grip) → HaveTheirClass c s mine
    → HaveTheirClass c s theirs → (o : ObjectName)
    → ((k : Key) (m n : Mode) → ((q : ObjectName) → k ≡ key_of q → q ≡ locked_object c s o)
    → held_mode k mine ≡ Some m → held_mode k theirs ≡ Some n → are_compatible m n ≡ true)
    → may_read c s mine o ≡ true → may_write c s theirs o ≡ true → ⊥
reader_and_writer_clash c s mine theirs classes other_classes o share reads writes =
    let q = locked_object c s o in
    let r = held_is c is_reading_object is_reading s mine q reads in
    let w = held_is c is_writing is_writing s theirs q writes in
    let same : w.0 ≡ r.0 = let a = r.1 in let b = w.1 in cc in
    apart_at c s mine theirs q share classes other_classes r.0 r.1 r.2
    (subst (IsHeldBy c is_writing is_writing theirs q) same w.2)

-- of two threads of a well kept state none may read what the other may write
pub readers_and_writers_exclude : (c : CompiledView) (s : State) → IsWellKept c s → (t u : ℕ) (th uh : ThreadState)
    → t ≢ u → IsThread s t th → IsThread s u uh → HaveTheirClass c s.store th.held → HaveTheirClass c s.store uh.held
    → (o : ObjectName) → may_read c s.store th.held o ≡ true → may_write c s.store uh.held o ≡ true → ⊥
readers_and_writers_exclude c s kept t u th uh other at uat classes other_classes o =
    reader_and_writer_clash c s.store th.held uh.held classes other_classes o
    (λ k m n one e f. kept.compatible t u th uh k m n other at uat e f)
