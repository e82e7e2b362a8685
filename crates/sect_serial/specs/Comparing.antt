-- When texts, threads, runs and their ends are equal, and how they are hashed.
use Rattle.std.specs.{Prelude.{◌≡◌, ◌&&◌, ◌++◌, Bool, true, false, List, nat_eq}, Option.{option_eq}}
use Rattle.std.specs.{Bool.{Decides}, Ordering.{on, eq_of_both, int_eq}}
use Rattle.std.specs.Cmp.{IsEquivalence, and_equiv, on_equiv, nat_eq_equiv, int_eq_equiv, unsigned_Decides}
use Rattle.std.specs.{Cmp.{signed_Decides}, Cmp.Lexicographic.{pointwise, lists_equiv, options_equiv}}
use Rattle.std.specs.Hash.{HashWrites, Alike, slice, and-Alike, on_Alike, items_Alike}
use Rattle.std.proofs.Common.{refl, ap, sym, ◌∙◌}
use Rattle.std.specs.Hash as fed
use base.Stored.{Gv, gnil, gnum, gcons}
use Rattle.sect_types.specs.{Coding.{statements_code}, Statements.{TextView}, Whole.{FrameView, RunView, SerialEndView}}
use Rattle.sect_types.specs.contracts.meaning.store.EndPartialEq.TheImpl.{ghosts as the_end_eq}
use Rattle.sect_types.specs.contracts.meaning.store.EndEq.TheImpl.Laws.{laws-law as the_end_laws}
use Rattle.sect_types.specs.contracts.meaning.store.EndHash.TheImpl.{ghosts as the_end_hash}
use Rattle.sect_types.specs.contracts.meaning.store.EndHash.TheImpl.Laws.{respects_eq-law as the_end_alike}
use Rattle.sect_types.specs.declared.meaning.store.Datum.{Datum}
use Rattle.sect_types.specs.contracts.meaning.store.DatumPartialEq.TheImpl.{ghosts as the_datum_eq}
use Rattle.sect_types.specs.contracts.meaning.store.DatumEq.TheImpl.Laws.{laws-law as the_datum_laws}
use Rattle.sect_types.specs.contracts.meaning.store.DatumHash.TheImpl.{ghosts as the_datum_hash}
use Rattle.sect_types.specs.contracts.meaning.store.DatumHash.TheImpl.Laws.{respects_eq-law as the_datum_alike}
use Rattle.sect_types.specs.Meaning.{WorkView}
use Rattle.sect_store.specs.Comparing.{store_eq, store_fed, store_equivalence, store_alike, far_eq, far_equivalence}
use Rattle.sect_serial.specs.Trimming.{in_use}

-- trees of numbers
abbrev pub same_tree : Gv → Gv → Bool
same_tree gnil gnil = true
same_tree (gnum n) (gnum m) = nat_eq n m
same_tree (gcons a b) (gcons c d) = same_tree a c && same_tree b d
same_tree _ _ = false

tree_refl : (a : Gv) → same_tree a a ≡ true
tree_refl gnil = refl
tree_refl (gnum n) = nat_eq_equiv.refl n
tree_refl (gcons a b) = both (same_tree a a) (same_tree b b) (tree_refl a) (tree_refl b) where
  both : (x y : Bool) → x ≡ true → y ≡ true → x && y ≡ true
  both true true e f = refl
  both true false e f = f
  both false y e f = e

tree_true : (a b : Gv) → same_tree a b ≡ true → a ≡ b
tree_true gnil gnil e = refl
tree_true gnil (gnum m) e = absurd (cc)
tree_true gnil (gcons c d) e = absurd (cc)
tree_true (gnum n) gnil e = absurd (cc)
tree_true (gnum n) (gnum m) e = ap gnum ((unsigned_Decides n m).0 e)
tree_true (gnum n) (gcons c d) e = absurd (cc)
tree_true (gcons a b) gnil e = absurd (cc)
tree_true (gcons a b) (gnum m) e = absurd (cc)
tree_true (gcons a b) (gcons c d) e = parts (same_tree a c) (same_tree b d) (tree_true a c) (tree_true b d) e where
  parts : (x y : Bool) → (x ≡ true → a ≡ c) → (y ≡ true → b ≡ d) → x && y ≡ true → gcons a b ≡ gcons c d
  parts true true f g e = λ i. gcons (f refl i) (g refl i)
  parts true false f g e = absurd (cc)
  parts false y f g e = absurd (cc)

-- texts are the same statement for statement
abbrev pub text_eq : TextView → TextView → Bool
text_eq a b = same_tree (statements_code.code a) (statements_code.code b)

pub text_tells : (a b : TextView) → Decides (text_eq a b) (a ≡ b)
text_tells a b = (
  λ e. statements_code.inj a b (tree_true _ _ e),
  λ e. ap (text_eq a) (sym e) ∙ tree_refl (statements_code.code a),
)

pub text_equivalence : IsEquivalence text_eq
text_equivalence = record {
  refl = λ a. tree_refl (statements_code.code a);
  symm = λ a b. agree a b (text_eq a b) (text_eq b a) (text_tells a b) (text_tells b a);
  congr = λ a b c e. ap (λ x. text_eq x c) ((text_tells a b).0 e);
} where
  agree : (a b : TextView) (x y : Bool) → Decides x (a ≡ b) → Decides y (b ≡ a) → x ≡ y
  agree a b true true d f = refl
  agree a b true false d f = sym (f.1 (sym (d.0 refl)))
  agree a b false true d f = d.1 (sym (f.0 refl))
  agree a b false false d f = refl

-- the locals that are still looked at
abbrev pub locals_in_use : FrameView → List Datum
locals_in_use f = in_use f.ended f.work.locals

abbrev pub frame_eq : FrameView → FrameView → Bool
frame_eq = eq_of_both (on locals_in_use (pointwise the_datum_eq.eq)) (eq_of_both (on (λ (f : FrameView). f.work) far_eq)
    (eq_of_both (on (λ (f : FrameView). f.ended) (option_eq the_end_eq.eq)) (on (λ (f : FrameView). f.text) text_eq)))

abbrev pub frame_fed : FrameView → HashWrites
frame_fed f = slice the_datum_hash.hash_input (locals_in_use f) ++ fed.u32 f.work.fuel

abbrev pub run_eq : RunView → RunView → Bool
run_eq = eq_of_both (on (λ (r : RunView). r.store) store_eq)
    (eq_of_both (on (λ (r : RunView). r.output) (pointwise int_eq)) (on (λ (r : RunView). r.frames)
    (pointwise frame_eq)))

abbrev pub run_fed : RunView → HashWrites
run_fed r = store_fed r.store ++ (slice fed.i64 r.output ++ slice frame_fed r.frames)

abbrev pub end_eq : SerialEndView → SerialEndView → Bool
end_eq = eq_of_both (on (λ (e : SerialEndView). e.store) store_eq)
    (eq_of_both (on (λ (e : SerialEndView). e.output) (pointwise int_eq)) (on (λ (e : SerialEndView). e.ends)
    (pointwise the_end_eq.eq)))

abbrev pub end_fed : SerialEndView → HashWrites
end_fed e = store_fed e.store ++ (slice fed.i64 e.output ++ slice the_end_hash.hash_input e.ends)

pub frame_equivalence : IsEquivalence frame_eq
frame_equivalence = and_equiv (on_equiv locals_in_use (lists_equiv the_datum_laws))
    (and_equiv (on_equiv (λ (f : FrameView). f.work) far_equivalence)
    (and_equiv (on_equiv (λ (f : FrameView). f.ended) (options_equiv the_end_laws))
    (on_equiv (λ (f : FrameView). f.text) text_equivalence)))

-- the same locals in use, and the same fuel
pub frame_alike : Alike frame_eq frame_fed
frame_alike = and-Alike (on_Alike locals_in_use (items_Alike (record { fed = the_datum_alike })))
    (fed.first_alike _ (on_Alike (λ (f : FrameView). f.work)
    (fed.first_alike _ (on_Alike (λ (w : WorkView). w.fuel) (fed.same_Alike fed.u32 unsigned_Decides)))))

pub run_equivalence : IsEquivalence run_eq
run_equivalence = and_equiv (on_equiv (λ (r : RunView). r.store) store_equivalence)
    (and_equiv (on_equiv (λ (r : RunView). r.output) (lists_equiv int_eq_equiv))
    (on_equiv (λ (r : RunView). r.frames) (lists_equiv frame_equivalence)))

pub run_alike : Alike run_eq run_fed
run_alike = and-Alike (on_Alike (λ (r : RunView). r.store) store_alike)
    (and-Alike (on_Alike (λ (r : RunView). r.output) (items_Alike (fed.same_Alike fed.i64 signed_Decides)))
    (on_Alike (λ (r : RunView). r.frames) (items_Alike frame_alike)))

pub end_equivalence : IsEquivalence end_eq
end_equivalence = and_equiv (on_equiv (λ (e : SerialEndView). e.store) store_equivalence)
    (and_equiv (on_equiv (λ (e : SerialEndView). e.output) (lists_equiv int_eq_equiv))
    (on_equiv (λ (e : SerialEndView). e.ends) (lists_equiv the_end_laws)))

pub end_alike : Alike end_eq end_fed
end_alike = and-Alike (on_Alike (λ (e : SerialEndView). e.store) store_alike)
    (and-Alike (on_Alike (λ (e : SerialEndView). e.output) (items_Alike (fed.same_Alike fed.i64 signed_Decides)))
    (on_Alike (λ (e : SerialEndView). e.ends) (items_Alike (record { fed = the_end_alike }))))
