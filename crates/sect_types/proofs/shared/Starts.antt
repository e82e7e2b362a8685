-- The store and the frames at the start.
use Rattle.std.proofs.Common.{◌≡◌, ℕ, zero, suc, ◌+◌, ◌<◌, refl, sym, ap, ◌∙◌, List, [], ◌∷◌, length, Some, slice_get}
use Rattle.std.proofs.Common.{arith}
use Rattle.std.specs.Prelude.{slice_index_or, replicate}
use Rattle.sect_types.specs.declared.declarations.types.ValueType.{ValueType}
use Rattle.sect_types.specs.{Statements.{TextView, Stop, Do, Choose, Loop, Section}, Store.{ObjectView, row_in}}
use Rattle.sect_types.specs.Meaning.{WorkView, fresh}
use Rattle.sect_types.specs.Whole.{FrameView, settled, global_objects, first_work, first_frames}
use Rattle.sect_lemmas.proofs.Options.{some_injective, none_or_some}

-- each global has its object
pub global_there : (records : List (List ValueType)) (n : ℕ) (globals : List ℕ) (g : ℕ) → g < length globals
    → (x : ObjectView) × (slice_get (global_objects records n globals) g ≡ Some x) × (x.site ≡ n + g)
global_there records n [] g lt = absurd (omega (arith, lt))
global_there records n (r ∷ globals) zero lt = (fresh n (slice_index_or records r []), refl, omega arith)
global_there records n (r ∷ globals) (suc g) lt = let h = global_there records (n + 1) globals g (omega (arith, lt)) in
    (h.0, h.1, let e = h.2 in omega (arith, e))

-- and it is a fresh one of its record
pub global_is : (records : List (List ValueType)) (n : ℕ) (globals : List ℕ) (g : ℕ) (x : ObjectView)
    → slice_get (global_objects records n globals) g ≡ Some x
    → (r : ℕ) × (slice_get globals g ≡ Some r) × (x ≡ fresh (n + g) (slice_index_or records r []))
global_is records n [] g x e = absurd (none_or_some x e)
global_is records n (r ∷ globals) zero x e = (
  r,
  refl,
  sym (some_injective (fresh n (slice_index_or records r [])) x e)
      ∙ ap (λ m. fresh m (slice_index_or records r [])) (let f : n ≡ n + zero = omega arith in f),
)
global_is records n (r ∷ globals) (suc g) x e =
    let h = global_is records (n + 1) globals g x e in (
      h.0,
      h.1,
      h.2 ∙ ap (λ m. fresh m (slice_index_or records h.0 []))
          (let f : (n + 1) + g ≡ n + suc g = omega arith in f),
    )

-- no thread has made one
pub no_row : (n t : ℕ) → row_in (slice_get (replicate n []) t) ≡ []
no_row zero t = refl
no_row (suc n) zero = refl
no_row (suc n) (suc t) = no_row n t

-- each frame at the start is that of a text
pub first_frame : (fuel : ℕ) (texts : List TextView) (locals : List (List ValueType)) (t : ℕ) (f : FrameView)
    → slice_get (first_frames fuel texts locals) t ≡ Some f
    → (text : TextView) × (types : List ValueType) × (slice_get texts t ≡ Some text)
    × (f ≡ settled text (first_work fuel types))
first_frame fuel [] locals t f e = absurd (none_or_some f e)
first_frame fuel (text ∷ texts) [] zero f e =
    (text, [], refl, sym (some_injective (settled text (first_work fuel [])) f e))
first_frame fuel (text ∷ texts) (types ∷ locals) zero f e =
    (text, types, refl, sym (some_injective (settled text (first_work fuel types)) f e))
first_frame fuel (text ∷ texts) [] (suc t) f e = first_frame fuel texts [] t f e
first_frame fuel (text ∷ texts) (types ∷ locals) (suc t) f e = first_frame fuel texts locals t f e

-- there is one for each text
pub first_frames-length : (fuel : ℕ) (texts : List TextView) (locals : List (List ValueType))
    → length (first_frames fuel texts locals) ≡ length texts
first_frames-length fuel [] locals = refl
first_frames-length fuel (text ∷ texts) [] = ap suc (first_frames-length fuel texts [])
first_frames-length fuel (text ∷ texts) (types ∷ locals) = ap suc (first_frames-length fuel texts locals)

-- settling keeps the text
pub settled_text : (k : TextView) (w : WorkView) → (settled k w).text ≡ k
settled_text Stop w = refl
settled_text (Do a r) w = refl
settled_text (Choose d p q r) w = refl
settled_text (Loop d p r) w = refl
settled_text (Section i p r) w = refl

-- and the work
pub settled_work : (k : TextView) (w : WorkView) → (settled k w).work ≡ w
settled_work Stop w = refl
settled_work (Do a r) w = refl
settled_work (Choose d p q r) w = refl
settled_work (Loop d p r) w = refl
settled_work (Section i p r) w = refl
