-- The tests of states and ends tell equality.
use Rattle.std.proofs.Common.{rules, ◌≡◌, ◌&&◌, Bool, true, false, List, [], ◌∷◌, map, refl, ap, Option, Some}
use Rattle.std.proofs.Common.{None}
use Rattle.std.specs.{Bool.{Decides}, Cmp.{unsigned_Decides, signed_Decides}}
use Rattle.std.specs.{Cmp.Lexicographic.{pointwise, pointwise_decides}, Option.{option_eq}}
use Rattle.sect_types.specs.{Store.{ObjectView, StoreView}, Meaning.{WorkView}}
use Rattle.sect_types.specs.{Whole.{FrameView, RunView, SerialEndView}, declared.meaning.store.ObjectName.{ObjectName}}
use Rattle.sect_types.specs.declared.meaning.store.Datum.{Datum}
use Rattle.sect_types.specs.declared.meaning.store.Datum.TheVariants.{Number, Null, Refers}
use Rattle.sect_types.specs.{declared.meaning.store.Fault.{Fault}, declared.meaning.store.End.{End}}
use Rattle.sect_types.specs.declared.meaning.store.End.TheVariants.{Done, Failed}
use Rattle.sect_types.proofs.shared.SameData.{name_tells}
use Rattle.sect_types.specs.contracts.meaning.store.DatumPartialEq.TheImpl.{ghosts as the_datum_eq}
use Rattle.sect_types.specs.contracts.meaning.store.FaultPartialEq.TheImpl.{ghosts as the_fault_eq}
use Rattle.sect_types.specs.contracts.meaning.store.EndPartialEq.TheImpl.{ghosts as the_end_eq}
use Rattle.sect_store.specs.Comparing.{object_eq, objects_eq, store_eq, far_eq}
use Rattle.sect_serial.specs.Trimming.{in_use, trimmed_frame, trimmed}
use Rattle.sect_serial.specs.Comparing.{text_eq, text_tells, frame_eq, run_eq, end_eq}
use Rattle.sect_types.specs.declared.meaning.store.Fault.TheVariants as fault

both : {P Q R : Type 0} (x y : Bool) → Decides x P → Decides y Q → (P → Q → R) → (R → P) → (R → Q)
    → Decides (x && y) R
both true true d e make one two = (λ h. make (d.0 refl) (e.0 refl), λ r. refl)
both true false d e make one two = (λ h. make (d.0 refl) (e.0 h), λ r. e.1 (two r))
both false y d e make one two = (λ h. make (d.0 h) (absurd (cc)), λ r. d.1 (one r))

-- the name in a reference
abbrev name_of : ObjectName → Datum → ObjectName
name_of n (Number i) = n
name_of n Null = n
name_of n (Refers m) = m

datum_tells : (d e : Datum) → Decides (the_datum_eq.eq d e) (d ≡ e)
datum_tells (Number n) (Number m) = search rules
datum_tells (Number n) Null = search rules
datum_tells (Number n) (Refers m) = search rules
datum_tells Null (Number m) = search rules
datum_tells Null Null = search rules
datum_tells Null (Refers m) = search rules
datum_tells (Refers n) (Number m) = search rules
datum_tells (Refers n) Null = search rules
datum_tells (Refers n) (Refers m) = (
  λ h. ap Refers ((name_tells n m).0 h),
  λ e. (name_tells n m).1 (ap (name_of n) e),
)

fault_tells : (a b : Fault) → Decides (the_fault_eq.eq a b) (a ≡ b)
fault_tells fault.Overflow fault.Overflow = search rules
fault_tells fault.Overflow fault.Null = search rules
fault_tells fault.Overflow fault.Fuel = search rules
fault_tells fault.Null fault.Overflow = search rules
fault_tells fault.Null fault.Null = search rules
fault_tells fault.Null fault.Fuel = search rules
fault_tells fault.Fuel fault.Overflow = search rules
fault_tells fault.Fuel fault.Null = search rules
fault_tells fault.Fuel fault.Fuel = search rules

abbrev why_of : Fault → End → Fault
why_of a Done = a
why_of a (Failed b) = b

pub end_tells : (a b : End) → Decides (the_end_eq.eq a b) (a ≡ b)
end_tells Done Done = search rules
end_tells Done (Failed b) = search rules
end_tells (Failed a) Done = search rules
end_tells (Failed a) (Failed b) = (
  λ h. ap Failed ((fault_tells a b).0 h),
  λ e. (fault_tells a b).1 (ap (why_of a) e),
)

object_tells : (a b : ObjectView) → Decides (object_eq a b) (a ≡ b)
object_tells a b = both _ _ (unsigned_Decides a.site b.site) (pointwise_decides datum_tells a.fields b.fields)
    (λ x y i. record { site = x i; fields = y i }) (ap (λ (o : ObjectView). o.site))
    (ap (λ (o : ObjectView). o.fields))

objects_tell : (a b : List ObjectView) → Decides (objects_eq a b) (a ≡ b)
objects_tell = pointwise_decides object_tells

store_tells : (a b : StoreView) → Decides (store_eq a b) (a ≡ b)
store_tells a b = both _ _ (objects_tell a.globals b.globals) (pointwise_decides objects_tell a.made b.made)
    (λ x y i. record { globals = x i; made = y i }) (ap (λ (s : StoreView). s.globals))
    (ap (λ (s : StoreView). s.made))

far_tells : (a b : WorkView) → Decides (far_eq a b)
    ((a.fuel ≡ b.fuel) × ((a.made ≡ b.made) × (a.printed ≡ b.printed)))
far_tells a b =
    both _ _ (unsigned_Decides a.fuel b.fuel)
    (both _ _ (unsigned_Decides a.made b.made) (pointwise_decides signed_Decides a.printed b.printed)
    (λ x y. (x, y)) (λ (h : (a.made ≡ b.made) × (a.printed ≡ b.printed)). h.0) (λ h. h.1))
    (λ x y. (x, y)) (λ (h : (a.fuel ≡ b.fuel) × ((a.made ≡ b.made) × (a.printed ≡ b.printed))). h.0) (λ h. h.1)

option_tells : (a b : Option End) → Decides (option_eq the_end_eq.eq a b) (a ≡ b)
option_tells None None = (λ h. refl, λ e. refl)
option_tells None (Some y) = (λ h. absurd (cc), λ e. absurd (cc))
option_tells (Some x) None = (λ h. absurd (cc), λ e. absurd (cc))
option_tells (Some x) (Some y) = (λ h. ap Some ((end_tells x y).0 h), λ e. (end_tells x y).1 (cc))

-- how far a thread is, how it has ended and what is left of it
abbrev Further : FrameView → FrameView → Type 0
Further a b =
    ((a.work.fuel ≡ b.work.fuel) × ((a.work.made ≡ b.work.made) × (a.work.printed ≡ b.work.printed)))
    × ((a.ended ≡ b.ended) × (a.text ≡ b.text))

further_tells : (a b : FrameView)
    → Decides (far_eq a.work b.work && (option_eq the_end_eq.eq a.ended b.ended && text_eq a.text b.text)) (Further a b)
further_tells a b =
    both _ _ (far_tells a.work b.work)
    (both _ _ (option_tells a.ended b.ended) (text_tells a.text b.text)
    (λ x y. (x, y)) (λ (h : (a.ended ≡ b.ended) × (a.text ≡ b.text)). h.0) (λ h. h.1))
    (λ x y. (x, y)) (λ (h : Further a b). h.0) (λ h. h.1)

frame_tells : (a b : FrameView) → Decides (frame_eq a b) (trimmed_frame a ≡ trimmed_frame b)
frame_tells a b =
    both _ _ (pointwise_decides datum_tells (in_use a.ended a.work.locals) (in_use b.ended b.work.locals))
    (further_tells a b)
    (λ x y i. record {
      text = y.1.1 i;
      work = record { locals = x i; fuel = y.0.0 i; made = y.0.1.0 i; printed = y.0.1.1 i };
      ended = y.1.0 i;
    })
    (ap (λ (f : FrameView). f.work.locals))
    (λ e. (
      (
        ap (λ (f : FrameView). f.work.fuel) e,
        (ap (λ (f : FrameView). f.work.made) e, ap (λ (f : FrameView). f.work.printed) e),
      ),
      (ap (λ (f : FrameView). f.ended) e, ap (λ (f : FrameView). f.text) e),
    ))

-- frames told apart one by one
frames_tell : (a b : List FrameView) → Decides (pointwise frame_eq a b) (map trimmed_frame a ≡ map trimmed_frame b)
frames_tell [] [] = (λ h. refl, λ e. refl)
frames_tell [] (y ∷ ys) = (λ h. absurd (cc), λ e. absurd (cc))
frames_tell (x ∷ xs) [] = (λ h. absurd (cc), λ e. absurd (cc))
frames_tell (x ∷ xs) (y ∷ ys) =
    both _ _ (frame_tells x y) (frames_tell xs ys) (λ e f i. e i ∷ f i) (ap (first_or x)) (ap others) where
      first_or : FrameView → List FrameView → FrameView
      first_or z [] = z
      first_or z (w ∷ ws) = w

      others : List FrameView → List FrameView
      others [] = []
      others (w ∷ ws) = ws

pub run_tells : (a b : RunView) → Decides (run_eq a b) (trimmed a ≡ trimmed b)
run_tells a b =
    both _ _ (store_tells a.store b.store)
    (both _ _ (pointwise_decides signed_Decides a.output b.output) (frames_tell a.frames b.frames)
    (λ x y. (x, y)) (λ (h : (a.output ≡ b.output) × (map trimmed_frame a.frames ≡ map trimmed_frame b.frames)). h.0)
    (λ h. h.1))
    (λ x y i. record { store = x i; output = y.0 i; frames = y.1 i })
    (ap (λ (r : RunView). r.store))
    (λ e. (ap (λ (r : RunView). r.output) e, ap (λ (r : RunView). r.frames) e))

pub serial_end_tells : (a b : SerialEndView) → Decides (end_eq a b) (a ≡ b)
serial_end_tells a b =
    both _ _ (store_tells a.store b.store)
    (both _ _ (pointwise_decides signed_Decides a.output b.output) (pointwise_decides end_tells a.ends b.ends)
    (λ x y. (x, y)) (λ (h : (a.output ≡ b.output) × (a.ends ≡ b.ends)). h.0) (λ h. h.1))
    (λ x y i. record { store = x i; output = y.0 i; ends = y.1 i })
    (ap (λ (e : SerialEndView). e.store))
    (λ e. (ap (λ (x : SerialEndView). x.output) e, ap (λ (x : SerialEndView). x.ends) e))
