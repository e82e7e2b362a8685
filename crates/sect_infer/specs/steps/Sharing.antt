-- Locks of sections that workers have found. The private functions under `infer_all` cite it.
use Rattle.std.specs.Prelude.{◌≡◌, ◌<◌, ◌%◌, ◌==◌, ℕ, List, Option, Some, length, map, filter, slice_get, Result}
use Rattle.std.specs.{List.{range_with_len}, Global.{Global}, declared.vec.Vec.{Vec}}
use Rattle.std.specs.{declared.alloc.AllocError.{AllocError}, declared.thread.PromisedHandle.{PromisedHandle}}
use Rattle.sect_types.specs.Sections.{sections_of}
use Rattle.sect_names.specs.Schemes.{SchemeView}
use Rattle.sect_infer.specs.{Sets.{LocksView, AreInferredAt}, declared.workers.SectionLocks.{SectionLocks}}
use Rattle.sect_infer.specs.declared.workers.ShareOf.{ShareOf}

-- each is of a section of the program
pub record AreFound (s : SchemeView) (found : List SectionLocks) : Type 0 where
  pub each : (k : ℕ) (x : SectionLocks) → slice_get found k ≡ Some x
      → (x.section < length (sections_of s.program.texts)) × AreInferredAt s x.section x.locks

-- the sections below `count` that fall to a worker: those whose number, divided by how many workers there are, leaves
-- the worker's over
abbrev pub dealt : ℕ → ℕ → ℕ → List ℕ
dealt workers worker count = filter (λ i. i % workers == worker) (range_with_len 0 count)

abbrev pub sections_in : List SectionLocks → List ℕ
sections_in found = map (λ (x : SectionLocks). x.section) found

-- what a worker hands on: the locks of exactly the sections that fall to it, in order
pub record IsShare (s : SchemeView) (workers worker : ℕ) (found : List SectionLocks) : Type 0 where
  pub sections : sections_in found ≡ dealt workers worker (length (sections_of s.program.texts))
  pub each : AreFound s found

-- a place for each section; what stands there are its locks
pub record AreInPlace (s : SchemeView) (places : List (Option LocksView)) : Type 0 where
  pub count : length places ≡ length (sections_of s.program.texts)
  pub each : (i : ℕ) (locks : LocksView) → slice_get places i ≡ Some (Some locks) → AreInferredAt s i locks

abbrev pub Handle : Type 0
Handle = PromisedHandle (Result (Vec SectionLocks Global) AllocError) ShareOf

-- the threads work for this scheme
pub record AreOf (s : SchemeView) (handles : List Handle) : Type 0 where
  pub each : (k : ℕ) (h : Handle) → slice_get handles k ≡ Some h → h.promise.scheme.now ≡ s
