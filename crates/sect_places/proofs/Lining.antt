-- Items begin in their text, and nodes come from items that are there.
use Rattle.std.proofs.Common.{◌≡◌, ◌≤◌, ◌<◌, ℕ, zero, suc, List, [], ◌∷◌, length, map, get_or, Option, Some, None, sym}
use Rattle.std.proofs.{Common.{subst, arith}, lemmas.Option.{slice_get_within, slice_get-get_or}}
use Rattle.std.specs.Prelude.{slice_get, All}
use Rattle.sect_front.specs.{TreeView.{TreeView}, declared.span.Span.{Span}}
use Rattle.sect_types.specs.{Items.{items}, Statements.{TextView, Stop}, Sections.{SectionView, sections_of}}
use Rattle.sect_types.specs.{Programs.{ProgramView}, declared.expansion.action.Label.{Label}}
use Rattle.sect_places.specs.{Spans.{AreProper}, NodeOrigins.{IsCall, AreFrom, AreOriginsOf, OriginsView, AreOrigins}}
use Rattle.sect_places.specs.declared.origin.Origin.{Origin}
use Rattle.sect_places.specs.steps.Placed.{IsAmong, IsPlaced}

-- each of these begins in the text
pub begins_within : (total : ℕ) (spans : List Span) → AreProper total spans → (k d : ℕ)
    → k < length (map (λ (s : Span). s.start) spans) → get_or (map (λ (s : Span). s.start) spans) k d ≤ total
begins_within total [] h k d within = absurd (omega (arith, within))
begins_within total (s ∷ ss) h zero d within = let a = h.0.0 in let b = h.0.1 in omega (arith, a, b)
begins_within total (s ∷ ss) h (suc k) d within = begins_within total ss h.1 k d (omega (arith, within))

-- the call that a node is of is an item
call_within : (t : TreeView) (call : Option ℕ) → IsCall t call → IsAmong (length (items t)) call
call_within t None h = tt
call_within t (Some n) h = slice_get_within (items t) n _ h.4

calls_within : (t : TreeView) (labels : List Label) (os : List Origin) → AreFrom t labels os → (k : ℕ) (d : Origin)
    → k < length os → IsAmong (length (items t)) (get_or os k d).call
calls_within t [] [] h k d within = absurd (omega (arith, within))
calls_within t [] (o ∷ os) h k d within = absurd h
calls_within t (l ∷ ls) [] h k d within = absurd h
calls_within t (l ∷ ls) (o ∷ os) h zero d within = call_within t o.call h.0.called
calls_within t (l ∷ ls) (o ∷ os) h (suc k) d within = calls_within t ls os h.1 k d (omega (arith, within))

module _ (p : ProgramView) (count : ℕ) (same : count ≡ length (items p.source)) where
  -- the nodes of a text come from items that are there
  text_placed : (text : TextView) (list : List Origin) → AreOriginsOf p.source text list → All (IsPlaced count) list
  text_placed text list found i e inside = record {
    item = subst (λ n. (get_or list i e).item < n) (sym same) (found.within i e inside);
    call = subst (λ n. IsAmong n (get_or list i e).call) (sym same)
        (calls_within p.source _ list found.from i e inside);
  }

  -- so do those of each thread
  pub threads_placed : (o : OriginsView) → AreOrigins p o → (threads : List (List Origin)) → threads ≡ o.threads
      → All (All (IsPlaced count)) threads
  threads_placed o origins threads are k d within =
      let there : k < length o.threads = subst (λ (xs : List (List Origin)). k < length xs) are within in
      let of : slice_get o.threads k ≡ Some (get_or threads k d) =
      subst (λ (xs : List (List Origin)). slice_get xs k ≡ Some (get_or threads k d)) are
      (slice_get-get_or threads k d within) in
      let text = get_or p.texts k Stop in
      text_placed text (get_or threads k d) (origins.threads k text (get_or threads k d)
      (slice_get-get_or p.texts k Stop (omega (arith, there, origins.thread_count))) of)

  -- and those of each section
  pub sections_placed : (o : OriginsView) → AreOrigins p o → (sections : List (List Origin)) → sections ≡ o.sections
      → All (All (IsPlaced count)) sections
  sections_placed o origins sections are k d within =
      let there : k < length o.sections = subst (λ (xs : List (List Origin)). k < length xs) are within in
      let of : slice_get o.sections k ≡ Some (get_or sections k d) =
      subst (λ (xs : List (List Origin)). slice_get xs k ≡ Some (get_or sections k d)) are
      (slice_get-get_or sections k d within) in
      let section = get_or (sections_of p.texts) k no_section in
      text_placed section.body (get_or sections k d) (origins.sections k section (get_or sections k d)
      (slice_get-get_or (sections_of p.texts) k no_section (omega (arith, there, origins.section_count))) of)
    where
      no_section : SectionView
      no_section = record { thread = 0; body = Stop }
