-- Sections that are marked `all`, and the lock sets that they would have without the mark.
use Rattle.std.proofs.Common.{◌≡◌, ◌<◌, ◌↔◌, ℕ, List, [], ◌∷◌, Some, length, inl, inr, refl, sym, ◌∙◌, subst, arith}
use Rattle.std.proofs.lemmas.Option.{slice_get-get_or, slice_get_within}
use Rattle.std.specs.Prelude.{slice_get, slice_index_or}
use Rattle.sect_front.specs.declared.tree.Locking.{Locking}
use Rattle.sect_lemmas.specs.Lists.{Has}
use Rattle.sect_lemmas.proofs.Places.{one_at}
use Rattle.sect_types.specs.{Statements.{TextView, Stop}, Sections.{SectionView, sections_of}}
use Rattle.sect_names.specs.{declared.lock.Lock.{Lock}, Schemes.{SchemeView, IsScheme}, Locks.{Covers, CoveredBy}}
use Rattle.sect_names.specs.{Needed.{IsLeast, end_locks, end_of}, Order.{LockBefore, AreInOrder}, Printing.{AreNamed}}
use Rattle.sect_names.proofs.shared.{Covering.{covers_trans}, Ending.{end_is}, Named.{named_lock}}
use Rattle.sect_names.proofs.shared.Uniqueness.{lock_once}
use Rattle.sect_infer.specs.Sets.{LocksView, AreLocksOf, AreOfProgram, AreUnmarkedAt}
use Rattle.sect_emit.specs.{Compiled.{CompiledView}, Explaining.{section_at}}
use Rattle.sect_warnings.specs.Warnings.{WouldDo}
use Rattle.sect_front.specs.declared.tree.Locking.TheVariants as locking
use Rattle.sect_names.specs.declared.lock.Lock.TheVariants as lock

-- a list in canonical order that has one lock alone
single : (locks : List Lock) → AreInOrder locks → (x : Lock) → Has locks x → ((l : Lock) → Has locks l → x ≡ l)
    → length locks ≡ 1
single [] order x has each = absurd has
single (y ∷ []) order x has each = refl
single (y ∷ z ∷ rest) order x has each =
    let same = sym (each z (inr (inl refl))) ∙ each y (inl refl) in
    let before = subst (LockBefore y) same (order.0 z (inl refl)) in
    absurd (lock_once y y before before)

-- a list with one lock has that alone
pub only : (locks : List Lock) → length locks ≡ 1 → (l : Lock) × (locks ≡ l ∷ [])
only [] one = absurd (omega (arith, one))
only (x ∷ []) one = (x, refl)
only (x ∷ y ∷ rest) one = absurd (omega (arith, one))

covered_by_one : (s : SchemeView) (x l : Lock) → CoveredBy s (x ∷ []) l → Covers s x l
covered_by_one s x l (big, inl e, covers) = subst (λ y. Covers s y l) (sym e) covers
covered_by_one s x l (big, inr none, covers) = absurd none

-- where one lock alone is the least set, each least set in canonical order has one lock
one_lock : (s : SchemeView) (t : ℕ) (last : List Lock) (body : TextView) (l : Lock) (locks : List Lock)
    → IsLeast s t last body locks → AreInOrder locks → IsLeast s t last body (l ∷ []) → length locks ≡ 1
one_lock s t last body l locks many order one =
    let top = one.least locks many.protects l (inl refl) in
    single locks order top.0 top.1 (λ m has.
    many.apart m top.0 has top.1 (covers_trans s top.0 l m top.2
    (covered_by_one s l m (many.least (l ∷ []) one.protects m has))))

-- the end of a section generates what its mark says
pub end_by : (c : CompiledView) (i : ℕ) (how : Locking) → slice_get c.scheme.program.lockings i ≡ Some how
    → end_of c.scheme i ≡ end_locks how
end_by c i how at = end_is c.scheme i c.scheme.program how refl at

-- where one lock would do, the section is there, and it is marked
pub due_there : (c : CompiledView) (i : ℕ) → ((l : Lock) × WouldDo c i l)
    → i < length (sections_of c.scheme.program.texts)
due_there c i (l, (of, at, mark, least)) = slice_get_within (sections_of c.scheme.program.texts) i of at

pub due_marked : (c : CompiledView) (i : ℕ) → ((l : Lock) × WouldDo c i l) → end_of c.scheme i ≡ lock.All ∷ []
due_marked c i (l, (of, at, mark, least)) = mark

-- so none would for a section that isn't marked
pub unmarked_not : (c : CompiledView) (i : ℕ) → slice_get c.scheme.program.lockings i ≡ Some locking.Inferred
    → ((l : Lock) × WouldDo c i l) → ⊥
unmarked_not c i at due =
    let e : [] ≡ lock.All ∷ [] = sym (end_by c i locking.Inferred at) ∙ due_marked c i due in absurd cc

module _ (c : CompiledView) (scheme : IsScheme c.scheme) (i : ℕ)
    (within : i < length (sections_of c.scheme.program.texts)) (locks : LocksView)
    (are : AreUnmarkedAt c.scheme i locks)
  where
    section_is : slice_get (sections_of c.scheme.program.texts) i ≡ Some (section_at c i)
    section_is = slice_get-get_or (sections_of c.scheme.program.texts) i (record { thread = 0; body = Stop }) within

    of_section : AreLocksOf c.scheme [] (section_at c i) (slice_index_or c.scheme.graphs.sections i []) locks
        × AreOfProgram c.scheme (section_at c i).thread locks
    of_section =
        let many = scheme.graphed.section_count in
        are (section_at c i) (slice_index_or c.scheme.graphs.sections i []) section_is
        (slice_get-get_or c.scheme.graphs.sections i [] (omega (arith, within, many)))

    -- where one lock would do, there is one
    pub one_due : ((l : Lock) × WouldDo c i l) → length locks.entry ≡ 1
    one_due (l, (of, at, mark, least)) =
        one_lock c.scheme (section_at c i).thread [] (section_at c i).body l locks.entry of_section.0.least
        of_section.0.in_order
        (subst (λ (o : SectionView). IsLeast c.scheme o.thread [] o.body (l ∷ []))
        (one_at (sections_of c.scheme.program.texts) i of (section_at c i) at section_is) least)

    module _ (mark : end_of c.scheme i ≡ lock.All ∷ []) where
      pub due_one : (l : Lock) → locks.entry ≡ l ∷ [] → WouldDo c i l
      due_one l is = (
        section_at c i,
        section_is,
        mark,
        subst (IsLeast c.scheme (section_at c i).thread [] (section_at c i).body) is of_section.0.least,
      )

      -- of a section that is marked, there is one exactly if one would do
      pub one_exactly : (length locks.entry ≡ 1) ↔ ((l : Lock) × WouldDo c i l)
      one_exactly = (
        λ one. (let x = only locks.entry one in (x.0, due_one x.0 x.1)),
        one_due,
      )

    -- the locks' names are there
    pub unmarked_named : AreNamed c.scheme.program locks.entry
    unmarked_named l has =
        named_lock c.scheme (section_at c i).thread l (of_section.1 0 locks.entry of_section.0.first l has)
