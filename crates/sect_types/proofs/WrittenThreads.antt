-- The expanded texts of all threads, with their fresh locals.
use Rattle.std.proofs.Common.{◌≡◌, ℕ, ◌+◌, ◌<◌, ◌≤◌, List, [], ◌∷◌, ◌++◌, map, drop, get_or, refl, sym, ◌∙◌, ap, arith}
use Rattle.std.proofs.{Common.{Some, subst, length, append_assoc}, lemmas.List.{drop_all, append-nil}}
use Rattle.std.specs.Prelude.{IsSome}
use Rattle.sect_front.specs.{declared.tree.Thread.{Thread}, TreeView.{TreeView}}
use Rattle.sect_types.specs.{declared.expansion.expand.Fresh.{Fresh}, Sight.{Sight}, Rules.{sight, declared_in}}
use Rattle.sect_types.specs.{Sums.{sums, block_sums}, Statements.{TextView}, First.{IsTyped}}
use Rattle.sect_types.specs.Expanded.{past_thread, fresh_in, NextNumbers, expanded_thread, expanded_threads, texts_of}
use Rattle.sect_types.specs.{Items.{variables}, declared.rules.place.Place.TheVariants.{InProcedure}}
use Rattle.sect_types.specs.Limits.{most_calls, most_locals, most_sections, most_sites, most_statements}
use Rattle.sect_types.specs.steps.Written.{written_threads}
use Rattle.sect_types.specs.steps.Expanding.{SettingView, FrontView, Fits, block_there, thread_start, thread_end}
use Rattle.sect_types.specs.steps.Expanding.{numbered_thread, thread_text, AllFit, tree_of, AreWritten, AreFlat}
use Rattle.sect_types.specs.steps.Expansion.{view_of}
use Rattle.sect_types.proofs.{SiteLaws.{typed_clean}, Walked.{before_threads}, SectionLaws.{sections_in, block_flat}}
use Rattle.sect_types.proofs.EndCounts.{thread_sums, before_add, threads_add}
use Rattle.sect_types.proofs.WithinLimits.{HaveFewLocals, typed_few, block_takes, calls_take}
use Rattle.sect_types.proofs.Threading.{SamePlace, same_texts, same_numbered}
use Rattle.sect_types.proofs.{Optional.{first_there, second_there, the}, ByNumbers.{texts_written}}
use Rattle.sect_lemmas.proofs.Elements.{drop_next}

-- the text of a thread
pub thread_written : (w : SettingView) (sites sections most : ℕ) (h : Thread) (s : Sight) (f : FrontView)
    (text : TextView)
    → most ≡ length w.procedures → s ≡ sight w.records w.globals h.locals → f ≡ thread_start sites sections h
    → text ≡ block_there w most (view_of s 0) f h.body → text ≡ thread_text w sites sections h
thread_written w sites sections most h s f text e g i j =
    j ∙ (λ k. block_there w (e k) (view_of (g k) 0) (i k) h.body)

abbrev place : ℕ → ℕ → NextNumbers
place sites sections = record { sites = sites; sections = sections; fresh = 0 }

pub starts : (w : SettingView) (threads : List Thread) (sites : ℕ) → sites ≡ length w.globals
    → AllFit w (length w.globals) 0 threads → IsSome (texts_of (tree_of w threads))
    → AreWritten w threads threads sites 0 [] []
starts w threads sites e fits known = record {
  written = ap (λ n. written_threads (tree_of w threads) (record { sites = n; sections = 0; fresh = 0 }) threads) e;
  listed = refl;
  fits = subst (λ n. AllFit w n 0 threads) (sym e) fits;
  known = subst (λ n. IsSome (expanded_threads (tree_of w threads) (place n 0) threads)) (sym e) known;
}

goes_on : (w : SettingView) (all : List Thread) (h : Thread) (rest : List Thread) (sites sections more later : ℕ)
    (texts : List TextView) (fresh : List (List Fresh)) (text : TextView) (own : List Fresh)
    → AreWritten w all (h ∷ rest) sites sections texts fresh → text ≡ thread_text w sites sections h
    → own ≡ (thread_end w sites sections h).fresh → more ≡ (thread_end w sites sections h).at.sites
    → later ≡ (thread_end w sites sections h).at.sections
    → AreWritten w all rest more later (texts ++ text ∷ []) (fresh ++ own ∷ [])
goes_on w all h rest sites sections more later texts fresh text own a e g i j =
    let t = tree_of w all in
    let at : NextNumbers = record { sites = sites; sections = sections; fresh = 0 } in
    let next : NextNumbers = record { sites = more; sections = later; fresh = 0 } in
    let behind : SamePlace (past_thread t at h) next = record { same_sites = sym i; same_sections = sym j } in
    let same = sym (same_texts t (past_thread t at h) next rest behind) in
    record {
      written = append_assoc texts (text ∷ []) (written_threads t next rest) ∙ (λ k. texts ++ (e k ∷ same k))
          ∙ a.written;
      listed = append_assoc fresh (own ∷ []) (map (fresh_in t) rest) ∙ (λ k. fresh ++ (g k ∷ map (fresh_in t) rest))
          ∙ a.listed;
      fits = subst (λ n. AllFit w n later rest) (sym i)
          (subst (λ n. AllFit w (thread_end w sites sections h).at.sites n rest) (sym j) a.fits.2);
      known = subst IsSome (same_numbered t (past_thread t at h) next rest behind)
          (second_there _ (expanded_thread t at h) (expanded_threads t (past_thread t at h) rest) a.known);
    }

next_thread : (w : SettingView) (all : List Thread) (i : ℕ) (h : Thread) (sites sections : ℕ) (texts : List TextView)
    (fresh : List (List Fresh)) → i < length all → h ≡ get_or all i h
    → AreWritten w all (drop i all) sites sections texts fresh
    → AreWritten w all (h ∷ drop (i + 1) all) sites sections texts fresh
next_thread w all i h sites sections texts fresh lt is a =
    subst (λ l. AreWritten w all l sites sections texts fresh) (drop_next all i h lt is) a

pub thread_few : (w : SettingView) (all : List Thread) (i : ℕ) (h : Thread) (sites sections : ℕ) (texts : List TextView)
    (fresh : List (List Fresh)) → i < length all → h ≡ get_or all i h
    → AreWritten w all (drop i all) sites sections texts fresh → length h.locals ≤ most_locals
thread_few w all i h sites sections texts fresh lt is a =
    (next_thread w all i h sites sections texts fresh lt is a).fits.0

pub thread_fits : (w : SettingView) (all : List Thread) (i : ℕ) (h : Thread) (sites sections : ℕ)
    (texts : List TextView)
    (fresh : List (List Fresh)) → i < length all → h ≡ get_or all i h
    → AreWritten w all (drop i all) sites sections texts fresh → Fits (thread_end w sites sections h)
thread_fits w all i h sites sections texts fresh lt is a =
    (next_thread w all i h sites sections texts fresh lt is a).fits.1

pub thread_known : (w : SettingView) (all : List Thread) (i : ℕ) (h : Thread) (sites sections : ℕ)
    (texts : List TextView) (fresh : List (List Fresh)) → i < length all → h ≡ get_or all i h
    → AreWritten w all (drop i all) sites sections texts fresh → IsSome (numbered_thread w sites sections h)
thread_known w all i h sites sections texts fresh lt is a =
    first_there _ (expanded_thread (tree_of w all) (place sites sections) h) _
    (next_thread w all i h sites sections texts fresh lt is a).known

pub one_thread : (w : SettingView) (all : List Thread) (i : ℕ) (h : Thread) (sites sections more later : ℕ)
    (texts : List TextView) (fresh : List (List Fresh)) (text : TextView) (own : List Fresh) → i < length all
    → h ≡ get_or all i h → AreWritten w all (drop i all) sites sections texts fresh
    → text ≡ thread_text w sites sections h → own ≡ (thread_end w sites sections h).fresh
    → more ≡ (thread_end w sites sections h).at.sites → later ≡ (thread_end w sites sections h).at.sections
    → AreWritten w all (drop (i + 1) all) more later (texts ++ text ∷ []) (fresh ++ own ∷ [])
one_thread w all i h sites sections more later texts fresh text own lt is a =
    goes_on w all h (drop (i + 1) all) sites sections more later texts fresh text own
    (next_thread w all i h sites sections texts fresh lt is a)

ended : (w : SettingView) (all : List Thread) (i sites sections : ℕ) (texts : List TextView) (fresh : List (List Fresh))
    → length all ≤ i → AreWritten w all (drop i all) sites sections texts fresh
    → AreWritten w all [] sites sections texts fresh
ended w all i sites sections texts fresh le a =
    subst (λ l. AreWritten w all l sites sections texts fresh) (drop_all i all le) a

-- at the end these are the texts by numbers
pub all_written : (w : SettingView) (all : List Thread) (i sites sections : ℕ) (texts : List TextView)
    (fresh : List (List Fresh)) → length all ≤ i → AreWritten w all (drop i all) sites sections texts fresh
    → IsSome (texts_of (tree_of w all)) → texts_of (tree_of w all) ≡ Some texts
all_written w all i sites sections texts fresh le a known =
    let x = the (texts_of (tree_of w all)) known in
    x.1 ∙ ap Some (sym (texts_written (tree_of w all) x.0 x.1)
    ∙ sym (ended w all i sites sections texts fresh le a).written ∙ append-nil texts)

fit_all : (t : TreeView) (w : SettingView) (sites section : ℕ) (hs : List Thread) → w.procedures ≡ t.procedures
    → sites + (thread_sums (declared_in t) hs).sites ≤ most_sites → section + sections_in hs ≤ most_sections
    → HaveFewLocals hs
    → (thread_sums (declared_in t) hs).statements ≤ most_statements
    → (thread_sums (declared_in t) hs).calls ≤ most_calls
    → AllFit w sites section hs
fit_all t w sites section [] e s n l c d = tt
fit_all t w sites section (h ∷ hs) e s n l c d =
    let fresh = block_takes t.procedures (sums t.procedures) (calls_take (length t.procedures) t.procedures) h.body in
    let same = ap (λ ps. block_sums ps (sums ps) h.body) e in
    let of_sites = ap (λ x. x.sites) same in
    let of_fresh = ap (λ x. x.fresh) same in
    let of_calls = ap (λ x. x.calls) same in (
      l.0,
      record {
        few_sites = omega (arith, s, of_sites);
        few_sections = omega (arith, n);
        few_locals = omega (arith, l.0, c, fresh, of_fresh);
        few_calls = omega (arith, d, of_calls);
      },
      fit_all t w (thread_end w sites section h).at.sites (thread_end w sites section h).at.sections hs e
          (omega (arith, s, of_sites)) (omega (arith, n)) l.1 (omega (arith, c)) (omega (arith, d)),
    )

-- the threads of a typed tree fit
pub typed_fits : (t : TreeView) (w : SettingView) → w.procedures ≡ t.procedures → w.globals ≡ t.globals → IsTyped t
    → AllFit w (length w.globals) 0 t.threads
typed_fits t w e g h =
    let few = typed_few t h in
    let x = before_add t in
    let y = threads_add (declared_in t) (before_threads t) [] t.threads in
    fit_all t w (length w.globals) 0 t.threads e (omega (arith, few.0.few_sites, x.sites_add, y.sites_add, ap length g))
    (omega (arith, few.0.few_sections, x.sections_add, y.sections_add)) few.1
    (omega (arith, few.0.few_statements, x.statements_add, y.statements_add))
    (omega (arith, few.0.few_calls, x.calls_add, y.calls_add))

-- no body of a procedure of a typed tree has a section
pub typed_flat : (t : TreeView) → IsTyped t → AreFlat t.procedures
typed_flat t h q p e =
    block_flat (declared_in t) (variables p) (InProcedure q) p.body refl (typed_clean t h q p e)
