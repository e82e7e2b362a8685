-- In a typed text calls are expanded to their end.
use Rattle.std.proofs.Common.{Some, sym, ap, ◌∙◌}
use Rattle.sect_front.specs.TreeView.{TreeView}
use Rattle.sect_types.specs.{Sums.{sums}, First.{IsTyped}, Unfolding.{SumsUnfold, TextsUnfold, SumsCount, FreshUnfold}}
use Rattle.sect_types.specs.Statements.{statement_count, text_depth}
use Rattle.sect_types.proofs.{CountLaws.{looked, thread_counts}, DepthLaws.{thread_deep}, ByNumbers.{thread_written}}
use Rattle.sect_types.proofs.{EnoughLaws.{enough}, TextLaws.{enough_text}, FreshLaws.{enough_fresh}}
use Rattle.sect_types.proofs.CycleLaws.{typed_acyclic}

pub sums_unfold : (t : TreeView) → IsTyped t → SumsUnfold t
sums_unfold t h q =
    sym (enough t.procedures q (typed_acyclic t h)) ∙ looked t.procedures (sums t.procedures) (Some q)

pub texts_unfold : (t : TreeView) → IsTyped t → TextsUnfold t
texts_unfold t h q v a vs = sym (enough_text t.records t.globals t.procedures q (typed_acyclic t h) v a vs)

pub fresh_unfold : (t : TreeView) → IsTyped t → FreshUnfold t
fresh_unfold t h q c = sym (enough_fresh t.procedures q (typed_acyclic t h) c)

-- the text of a thread is what is written, of which the sums are
pub sums_count : (t : TreeView) → SumsCount t
sums_count t a h text e =
    let same = sym (thread_written t a h text e) in
    (ap statement_count same ∙ thread_counts t a h, ap text_depth same ∙ thread_deep t a h)
