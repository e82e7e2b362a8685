use Rattle.std.proofs.Common.{◌≡◌, ◌<◌, [], Some, None, length, sym, ap, ◌∙◌, subst}
use Rattle.std.proofs.lemmas.Option.{slice_get-get_or, get_or_from_slice_get}
use Rattle.std.specs.{Prelude.{slice_get, slice_index_or}, String.{string_bytes}}
use Rattle.sect_lemmas.proofs.Options.{some_injective}
use Rattle.sect_graph.specs.Layout.{flow_nodes}
use Rattle.sect_emit.specs.Explaining.{section_at}
use Rattle.sect_names.specs.declared.link.Link.{Link}
use Rattle.sect_places.specs.Origins.{origin}
use Rattle.sect_warnings.specs.Hinting.{touched_at}
use Rattle.sect_warnings.specs.steps.Reasons.{ReasonsView, IsLabelled}
use Rattle.sect_warnings.proofs.Judging.{origins_many, origins_within}
use Rattle.sect_warnings.proofs.class_mark.need_of.Goals as goal

pub bounds-section-last : goal.bounds-section-last
bounds-section-last c =
    let v = c.args.compiled.now in
    let i = c.args.reasons.now.section in
    let j = c.last_link.result.now.node in
    let same = ap (λ (r : ReasonsView). r.section) c.reasons.view_is in
    let list = ap (slice_get c.args.origins.now.sections) (sym same) ∙ c.section.ensures in
    let many = origins_many v c.facts.ensures.compiled.scheme i c.requires.reasons.within c.args.origins.now
    c.requires.origins c.section.result.now list in
    subst (λ m. j < m) (sym many)
    (subst (λ k. j < length (flow_nodes (section_at v k).body)) same c.last_link.ensures.node)

pub returns-clause-marks : goal.returns-clause-marks
returns-clause-marks c =
    let v = c.args.compiled.now in
    let i = c.args.reasons.now.section in
    let n = c.args.lock.class in
    let e = c.args.lock.effect in
    let links = c.reason_in-links.result.now in
    let label = string_bytes c.in_ok-label.label in
    let same = ap (λ (r : ReasonsView). r.section) c.reasons.view_is in
    let labelled : IsLabelled v i n e links label =
    subst (λ k. IsLabelled v k n e links label) same c.in_ok-label.ensures in
    let last : c.last_link.result.now ≡ labelled.last =
    some_injective c.last_link.result.now labelled.last (sym c.last_link.ensures.last ∙ labelled.ends) in
    let list = ap (slice_get c.args.origins.now.sections) (sym same) ∙ c.section.ensures in
    let origins = ap (λ l. slice_index_or l i []) (sym c.requires.origins.sections_are)
    ∙ get_or_from_slice_get c.args.origins.now.sections i c.section.result.now [] list in
    record {
      chain = links;
      reason = c.reason_in-links.ensures.reason;
      last = labelled.last;
      ends = labelled.ends;
      node = labelled.node;
      path = labelled.path;
      long = labelled.long;
      stands = ap (λ (x : Link). (slice_index_or c.section.result.now x.node (origin None 0)).item) last
          ∙ ap (λ l. (slice_index_or l labelled.last.node (origin None 0)).item) (sym origins);
      says = labelled.says;
      touches = c.touched_at-guarded.ensures ∙ (ap (λ k. touched_at v k c.last_link.result.now.node) same
          ∙ ap (λ (x : Link). touched_at v i x.node) last);
    }

pub returns-clause-within : goal.returns-clause-within
returns-clause-within c =
    let v = c.args.compiled.now in
    let i = c.args.reasons.now.section in
    let scheme = c.facts.ensures.compiled.scheme in
    let within = c.requires.reasons.within in
    let list = c.section.result.now in
    let j = c.last_link.result.now.node in
    let same = ap (λ (r : ReasonsView). r.section) c.reasons.view_is in
    let is = ap (slice_get c.args.origins.now.sections) (sym same) ∙ c.section.ensures in
    let many = origins_many v scheme i within c.args.origins.now c.requires.origins list is in
    let there : j < length list = subst (λ m. j < m) (sym many)
    (subst (λ k. j < length (flow_nodes (section_at v k).body)) same c.last_link.ensures.node) in
    let origins = ap (λ l. slice_index_or l i []) (sym c.requires.origins.sections_are)
    ∙ get_or_from_slice_get c.args.origins.now.sections i list [] is in
    origins_within v scheme i within c.args.origins.now c.requires.origins j (slice_index_or list j (origin None 0))
    (subst (λ l. slice_get l j ≡ Some (slice_index_or list j (origin None 0))) (sym origins)
    (slice_get-get_or list j (origin None 0) there))
