use Rattle.std.proofs.{Common.{◌≡◌, ◌∙◌, refl, arith, sym, subst, true≢false}, lemmas.Option.{IfSome_then}}
use Rattle.sect_points.specs.Sites.{HasSite}
use Rattle.sect_points.proofs.FilledLaws.{none_then}
use Rattle.sect_points.proofs.rows.Rows.next_common.Goals.{else-from-site-via-then-from-site+else-contains}
use Rattle.sect_points.proofs.rows.Rows.next_common.Goals.{else-from-site-via-else-from-site}
use Rattle.sect_points.proofs.PlaceLaws.{stands}
use Rattle.sect_points.proofs.rows.Rows.next_common.Goals as goal

pub contains-requires : goal.contains-requires
contains-requires c =
    let s = stands c.args.self.now c.self.inside.sets.items c.self.inside.places.items c.args.row _ c.place_of.result
    c.self.view_is c.self.invariant c.place_of.ensures in
    s.few c.in-Alone.site c.in-Alone.is

pub index-requires : goal.index-requires
index-requires c =
    let s = stands c.args.self.now c.self.inside.sets.items c.self.inside.places.items c.args.row _ c.place_of.result
    c.self.view_is c.self.invariant c.place_of.ensures in
    omega (arith, s.within c.in-Own.at c.in-Own.is)

pub returns-in-Nothing-clause-none : goal.returns-in-Nothing-clause-none
returns-in-Nothing-clause-none c r _ _ h =
    let s = stands c.args.self.now c.self.inside.sets.items c.self.inside.places.items c.args.row _ c.place_of.result
    c.self.view_is c.self.invariant c.place_of.ensures in
    s.none c.in-Nothing.is r h

pub returns-then-contains-clause-some : goal.returns-then-contains-clause-some
returns-then-contains-clause-some c =
    let s = stands c.args.self.now c.self.inside.sets.items c.self.inside.places.items c.args.row _ c.place_of.result
    c.self.view_is c.self.invariant c.place_of.ensures in
    let site = c.in-Alone.site in (
      c.if-from-site.true,
      s.few site c.in-Alone.is,
      (c.contains.ensures.0 c.if-contains.true, (s.alone site c.in-Alone.is site).1 refl),
      λ other le lt h. omega (arith, lt, (s.alone site c.in-Alone.is other).0 h.1),
    )

pub returns-else-from-site-clause-none : goal.returns-else-from-site-clause-none
returns-else-from-site-clause-none c r le among h =
    let s = stands c.args.self.now c.self.inside.sets.items c.self.inside.places.items c.args.row _ c.place_of.result
    c.self.view_is c.self.invariant c.place_of.ensures in
    let is : r ≡ c.in-Alone.site = (s.alone c.in-Alone.site c.in-Alone.is r).0 h in
    elim c.else-from-site.branch [
      | else-from-site-via-then-from-site+else-contains w ↦ true≢false
          (sym (w.contains.ensures.1 (subst (HasSite c.args.sites.now.words) is among)) ∙ w.if-contains.false)
      | else-from-site-via-else-from-site w ↦ omega (arith, w.if-from-site.false, le, is)
    ]

pub returns-in-Own-clause-some : goal.returns-in-Own-clause-some
returns-in-Own-clause-some c =
    let s = stands c.args.self.now c.self.inside.sets.items c.self.inside.places.items c.args.row _ c.place_of.result
    c.self.view_is c.self.invariant c.place_of.ensures in
    let own = s.own c.in-Own.at c.index.result.now c.in-Own.is c.index.ensures in
    IfSome_then c.next_common.result c.next_common.ensures.some (λ r k. (
      k.0,
      k.1,
      (k.2.0, (own r).0 k.2.1),
      λ other le lt h. k.3 other le lt (h.0, (own other).1 h.1),
    ))

pub returns-in-Own-clause-none : goal.returns-in-Own-clause-none
returns-in-Own-clause-none c =
    let s = stands c.args.self.now c.self.inside.sets.items c.self.inside.places.items c.args.row _ c.place_of.result
    c.self.view_is c.self.invariant c.place_of.ensures in
    none_then c.next_common.result _ _ c.next_common.ensures.none
    (λ none r le among h.
    none r le (among, (s.own c.in-Own.at c.index.result.now c.in-Own.is c.index.ensures r).1 h))
