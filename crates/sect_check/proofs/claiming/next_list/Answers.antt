use Rattle.std.proofs.{Common.{List, take, subst, refl, arith}, lemmas.List.{length-take-le}}
use Rattle.std.proofs.lemmas.Slice.Zip.{AllZip-long}
use Rattle.std.specs.List.{AllZip}
use Rattle.sect_cert.specs.declared.lock.CertLock.{CertLock}
use Rattle.sect_names.specs.declared.lock.Lock.{Lock}
use Rattle.sect_check.specs.Names.{Denotes}
use Rattle.sect_check.proofs.shared.Repeating.{zip_again, zip_one_more}
use Rattle.sect_check.proofs.Resolving.{extends_not}
use Rattle.sect_check.proofs.claiming.next_list.Goals as goal

pub returns-then-is_one : goal.returns-then-is_one
returns-then-is_one c =
    let R : List CertLock → List Lock → Type 0 = AllZip (Denotes c.args.naming.now.scheme c.args.naming.now.thread) in
    zip_again R c.args.nodes.now c.args.node c.args.lists.now c.push_again.new.self c.if-node-gt0.true c.requires.there
    (c.if-is_one.ensures refl) c.requires.before c.in_ok-push_again.ensures.ok

pub known_before-known-requires-clause-count : goal.known_before-known-requires-clause-count
known_before-known-requires-clause-count c =
    let R : List CertLock → List Lock → Type 0 = AllZip (Denotes c.args.naming.now.scheme c.args.naming.now.thread) in
    omega (
      arith,
      AllZip-long R (take c.args.node c.args.nodes.now) c.args.lists.now c.requires.before,
      length-take-le c.args.node c.args.nodes.now (omega (arith, c.requires.there)),
    )

pub returns-in_err-list : goal.returns-in_err-list
returns-in_err-list c =
    let R : List CertLock → List Lock → Type 0 = AllZip (Denotes c.args.naming.now.scheme c.args.naming.now.thread) in
    extends_not R c.args.nodes.now c.args.node c.at.result.now c.as_slice.result.now c.args.lists.now
    c.from_residual-in_err-list.result c.in_err-list.field-0.0 c.requires.there c.at.ensures c.as_slice.ensures
    c.from_residual-in_err-list.ensures.1 c.in_err-list.ensures

pub returns : goal.returns
returns c =
    let R : List CertLock → List Lock → Type 0 = AllZip (Denotes c.args.naming.now.scheme c.args.naming.now.thread) in
    zip_one_more R c.args.nodes.now c.args.node c.at.result.now c.args.lists.now c.push.new.self c.in_ok-list.list
    c.requires.there c.at.ensures c.requires.before
    (subst (λ z. R z c.in_ok-list.list) c.as_slice.ensures c.in_ok-list.ensures) c.in_ok-push.ensures.ok
