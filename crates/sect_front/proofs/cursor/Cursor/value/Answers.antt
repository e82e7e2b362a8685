use Rattle.std.proofs.Common.{refl}
use Rattle.sect_front.proofs.Stopping.{refused_bare, refused_by}
use Rattle.sect_front.proofs.Stopping.{no_value}
use Rattle.sect_front.specs.declared.expected.Expected.TheVariants as expected
use Rattle.sect_front.proofs.Chains.{none, one, passed, stops, stops_so, adds_so}
use Rattle.sect_front.proofs.cursor.Cursor.value.Goals as goal

pub returns-in_default-clause-err : goal.returns-in_default-clause-err
returns-in_default-clause-err c =
    stops none refl
    (refused_bare expected.Value c.args.self.now (rw c.in_default.is at c.token.ensures.none))

pub computed-requires : goal.computed-requires
computed-requires c = record { alike = λ t rest s. refl }

pub computed-requires-in-Null : goal.computed-requires-in-Null
computed-requires-in-Null c = record { alike = λ t rest s. refl }

pub returns-in-Name-clause-ok : goal.returns-in-Name-clause-ok
returns-in-Name-clause-ok c =
    let p = passed c.args.self.now c.in-Some.ensures.some c.in-Name.is (λ k. refl) c.pass.ensures in
    adds_so _ (λ _. expected.Start) _ _ _ _ p c.first_name.ensures.ok

pub returns-in-Name-clause-err : goal.returns-in-Name-clause-err
returns-in-Name-clause-err c =
    let p = passed c.args.self.now c.in-Some.ensures.some c.in-Name.is (λ k. refl) c.pass.ensures in
    stops_so _ _ (one p refl none) c.first_name.ensures.err

pub returns-in-New-clause-ok : goal.returns-in-New-clause-ok
returns-in-New-clause-ok c =
    let p = passed c.args.self.now c.in-Some.ensures.some c.in-New.is (λ k. refl) c.pass-in-New.ensures in
    adds_so _ (λ _. expected.Start) _ _ _ _ p c.made.ensures.ok

pub returns-in-New-clause-err : goal.returns-in-New-clause-err
returns-in-New-clause-err c =
    let p = passed c.args.self.now c.in-Some.ensures.some c.in-New.is (λ k. refl) c.pass-in-New.ensures in
    stops_so _ _ (one p refl none) c.made.ensures.err

pub returns-in-Number-clause-ok : goal.returns-in-Number-clause-ok
returns-in-Number-clause-ok c =
    let p = passed c.args.self.now c.in-Some.ensures.some c.in-Number.is (λ k. refl) c.pass-in-Number.ensures in
    adds_so _ (λ _. expected.Start) _ _ _ _ p c.computed.ensures.ok

pub returns-in-Number-clause-err : goal.returns-in-Number-clause-err
returns-in-Number-clause-err c =
    let p = passed c.args.self.now c.in-Some.ensures.some c.in-Number.is (λ k. refl) c.pass-in-Number.ensures in
    stops_so _ _ (one p refl none) c.computed.ensures.err

pub returns-in-Null-clause-ok : goal.returns-in-Null-clause-ok
returns-in-Null-clause-ok c =
    let p = passed c.args.self.now c.in-Some.ensures.some c.in-Null.is (λ k. refl) c.pass-in-Null.ensures in
    adds_so _ (λ _. expected.Start) _ _ _ _ p c.computed-in-Null.ensures.ok

pub returns-in-Null-clause-err : goal.returns-in-Null-clause-err
returns-in-Null-clause-err c =
    let p = passed c.args.self.now c.in-Some.ensures.some c.in-Null.is (λ k. refl) c.pass-in-Null.ensures in
    stops_so _ _ (one p refl none) c.computed-in-Null.ensures.err

pub returns-in_default-token : goal.returns-in_default-token
returns-in_default-token c = record {
  ok = tt;
  err = stops none refl (refused_by expected.Value c.args.self.now _ c.token.new.token
      c.in-Some.ensures.some.stands (no_value c.token.new.token c.in_default-token.not-Name c.in_default-token.not-New
      c.in_default-token.not-Number c.in_default-token.not-Null));
}
