use Rattle.std.proofs.Common.{ap}
use Rattle.sect_check.specs.Verdicts.{of_source}
use Rattle.sect_check.proofs.Answering.{source_refused, text_refused, cert_judged, cert_least, only_memory, text_given}
use Rattle.sect_check.proofs.Unique.{ok_unless}
use Rattle.sect_check.proofs.shared.Answering.{valid_for}
use Rattle.sect_check.proofs.checking.check.Goals as goal

pub returns-in_err-scheme-clause-judges : goal.returns-in_err-scheme-clause-judges
returns-in_err-scheme-clause-judges c =
    source_refused (Unit {0}) c.args.source.now c.args.k c.args.cert.now c.from_residual.result
    c.in_err-scheme.field-0.0 c.from_residual.ensures.1 c.in_err-scheme.ensures.refuses

pub returns-in_err-scheme-clause-only : goal.returns-in_err-scheme-clause-only
returns-in_err-scheme-clause-only c = λ v.
    let f = c.in_err-scheme.field-0.0 in
    only_memory c.from_residual.result (of_source f) c.from_residual.ensures.1
    (ap of_source (c.in_err-scheme.ensures.only v.s v.accepted))

pub returns-in_err-read-clause-judges : goal.returns-in_err-read-clause-judges
returns-in_err-read-clause-judges c =
    text_refused (Unit {0}) c.args.source.now c.args.k c.args.cert.now c.in_ok-scheme.scheme
    c.in_ok-scheme.ensures.accepted c.from_residual-in_err-read.result c.in_err-read.field-0.0
    c.from_residual-in_err-read.ensures.1 c.in_err-read.ensures.judges

pub returns-in_err-read-clause-only : goal.returns-in_err-read-clause-only
returns-in_err-read-clause-only c = λ v.
    let f = c.in_err-read.field-0.0 in
    only_memory c.from_residual-in_err-read.result _ c.from_residual-in_err-read.ensures.1
    (text_given v.cert f (c.in_err-read.ensures.only v.cert v.text v.spelled))

pub returns-clause-judges : goal.returns-clause-judges
returns-clause-judges c =
    let text = c.in_ok-read.ensures.judges in
    cert_judged (Unit {0}) c.args.source.now c.args.k c.args.cert.now c.in_ok-scheme.scheme
    c.in_ok-scheme.ensures.accepted c.in_ok-read.read text.0 text.1 c.judge_cert.result c.judge_cert.ensures

pub returns-clause-only : goal.returns-clause-only
returns-clause-only c = λ v.
    let s = c.in_ok-scheme.scheme in
    let accepted = c.in_ok-scheme.ensures.accepted in
    let read = c.in_ok-read.read in
    let valid = valid_for c.args.source.now c.args.k c.args.cert.now s accepted read v
    (c.in_ok-read.ensures.only v.cert v.text v.spelled) in
    ok_unless s accepted.scheme read c.in_ok-read.ensures.judges.0 valid c.judge_cert.result c.judge_cert.ensures

pub returns-clause-least : goal.returns-clause-least
returns-clause-least c =
    let text = c.in_ok-read.ensures.judges in
    cert_least (Unit {0}) c.args.source.now c.args.k c.args.cert.now c.in_ok-scheme.scheme
    c.in_ok-scheme.ensures.accepted c.in_ok-read.read text.0 text.1 c.judge_cert.result c.judge_cert.ensures
