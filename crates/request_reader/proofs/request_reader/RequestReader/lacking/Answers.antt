use Rattle.std.proofs.Common.{[]}
use Rattle.request_reader.proofs.States.{as_passing, as_reading}
use Rattle.request_reader.proofs.Steps.{all_told, last_refused, last_short}
use Rattle.request_reader.proofs.request_reader.RequestReader.lacking.Goals as goal

pub returns-then-self-clause-none : goal.returns-then-self-clause-none
returns-then-self-clause-none c first all outcomes h =
    let reader = c.args.self.now in
    last_refused reader.vertices reader.has_section reader.line first all outcomes
    (as_passing reader.is_refused reader first all [] outcomes c.if-self.true h)

pub returns-then-not-is_short-clause-none : goal.returns-then-not-is_short-clause-none
returns-then-not-is_short-clause-none c first all outcomes h =
    let reader = c.args.self.now in
    let p = as_reading reader.is_refused reader first all [] outcomes c.if-self.false h in
    all_told reader.vertices reader.draft reader.has_section reader.head reader.line first all outcomes p
    (λ ls read. c.is_short.ensures.silent reader.vertices ls read c.if-not-is_short.true p.lacking)

pub returns-clause-some : goal.returns-clause-some
returns-clause-some c first all outcomes h =
    let reader = c.args.self.now in
    last_short reader.vertices reader.draft reader.has_section reader.head reader.line first all outcomes
    (as_reading reader.is_refused reader first all [] outcomes c.if-self.false h)
    (λ ls read. c.is_short.ensures.short reader.vertices ls read c.if-not-is_short.false)
