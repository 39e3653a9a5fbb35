-- `capi::mark_call::ewf_mark` meets its contract.
use mathlib.Core.Path.{ap, ◌∙◌}
use Rattle.marking.specs.Marking.{answer_of_mark}
use Rattle.capi.proofs.Marked.{short-marked, marked}
use Rattle.capi.proofs.mark_call.ewf_mark.Goals as goal

pub returns-then-tally-lt-COUNTS : goal.returns-then-tally-lt-COUNTS
returns-then-tally-lt-COUNTS c =
    let a = c.args in
    let all = short-marked a.tally.now a.candidate a.sheet.now a.form.now a.relations.now a.verdict.now a.mask.now c.if-tally-lt-COUNTS.true in
    record { refusal = c.number.ensures ∙ all.0; tally = all.1.0; slices = all.1.1.0; verdict = all.1.1.1.0; mask = all.1.1.1.1 }

pub returns-in-Err : goal.returns-in-Err
returns-in-Err c =
    let a = c.args in
    let did = c.mark_among.ensures in
    let all = marked a.tally.now a.candidate a.sheet.now a.form.now a.relations.now a.verdict.now a.mask.now c.if-tally-lt-COUNTS.false _ _ _ _ _ did.answer did.counts did.slices (ap answer_of_mark c.in-Err.is) in
    record { refusal = c.number-in-Err.ensures ∙ all.0; tally = all.1.0; slices = all.1.1.0; verdict = all.1.1.1.0; mask = all.1.1.1.1 }

pub returns-in-Ok : goal.returns-in-Ok
returns-in-Ok c =
    let a = c.args in
    let did = c.mark_among.ensures in
    let all = marked a.tally.now a.candidate a.sheet.now a.form.now a.relations.now a.verdict.now a.mask.now c.if-tally-lt-COUNTS.false _ _ _ _ _ did.answer did.counts did.slices (ap answer_of_mark c.in-Ok.is) in
    record { refusal = all.0; tally = all.1.0; slices = all.1.1.0; verdict = c.verdict_number.ensures ∙ all.1.1.1.0; mask = all.1.1.1.1 }
