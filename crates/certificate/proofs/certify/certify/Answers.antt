-- `certificate::certify::certify` meets its contract: what each call answers and leaves, from which demand 3 follows.
use mathlib.Core.Path.{ap}
use Rattle.terms.specs.Answer.{answer_of}
use Rattle.making.proofs.Formed.{makes, wrote}
use Rattle.certificate.proofs.Sheet.{contents_join}
use Rattle.certificate.proofs.Made.{handed_on, calls_follow}
use Rattle.certificate.proofs.Certified.{calls_certify}
use Rattle.certificate.proofs.certify.certify.Goals as goal

pub bodies_of-bodies-requires : goal.bodies_of-bodies-requires
bodies_of-bodies-requires c = contents_join _ c.make_form.ensures.answer c.make_form.ensures.slice c.make_form.ensures.form c.in-Ok.is

pub returns-in-Err : goal.returns-in-Err
returns-in-Err c =
    let made = makes _ c.args.form.now (c.make_form.ensures.answer, (c.make_form.ensures.slice, c.make_form.ensures.form)) in
    let calls = handed_on made c.in-Err.refusal (ap answer_of c.in-Err.is) _ in record { calls = calls; demand = λ passes room. calls_certify _ _ _ _ _ _ passes room calls }

pub returns-in-Ok : goal.returns-in-Ok
returns-in-Ok c =
    let made = makes _ c.args.form.now (c.make_form.ensures.answer, (c.make_form.ensures.slice, c.make_form.ensures.form)) in
    let calls = calls_follow made (ap answer_of c.in-Ok.is) (wrote made (ap answer_of c.in-Ok.is)).within c.bodies_of-bodies.ensures.alphabet c.bodies_of-bodies.ensures.automaton c.run.ensures in
    record { calls = calls; demand = λ passes room. calls_certify _ _ _ _ _ _ passes room calls }
