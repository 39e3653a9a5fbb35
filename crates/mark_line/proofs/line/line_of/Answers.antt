-- `mark_line::line::line_of` meets its contract: there is room for the largest sheet, so only the sheet is refused.
use Rattle.std.proofs.Common.{ℕ, refl, sym, ap, ◌∙◌}
use Rattle.std.proofs.lemmas.Result.{err_from_is_err_and}
use Rattle.terms.specs.Answer.{answered}
use Rattle.marking.specs.Marking.{verdict_of}
use Rattle.mark_line.proofs.Lined.{lined, form-marked}
use Rattle.mark_line.proofs.line.line_of.Goals as goal

pub returns-in_err-mark : goal.returns-in_err-mark
returns-in_err-mark c =
    let p = err_from_is_err_and c.from_residual.result c.from_residual.ensures.1 in
    rw (p.1, p.2) (lined c.args.sheet.now (sym c.in_err-mark.ensures.result_value))

pub size_of-size-requires : goal.size_of-size-requires
size_of-size-requires c = form-marked c.args.sheet.now (sym c.in_ok-mark.ensures.result_value) refl _ _ c.mark_sheet.auto.form c.mark_sheet.ensures.slices_left

pub returns : goal.returns
returns c = ap (λ (size : ℕ). answered (verdict_of c.in_ok-mark.mark.verdict, c.in_ok-mark.mark.mask, size)) c.size_of-size.ensures ∙ lined c.args.sheet.now (sym c.in_ok-mark.ensures.result_value)
