-- `mark_line::line::size_of` meets its contract.
use Rattle.std.proofs.Common.{ℕ, ◌*◌, sym, ap₂, ◌∙◌, arith}
use lib.ListN.{length-replicate}
use lib.Seq.{length-take-le}
use Rattle.terms.specs.FormBytes.{form_length}
use Rattle.terms.specs.Calls.{most_asked, counts_per_rule}
use Rattle.mark_line.proofs.Sized.{parts, size_told, not_refused, size_is}
use Rattle.mark_line.proofs.line.size_of.Goals as goal

pub word-rules-requires : goal.word-rules-requires
word-rules-requires c = omega (arith, (parts _ _ c.requires).long)

pub rule_count-requires : goal.rule_count-requires
rule_count-requires c = (parts _ _ c.requires).head

pub slice_bounds-size-count : goal.slice_bounds-size-count
slice_bounds-size-count c = omega (arith, (parts _ _ c.requires).first, c.word-rules.ensures.0)

pub slice_bounds-size-start : goal.slice_bounds-size-start
slice_bounds-size-start c = omega (arith, (parts _ _ c.requires).first, c.word-rules.ensures.0)

pub slice_bounds-size-end : goal.slice_bounds-size-end
slice_bounds-size-end c = omega (arith, (parts _ _ c.requires).last, c.word-rules.ensures.0)

pub slice_bounds-size-end-2 : goal.slice_bounds-size-end-2
slice_bounds-size-end-2 c =
    let long = c.form_length-end.ensures ∙ ap₂ form_length c.terminal_count.ensures.0 c.rule_count.ensures.0 in
    sym (length-take-le _ c.args.form.now (rw long (parts _ _ c.requires).end))

pub unreachable-requires : goal.unreachable-requires
unreachable-requires c = not_refused _ _ (size_told _ _ (parts _ _ c.requires) _ _ _ _ c.word-rules.ensures.0 (c.form_length-end.ensures ∙ ap₂ form_length c.terminal_count.ensures.0 c.rule_count.ensures.0)
    (length-replicate {A = ℕ} (counts_per_rule * most_asked) 0) c.in-Err.ensures.result_value)

pub returns : goal.returns
returns c = size_is _ c.in-Ok.size (size_told _ _ (parts _ _ c.requires) _ _ _ _ c.word-rules.ensures.0 (c.form_length-end.ensures ∙ ap₂ form_length c.terminal_count.ensures.0 c.rule_count.ensures.0)
    (length-replicate {A = ℕ} (counts_per_rule * most_asked) 0) c.in-Ok.ensures.result_value)
