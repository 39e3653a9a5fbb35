-- `marking::mark::mark_read` meets its contract: the sheet's form passes evaluation's checks, and its mask and relations are those of the sheet.
use Rattle.marking.proofs.Marked.{automaton_long, evaluable, verdict_is, slices-left}
use Rattle.marking.proofs.mark.mark_read.Goals as goal

pub evaluate_checked-mask-requires : goal.evaluate_checked-mask-requires
evaluate_checked-mask-requires c =
    let sheet = c.args.sheet.now in
    evaluable sheet.bytes.now sheet.passes sheet.alphabet_is sheet.automaton_is c.make_read-n.ensures _ sheet.asked_for c.requires.1

pub verdict-verdict-requires : goal.verdict-verdict-requires
verdict-verdict-requires c = let sheet = c.args.sheet.now in automaton_long sheet.bytes.now sheet.passes sheet.alphabet_is sheet.automaton_is

pub returns : goal.returns
returns c =
    let sheet = c.args.sheet.now in
    let written = c.make_read-n.ensures in
    record {
      result_value = verdict_is sheet.bytes.now sheet.passes sheet.alphabet_is sheet.automaton_is written c.evaluate_checked-mask.ensures.value c.verdict-verdict.ensures;
      slices_left = slices-left sheet.bytes.now sheet.passes sheet.alphabet_is sheet.automaton_is written _ c.evaluate_checked-mask.ensures.relations_after;
    }
