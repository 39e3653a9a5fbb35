-- `making::write_form` meets its contract: the rules in the table are the model's, and the head has their number, the start and the alphabet.
use lib.ListN.{length}
use Rattle.terms.specs.FormBytes.{behind_head}
use Rattle.right_sides.specs.Rules.{RulesMade}
use Rattle.making.proofs.Finishing.{table_part, head-fits, form-written}
use Rattle.making.proofs.write_form.Goals as goal

pub write_head-requires : goal.write_head-requires
write_head-requires c =
    let rules-made : let a = c.args in RulesMade (behind_head (length a.alphabet.now) a.form.now) a.alphabet.now a.body.now c.make_rules-made.new.table c.make_rules-made.result = rw (table_part _ ((c.args.form.now))) at c.make_rules-made.ensures in
    head-fits ((c.args.form.now)) c.requires.0 c.requires.1 rules-made

pub returns : goal.returns
returns c =
    let rules-made : let a = c.args in RulesMade (behind_head (length a.alphabet.now) a.form.now) a.alphabet.now a.body.now c.make_rules-made.new.table c.make_rules-made.result = rw (table_part _ ((c.args.form.now))) at c.make_rules-made.ensures in
    form-written ((c.args.form.now)) c.requires.0 c.requires.1 rules-made c.write_head.ensures
