-- `form_writing::write::write_rule` meets its contract: the rule's bytes are put at its place.
use Rattle.std.proofs.Common.{refl, ◌∙◌, arith}
use Rattle.form_writing.proofs.Pasted.{rule-written}
use Rattle.form_writing.proofs.write.write_rule.Goals as goal

pub returns : goal.returns
returns c =
    rule-written _ _ _ _ _ _ refl (omega arith) c.requires (c.copy_from_slice.ensures.after ∙ c.rule_bytes.ensures)
