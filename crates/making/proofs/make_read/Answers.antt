-- `making::make_read` meets its contract: the parts of a sheet that was read are a grammar over its alphabet.
use Rattle.making.proofs.SheetRead.{grammar, sheet-made}
use Rattle.making.proofs.make_read.Goals as goal

pub write_cleaned-requires : goal.write_cleaned-requires
write_cleaned-requires c =
    let sheet = c.args.sheet.now in
    grammar sheet.bytes.now sheet.passes sheet.alphabet_is sheet.rules_are sheet.counted sheet.asked_for c.args.form.now c.requires

pub returns : goal.returns
returns c = let sheet = c.args.sheet.now in sheet-made sheet.bytes.now sheet.passes sheet.alphabet_is sheet.rules_are c.write_cleaned.ensures
