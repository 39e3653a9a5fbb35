-- `sheet_bytes::write::write_sheet` meets its contract: the contents and the three bodies are four pieces, one behind the other.
use mathlib.Core.Path.{ap}
use native.Mathlib.Omega.{arith}
use Rattle.std.proofs.Common.{length, length-take-le}
use Rattle.sheet_bytes.proofs.write.Pieces.{sheet_put}
use Rattle.sheet_bytes.proofs.write.write_sheet.Goals as goal

pub copy_from_slice-requires : goal.copy_from_slice-requires
copy_from_slice-requires c = omega (arith, length-take-le 12 c.args.sheet.now (omega arith), ap length c.contents_of.ensures)

pub returns : goal.returns
returns c =
    rw (c.copy_from_slice.ensures.after, c.contents_of.ensures, c.copy.ensures, c.copy-2.ensures, c.copy-3.ensures)
    (sheet_put c.args.alphabet.now c.args.rules.now c.args.automaton.now c.args.sheet.now c.requires.automaton_bound)
