-- `checks::bytes::word` meets its contract: the number has the definition's bytes, the low one first.
use Rattle.std.proofs.Common.{arith}
use Rattle.terms.specs.Bytes.{word}
use Rattle.checks.proofs.bytes.word.Goals as goal

pub returns : goal.returns
unfolding word
returns c = (omega (arith, c.from.ensures, c.from_le_bytes.ensures), omega (arith, c.from.ensures, c.from_le_bytes.type_inv))
