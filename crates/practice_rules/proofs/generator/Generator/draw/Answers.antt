-- `practice_rules::generator::Generator::draw` meets its contract: the product and the sum, each modulo 2^32, are the formula modulo 2^32.
use Rattle.std.proofs.Common.{◌≡◌, ℕ, ◌+◌, ◌*◌, ◌%◌, ◌∙◌, ap, arith}
use Rattle.practice_terms.specs.Draw.{next, draw}
use Rattle.practice_rules.proofs.generator.Generator.draw.Goals as goal

stepped : (x : ℕ) → (x * 1664525 % 4294967296 + 1013904223) % 4294967296 ≡ next x
unfolding next
stepped x = omega arith

pub returns-clause-number : goal.returns-clause-number
returns-clause-number c = stepped c.args.self.now.x

pub returns-clause-draw : goal.returns-clause-draw
returns-clause-draw c = c.draw.ensures ∙ ap draw (stepped c.args.self.now.x)
