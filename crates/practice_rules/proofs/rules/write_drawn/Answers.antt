-- `practice_rules::rules::write_drawn` meets its contract: an even draw takes two more, an odd one takes one, and what they choose is written.
use Rattle.practice_rules.proofs.Drawing.{even_drawn, odd_drawn}
use Rattle.practice_rules.proofs.rules.write_drawn.Goals as goal

pub returns-then-even : goal.returns-then-even
returns-then-even c =
    let kind = c.draw.ensures in
    let second = c.draw-2.ensures in
    let third = c.draw-then-even.ensures in
    even_drawn kind.number kind.draw second.number second.draw c.call-j.ensures c.if-even.true third.number third.draw c.call-k.ensures c.copy_at.ensures

pub returns : goal.returns
returns c = odd_drawn c.draw.ensures.number c.draw.ensures.draw c.draw-2.ensures.number c.draw-2.ensures.draw c.call-j.ensures c.if-even.false c.copy_at-2.ensures
