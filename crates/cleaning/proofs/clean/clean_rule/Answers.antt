-- `cleaning::clean::clean_rule` meets its contract: rank and count are put before the nodes, which are cleaned behind their places.
use mathlib.Core.Path.{refl}
use native.Mathlib.Omega.{arith}
use Rattle.cleaning.proofs.OneRule.{rank_there, rule-cleaned}
use Rattle.cleaning.proofs.Parts.{part_long}
use Rattle.cleaning.proofs.clean.clean_rule.Goals as goal

pub present_before-requires : goal.present_before-requires
present_before-requires c = rank_there c.args.out.now c.requires.0 (part_long 2 c.args.out.now) c.clean_nodes-kept.ensures c.requires.1

pub returns : goal.returns
returns c =
    let d = c.clean_nodes-kept.ensures in
    let size = part_long 2 c.args.out.now in
    rule-cleaned c.args.out.now c.requires.0 size d c.present_before.ensures refl (omega (arith, d.short, c.requires.1.fits))
