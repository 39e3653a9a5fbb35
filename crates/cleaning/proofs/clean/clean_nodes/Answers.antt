-- `cleaning::clean::clean_nodes` meets its contract: the nodes are sifted, the present parameters noted, and the nodes renumbered.
use Rattle.cleaning.proofs.OneRule.{nodes-cleaned}
use Rattle.cleaning.proofs.clean.clean_nodes.Goals as goal

pub returns : goal.returns
returns c =
    nodes-cleaned c.sift-count.ensures c.requires c.note_present.ensures c.is_lone.ensures c.renumber.ensures
