-- `nodes::parameters::each_at_most_once` meets its contract: all counts pass where those at the places below the rank do.
use Rattle.std.proofs.Common.{leb, take, ◌≡◌, ◌∙◌, arith, rules, tests}
use Rattle.std.specs.List.{list_all}
use Rattle.std.proofs.lemmas.Iterator.{YieldsList-from_slice}
use Rattle.std.proofs.lemmas.Iterator.Search.{all_from_yields_List}
use Rattle.nodes.proofs.Node.{every-element}
use Rattle.nodes.proofs.parameters.each_at_most_once.Goals as goal

pub returns : goal.returns
returns c =
    let ranked = take c.args.rank c.args.counts.now in
    let by_call : c.all.result ≡ list_all (λ n. leb n 1) ranked = all_from_yields_List (λ n. leb n 1) _ _ _ c.all.ensures.ran (YieldsList-from_slice ranked cc) (λ x b q k. search (rules, tests)) in
    by_call ∙ every-element (λ n. leb n 1) _ _ 0 (omega arith)
