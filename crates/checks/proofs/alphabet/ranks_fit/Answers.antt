-- `checks::alphabet::ranks_fit` meets its contract: the iterator tests each rank.
use Rattle.std.proofs.Common.{rules, leb}
use Rattle.std.specs.Prelude.{IsTrue, ◌↔◌}
use Rattle.std.specs.List.{AllPass}
use Rattle.terms.specs.Check.{highest_rank}
use Rattle.terms.proofs.Test.{all_test}
use Rattle.checks.proofs.alphabet.ranks_fit.Goals as goal

pub returns : goal.returns
returns c =
    let each : IsTrue c.all.result ↔ AllPass (λ rank. leb rank highest_rank) c.args.alphabet.now = search rules in
    all_test (λ rank. leb rank highest_rank) c.args.alphabet.now c.all.result each
