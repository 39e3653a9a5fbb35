-- What unfolding answers and leaves (document 01, "Unfolding").
use Rattle.std.specs.Prelude.{◌≡◌, List, ℕ, length}
use Rattle.terms.specs.Tree.{preorder}
use Rattle.terms.specs.FormBytes.{form_tree}
use Rattle.terms.specs.Count.{size_of}
use Rattle.terms.specs.Answer.{Answer, answer}
use Rattle.terms.specs.Calls.{lent_after, unfolding_refusal, counts_of}

-- what unfolding a form answers, and how it leaves the counts and the tree's bytes (01 Unfolding)
pub record Unfolded (alphabet form : List ℕ) (r : Answer ℕ) (counts' counts tree' tree : List ℕ) : Type 0 where
  pub answered : r ≡ answer (unfolding_refusal alphabet form (length counts) (length tree)) (size_of (form_tree alphabet form))
  pub counted : counts' ≡ lent_after (unfolding_refusal alphabet form (length counts) (length tree)) (counts_of alphabet form) counts
  pub written : tree' ≡ lent_after (unfolding_refusal alphabet form (length counts) (length tree)) (preorder (form_tree alphabet form)) tree
