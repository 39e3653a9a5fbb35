-- The tree that the draws describe, over contexts and without a grammar (document 02, R-2).
use Rattle.std.specs.Prelude.{List, [], ◌∷◌, ◌++◌, ℕ, get_or}
use Rattle.terms.specs.Tree.{Tree, node, none, more}
use Rattle.terms.specs.Context.{Context, hole, inside, plug, compose}
use Rattle.practice_terms.specs.Draw.{Choice, calls, beside, choices}

-- the tree a (02 R-2)
abbrev pub tree_a : Tree
tree_a = node 0 none

-- rule 0: h with the open place below it (02 R-2)
abbrev pub context_h : Context
context_h = inside 1 none hole none

-- context i of a list (02 R-2)
abbrev pub context_at : List Context → ℕ → Context
context_at cs i = get_or cs i hole

-- what a choice describes, where v is what lower rules describe: an even draw context k in the open place of context j, an odd one f(context j, a) (02 R-2)
abbrev pub describes : (ℕ → Context) → Choice → Context
describes v (calls j k) = compose (v j) (v k)
describes v (beside j) = inside 2 none (v j) (more tree_a none)

-- the contexts of further choices behind those of lower rules, which are done (02 R-2)
unfoldable pub contexts_from : List Context → List Choice → List Context
contexts_from done [] = done
contexts_from done (c ∷ cs) = contexts_from (done ++ (describes (context_at done) c ∷ [])) cs

-- the contexts of rules 0 to m (02 R-2)
abbrev pub contexts_of : List Choice → List Context
contexts_of cs = contexts_from (context_h ∷ []) cs

-- the tree that the draws describe: context m around a (02 R-2)
unfoldable pub practice_tree : ℕ → ℕ → Tree
practice_tree x m = plug (context_at (contexts_of (choices x m)) m) tree_a
