-- The own symbols of what a rule derives, in preorder: those before its open place and those after it. A tree has all its symbols before.
use Rattle.std.specs.Prelude.{List, [], ◌∷◌, ◌++◌, ℕ}
use Rattle.terms.specs.Tree.{preorder}
use Rattle.terms.specs.Context.{before, after}
use Rattle.terms.specs.Form.{Value, closed, context}

-- the own symbols before the open place; all those of a tree
abbrev pub symbols_before : Value → List ℕ
symbols_before (closed t) = preorder t
symbols_before (context c) = before c

-- the own symbols after the open place; none of a tree
abbrev pub symbols_after : Value → List ℕ
symbols_after (closed t) = []
symbols_after (context c) = after c

-- the own symbols of a value
abbrev pub own_symbols : Value → List ℕ
own_symbols (closed t) = preorder t
own_symbols (context c) = before c ++ after c

-- the own symbols of the rules that are named, one behind the other
abbrev pub symbols_at : (ℕ → Value) → List ℕ → List ℕ
symbols_at v [] = []
symbols_at v (a ∷ as') = own_symbols (v a) ++ symbols_at v as'
