-- How a form is made from node lists: the nodes from the last to the first, with a stack of skeletons.
use Rattle.std.specs.Prelude.{List, [], ◌∷◌, ◌++◌, ℕ, zero, suc}
use Rattle.terms.specs.Grammar.{name, rule_at, rank_in}
use Rattle.terms.specs.Grammar.{Rule as Production}
use Rattle.terms.specs.Form.{Rule}
use Rattle.skeletons.specs.Skeleton.{Skeleton, Skeletons, nil, cons, nth}
use Rattle.skeletons.specs.Make.{Mades, name-made, Form, skeleton_of}

-- the skeletons that a node of rank k takes, and those that it leaves
abbrev pub top : ℕ → Skeletons → Skeletons
top zero ss = nil
top (suc k) nil = nil
top (suc k) (cons s ss) = cons s (top k ss)

abbrev pub pop : ℕ → Skeletons → Skeletons
pop zero ss = ss
pop (suc k) nil = nil
pop (suc k) (cons s ss) = pop k ss

-- one node: it takes as many skeletons off the stack as its rank
unfoldable pub turn : (ℕ → ℕ) → (ℕ → Skeleton) → ℕ → Mades → Mades
turn rank sk f m =
    let n = name-made sk (name f) (record { rules = m.rules; made = top (rank f) m.made }) in
    record { rules = n.rules; made = cons n.made (pop (rank f) m.made) }

-- the stack after the nodes
unfoldable pub scan : (ℕ → ℕ) → (ℕ → Skeleton) → List ℕ → List Rule → Mades
scan rank sk [] rs = record { rules = rs; made = nil }
scan rank sk (f ∷ fs) rs = turn rank sk f (scan rank sk fs rs)

-- the form of the first k rules, by their nodes
unfoldable pub scanned : List ℕ → List Production → ℕ → Form
scanned alphabet rules zero = record { rules = []; skeletons = [] }
scanned alphabet rules (suc k) =
    let x = scanned alphabet rules k in
    let m = scan (rank_in alphabet rules) (skeleton_of x) (rule_at rules k).nodes x.rules in
    record { rules = m.rules; skeletons = x.skeletons ++ (nth m.made 0 ∷ []) }
