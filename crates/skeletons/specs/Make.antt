-- How a form is made from a grammar: the list of the form's rules is only ever appended to.
use Rattle.std.specs.Prelude.{List, [], ◌∷◌, ◌++◌, ℕ, zero, suc, length, get_or}
use Rattle.terms.specs.Tree.{Tree, Forest, node, none, more}
use Rattle.terms.specs.Grammar.{Name, terminal, nonterminal, parameter, nothing, name}
use Rattle.terms.specs.Form.{Rule, whole, pierced, filled, composed}
use Rattle.skeletons.specs.Skeleton.{Skeleton, Skeletons, param, shut, under, branch, nil, cons, nth}

pub record Made : Type 0 where
  pub rules : List Rule
  pub made : Skeleton

pub record Mades : Type 0 where
  pub rules : List Rule
  pub made : Skeletons

-- which of the skeletons are open
pub data Sort : Type 0 where
  closed : List ℕ → Sort
  single : List ℕ → Skeleton → List ℕ → Sort
  several : Sort

-- an open skeleton in front
abbrev pub front : Skeleton → Sort → Sort
front s (closed as') = single [] s as'
front s (single ls u rs) = several
front s several = several

-- a closed one in front
abbrev pub ahead : ℕ → Sort → Sort
ahead a (closed as') = closed (a ∷ as')
ahead a (single ls u rs) = single (a ∷ ls) u rs
ahead a several = several

abbrev pub place : Skeleton → Sort → Sort
place (param i) x = front (param i) x
place (shut a) x = ahead a x
place (under c s) x = front (under c s) x
place (branch f ss) x = front (branch f ss) x

abbrev pub sort : Skeletons → Sort
sort nil = closed []
sort (cons s ss) = place s (sort ss)

-- the rank-1 rule c over a skeleton (000 section 6, Contract-1)
unfoldable pub contract_chain : List Rule → ℕ → Skeleton → Made
contract_chain rs c (param i) = record { rules = rs; made = under c (param i) }
contract_chain rs c (shut a) = record { rules = rs ++ (filled c a ∷ []); made = shut (length rs) }
contract_chain rs c (under d s) = record { rules = rs ++ (composed c d ∷ []); made = under (length rs) s }
contract_chain rs c (branch f ss) = record { rules = rs; made = under c (branch f ss) }

-- a terminal over skeletons, by which of them are open (000 section 6, Contract-2)
unfoldable pub contract_terminal_by : List Rule → ℕ → Skeletons → Sort → Made
contract_terminal_by rs f ss (closed as') = record { rules = rs ++ (whole f as' ∷ []); made = shut (length rs) }
contract_terminal_by rs f ss (single ls s rs') = contract_chain (rs ++ (pierced f ls rs' ∷ [])) (length rs) s
contract_terminal_by rs f ss several = record { rules = rs; made = branch f ss }

-- a terminal over skeletons (000 section 6, Contract-2)
unfoldable pub contract_terminal : List Rule → ℕ → Skeletons → Made
contract_terminal rs f ss = contract_terminal_by rs f ss (sort ss)

-- a skeleton with its parameters replaced, the last child first (000 section 6, equation (3))
unfoldable mutual
  pub substitute : Skeletons → Skeleton → List Rule → Made
  substitute args (param i) rs = record { rules = rs; made = nth args i }
  substitute args (shut a) rs = record { rules = rs; made = shut a }
  substitute args (under c s) rs = let m = substitute args s rs in contract_chain m.rules c m.made
  substitute args (branch f ss) rs = let m = substitutes args ss rs in contract_terminal m.rules f m.made

  pub substitutes : Skeletons → Skeletons → List Rule → Mades
  substitutes args nil rs = record { rules = rs; made = nil }
  substitutes args (cons s ss) rs =
      let m = substitutes args ss rs in
      let n = substitute args s m.rules in
      record { rules = n.rules; made = cons n.made m.made }

-- a node, with what its children made
unfoldable pub name-made : (ℕ → Skeleton) → Name → Mades → Made
name-made sk (terminal f) m = contract_terminal m.rules f m.made
name-made sk (nonterminal r) m = substitute m.made (sk r) m.rules
name-made sk (parameter i) m = record { rules = m.rules; made = param i }
name-made sk nothing m = record { rules = m.rules; made = branch 0 nil }

-- a right side, where sk has the skeletons of the lower rules
unfoldable mutual
  pub build : (ℕ → Skeleton) → Tree → List Rule → Made
  build sk (node n ts) rs = name-made sk (name n) (builds sk ts rs)

  pub builds : (ℕ → Skeleton) → Forest → List Rule → Mades
  builds sk none rs = record { rules = rs; made = nil }
  builds sk (more t ts) rs = let m = builds sk ts rs in let n = build sk t m.rules in record { rules = n.rules; made = cons n.made m.made }

pub record Form : Type 0 where
  pub rules : List Rule
  pub skeletons : List Skeleton

abbrev pub skeleton_of : Form → ℕ → Skeleton
skeleton_of x i = get_or x.skeletons i (branch 0 nil)

unfoldable pub extend : Form → Tree → Form
extend x t = let m = build (skeleton_of x) t x.rules in record { rules = m.rules; skeletons = x.skeletons ++ (m.made ∷ []) }

-- the form of the first k rules
unfoldable pub make : (ℕ → Tree) → ℕ → Form
make rhs zero = record { rules = []; skeletons = [] }
make rhs (suc k) = extend (make rhs k) (rhs k)
