-- The check of one rule: what it sees of the rules, and what a pass over its nodes, from the last to the first, has gathered.
use mathlib.Core.Path.{◌≡◌, refl, sym, ◌∙◌, ap}
use mathlib.Core.Bool.{Bool, true, false, not}
use mathlib.Core.List.{List, [], ◌∷◌}
use Prim.Native.Nat.{ℕ, zero, suc, ◌-◌, ◌+◌, ◌*◌, ◌<◌, ◌≤◌}
use native.Mathlib.Omega.{arith}
use borrow.Author.Tests.{ltb-true, lt-ltb, le-ltb}
use lib.Dec.{leb, ltb}
use lib.ListN.{length, get_or, drop, length-map}
use lib.Seq.{get_or-set_same, get_or-set_other, drop-length}
use Rattle.terms.specs.Test.{all, every}
use Rattle.terms.specs.Refusal.{first, ◌when◌}
use Rattle.terms.specs.Tree.{exactly, wholes, taking}
use Rattle.terms.specs.Grammar.{Name, terminal, nonterminal, parameter, nothing, name, Rule, rule_at, rule_rank, name_rank, rank_in, allowed, all_allowed, is_parameter, sum_over}
use Rattle.terms.specs.Form.{share, side_bound}
use Rattle.terms.specs.Check.{highest_rank, is_one, rule_refusal}
use Rattle.terms.proofs.Test.{both_0, both_1, is_true, of_true}
use Rattle.nodes.specs.Nodes.{ruled_by, counting}
use Rattle.std.proofs.Common.{Option}
use Rattle.grammars.specs.Rules.{seen_from, rule_reading}
use Rattle.terms.specs.Answer.{Answer, refused, answered, answer}
use Rattle.terms.proofs.Scan.{drop-back, every_cong, all_part}

-- the rows 8 to 11 of the table, by their tests
abbrev pub rows : Bool → Bool → Bool → Bool → ℕ
rows high unknown broken twice = first (8 when high ∷ 9 when unknown ∷ 10 when broken ∷ 11 when twice ∷ [])

-- the rows of a rule, where the list of rules gives the ranks
abbrev rows_of : List ℕ → List Rule → ℕ → Rule → ℕ
rows_of alphabet rules i rule = rows (ltb highest_rank rule.rank) (not (all_allowed alphabet i rule.rank rule.nodes))
    (not (is_one (wholes (rank_in alphabet rules) rule.nodes))) (not (every rule.rank (λ j. leb (sum_over (is_parameter j) rule.nodes) 1)))

-- the answer to a rule, by its rows and the sum over its nodes
abbrev answer_from : List ℕ → List Rule → ℕ → Rule → Answer ℕ
answer_from alphabet rules i rule = answer (rows_of alphabet rules i rule) (side_bound rules rule.nodes)

-- where all nodes are allowed, so are the first one and those behind it
first-allowed : (alphabet : List ℕ) (i n m : ℕ) (nodes : List ℕ) → all_allowed alphabet i n (m ∷ nodes) ≡ true
    → (allowed alphabet i n (name m) ≡ true) × (all_allowed alphabet i n nodes ≡ true)
unfolding all
first-allowed alphabet i n m nodes h =
    let t = of_true (all_allowed alphabet i n (m ∷ nodes)) h in
    (is_true _ (both_0 (allowed alphabet i n (name m)) (all_allowed alphabet i n nodes) t), is_true _ (both_1 (allowed alphabet i n (name m)) (all_allowed alphabet i n nodes) t))

-- two lists of rules that have the same rule i, and lower rules of the same ranks
module _ (alphabet : List ℕ) (rules others : List Rule) (i : ℕ) (lower : (k : ℕ) → k < i → rule_rank rules k ≡ rule_rank others k) where
  -- what is allowed in rule i has the same rank
  pub same_rank : (n : ℕ) (x : Name) → allowed alphabet i n x ≡ true → name_rank alphabet rules x ≡ name_rank alphabet others x
  same_rank n (terminal f) h = refl
  same_rank n (nonterminal r) h = lower r (ltb-true r i h)
  same_rank n (parameter j) h = refl
  same_rank n nothing h = refl

  same-wholes : (n : ℕ) (nodes : List ℕ) → all_allowed alphabet i n nodes ≡ true → wholes (rank_in alphabet rules) nodes ≡ wholes (rank_in alphabet others) nodes
  unfolding wholes rank_in
  same-wholes n [] h = refl
  same-wholes n (m ∷ nodes) h =
      let (here, behind) = first-allowed alphabet i n m nodes h in
      rw (same_rank n (name m) here, same-wholes n nodes behind)

  same-share : (n : ℕ) (x : Name) → allowed alphabet i n x ≡ true → share (rule_rank rules) x ≡ share (rule_rank others) x
  same-share n (terminal f) h = refl
  same-share n (nonterminal r) h = rw (lower r (ltb-true r i h))
  same-share n (parameter j) h = refl
  same-share n nothing h = refl

  same_side : (n : ℕ) (nodes : List ℕ) → all_allowed alphabet i n nodes ≡ true → side_bound rules nodes ≡ side_bound others nodes
  same_side n [] h = refl
  same_side n (m ∷ nodes) h =
      let (here, behind) = first-allowed alphabet i n m nodes h in
      rw (same-share n (name m) here, same_side n nodes behind)

  -- where row 8 or 9 holds, neither row 10 nor the sum matters
  same_answer : (rule : Rule) → answer_from alphabet rules i rule ≡ answer_from alphabet others i rule
  same_answer rule = go (ltb highest_rank rule.rank) (all_allowed alphabet i rule.rank rule.nodes) refl refl
    where
      go : (high fine : Bool) → ltb highest_rank rule.rank ≡ high → all_allowed alphabet i rule.rank rule.nodes ≡ fine
          → answer_from alphabet rules i rule ≡ answer_from alphabet others i rule
      go true fine e h = rw e
      go false true e h = rw (same-wholes rule.rank rule.nodes h, same_side rule.rank rule.nodes h)
      go false false e h = rw (e, h)

  -- rule i is answered in the one as it is in the other
  pub same-reading : rule_at rules i ≡ rule_at others i → rule_reading alphabet rules i ≡ rule_reading alphabet others i
  unfolding rule_refusal
  same-reading e = ap (answer_from alphabet rules i) e ∙ same_answer (rule_at others i)

-- what the answer to a rule says
pub answer-refuses : (n takes : ℕ) {k : ℕ} → refused k ≡ answer n takes → (k ≡ n) × (n ≡ 0 → ⊥)
answer-refuses zero takes e = absurd (cc)
answer-refuses (suc n) takes e = (cc, λ z. omega arith)

pub answer_takes : (n takes : ℕ) {k : ℕ} → answered k ≡ answer n takes → (n ≡ 0) × (k ≡ takes)
answer_takes zero takes e = (refl, cc)
answer_takes (suc n) takes e = absurd (cc)

-- a share depends on the rank of what is named alone
share-rank : (alphabet : List ℕ) (rules : List Rule) (x : Name) → share (λ _. name_rank alphabet rules x) x ≡ share (rule_rank rules) x
share-rank alphabet rules (terminal f) = refl
share-rank alphabet rules (nonterminal r) = refl
share-rank alphabet rules (parameter j) = refl
share-rank alphabet rules nothing = refl

-- what the check of rule i sees of the rules
module _ (alphabet ranks : List ℕ) (i rank : ℕ) (nodes : List ℕ) (room : i < length ranks) where
  pub rule_seen : rule_at (seen_from ranks i rank nodes) i ≡ record { rank = rank; nodes = nodes }
  rule_seen = get_or-set_same (ruled_by ranks) i _ _ (rw length-map room)

  pub rank_seen : (k : ℕ) → k < i → rule_rank (seen_from ranks i rank nodes) k ≡ rule_rank (ruled_by ranks) k
  rank_seen k h = ap (λ (r : Rule). r.rank) (get_or-set_other (ruled_by ranks) i k _ _ (λ e. omega arith))

  seen_answer : rule_reading alphabet (seen_from ranks i rank nodes) i ≡ answer_from alphabet (seen_from ranks i rank nodes) i (record { rank = rank; nodes = nodes })
  unfolding rule_refusal
  seen_answer = ap (answer_from alphabet (seen_from ranks i rank nodes) i) rule_seen

  pub high_refused : highest_rank < rank → rule_reading alphabet (seen_from ranks i rank nodes) i ≡ refused 8
  high_refused h = seen_answer ∙ rw (lt-ltb highest_rank rank h)

-- what the nodes from a place on say: each is allowed, the trees that they make, how often each parameter occurs, and how many rules of a form they take
pub record Scanned (alphabet ranks : List ℕ) (i rank : ℕ) (nodes : List ℕ) (behind : Option ℕ) (counts : List ℕ) (takes left : ℕ) : Type 0 where
  pub within : left ≤ length nodes
  pub fine : all_allowed alphabet i rank (drop left nodes) ≡ true
  pub trees : counting behind ≡ wholes (rank_in alphabet (seen_from ranks i rank nodes)) (drop left nodes)
  pub counted : (j : ℕ) → get_or counts j 0 ≡ sum_over (is_parameter j) (drop left nodes)
  pub sum : takes ≡ side_bound (seen_from ranks i rank nodes) (drop left nodes)
  pub small : takes + 1024 * left ≤ 1024 * length nodes

-- the pass
module _ {alphabet ranks : List ℕ} {i rank : ℕ} {nodes : List ℕ} (room : i < length ranks) where
  pub none-scanned : {counts : List ℕ} → ((j : ℕ) → get_or counts j 0 ≡ 0) → {behind : Option ℕ} → counting behind ≡ exactly 0
      → Scanned alphabet ranks i rank nodes behind counts 0 (length nodes)
  unfolding all wholes
  none-scanned zeros none = record {
    within = omega arith;
    fine = rw drop-length;
    trees = rw drop-length none;
    counted = λ j. rw drop-length (zeros j);
    sum = rw drop-length refl;
    small = omega arith;
  }

  module _ (low : rank ≤ highest_rank) {behind : Option ℕ} {counts : List ℕ} {takes left : ℕ} (s : Scanned alphabet ranks i rank nodes behind counts takes left) where
    -- the next node is not allowed
    pub unknown-refused : 0 < left → {x : Name} → x ≡ name (get_or nodes (left - 1) 0) → allowed alphabet i rank x ≡ false
        → rule_reading alphabet (seen_from ranks i rank nodes) i ≡ refused 9
    unfolding all
    unknown-refused h {x} e out =
        let d = drop-back nodes left 0 h s.within in
        let f = all_part (λ m. allowed alphabet i rank (name m)) nodes (left - 1) (rw (d, ← e, out)) in
        seen_answer alphabet ranks i rank nodes room ∙ rw (le-ltb highest_rank rank low, f)

    -- the next node is allowed, and counted
    pub node-scanned : 0 < left → {x : Name} → x ≡ name (get_or nodes (left - 1) 0) → allowed alphabet i rank x ≡ true
        → {r : ℕ} → r ≡ name_rank alphabet (ruled_by ranks) x → {behind' : Option ℕ} → counting behind' ≡ taking r (counting behind)
        → {counts' : List ℕ} → ((j : ℕ) → get_or counts' j 0 ≡ is_parameter j x + get_or counts j 0)
        → {more : ℕ} → more ≡ share (λ _. r) x → more < 1024 → Scanned alphabet ranks i rank nodes behind' counts' (takes + more) (left - 1)
    unfolding all wholes rank_in
    node-scanned h {x} e in' {r} ranked {behind'} taken {counts'} counted {more} shared low =
        let d = drop-back nodes left 0 h s.within in
        let seen = seen_from ranks i rank nodes in
        let same = same_rank alphabet seen (ruled_by ranks) i (rank_seen alphabet ranks i rank nodes room) rank x in' in
        let own : more ≡ share (rule_rank seen) x = shared ∙ rw (ranked, ← same) (share-rank alphabet seen x) in
        record {
          within = omega (arith, s.within);
          fine = rw (d, ← e, in') s.fine;
          trees = rw (d, ← e, same, ← ranked, ← s.trees) taken;
          counted = λ j. rw (d, ← e, ← s.counted j) (counted j);
          sum = rw (d, ← e, ← own, ← s.sum) (omega arith);
          small = omega (arith, s.small);
        }

    -- where all nodes are scanned, what was gathered decides the rows 10 and 11, and is the sum
    pub all-scanned : left ≤ 0 → {one once : Bool} → one ≡ is_one (counting behind) → once ≡ every rank (λ j. leb (get_or counts j 0) 1)
        → rule_reading alphabet (seen_from ranks i rank nodes) i ≡ answer (rows false false (not one) (not once)) takes
    all-scanned h is-one is-once =
        let z : left ≡ 0 = omega arith in
        let s = rw z at s in
        let c = every_cong rank (λ j. leb (sum_over (is_parameter j) nodes) 1) (λ j. leb (get_or counts j 0) 1) (λ j. ap (λ n. leb n 1) (sym (s.counted j))) in
        rw (is-one, is-once) (seen_answer alphabet ranks i rank nodes room ∙ rw (le-ltb highest_rank rank low, s.fine, ← s.trees, c, ← s.sum))
