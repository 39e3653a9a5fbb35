-- The table of a rule, filled choice by choice: what is written are its bytes, and the rest is clear.
use mathlib.Core.Path.{◌≡◌, refl, sym, ◌∙◌, ap}
use mathlib.Core.Bool.{Bool, true, false, ◌&&◌, and-false}
use mathlib.Core.List.{List, ◌++◌}
use Prim.Native.Nat.{ℕ, zero, suc, ◌+◌, ◌*◌, ◌-◌, ◌/◌, ◌%◌, ◌≤◌, ◌<◌}
use native.Mathlib.Omega.{arith}
use native.Mathlib.Decide.{dec_lt}
use native.Mathlib.Nat.{pow-le-pow_right}
use lib.Dec.{ltb}
use lib.ListN.{length, get_or, take, drop, length-drop, replicate, length-replicate, get_or-replicate}
use lib.Seq.{get_or-take, get_or-drop, length-take-le}
use borrow.Author.Tests.{lt-ltb, le-ltb}
use Rattle.terms.specs.Grammar.{rule_rank}
use Rattle.terms.specs.Sheet.{state_count, transitions_of}
use Rattle.terms.proofs.Sheet.Automaton.{AutomatonPassed, automaton_passed}
use Rattle.blackboard_terms.specs.Blackboard.{is_choice, table_byte, table_length}
use Rattle.blackboard_terms.proofs.Method.{byte_clear}
use Rattle.side_relations.specs.Side.{RuleGiven, SideReady, SideRelated}
use Rattle.rule_tables.specs.Bytes.{LanesWritten}
use Rattle.rule_tables.specs.Choice.{lanes_of, choices_of, states_behind}
use Rattle.rule_tables.specs.Table.{TableReady}
use Rattle.rule_tables.proofs.Choices.{lane_choice, choice-lane}
use Rattle.rule_tables.proofs.Patch.{patched_long, patched_before, patched_there, patched_behind}

module _ {alphabet automaton tables ranks : List ℕ} {present : List Bool} {nodes : List ℕ} {number : ℕ}
    (g : TableReady alphabet automaton tables ranks present nodes number) where
  abbrev rank : ℕ
  rank = rule_rank g.given.rules number

  abbrev Q : ℕ
  Q = state_count automaton

  abbrev start : ℕ
  start = table_length * number

  -- byte c of the rule's table
  abbrev byte : ℕ → ℕ
  byte c = table_byte alphabet g.given.rules (transitions_of alphabet automaton) Q number c

  automaton_known : AutomatonPassed alphabet automaton
  automaton_known = automaton_passed alphabet automaton g.given.automaton_passes

  pub rank-few : rank ≤ 4
  rank-few = (g.given.proper.proper number g.given.inside).rank

  pub lanes_few : lanes_of rank Q ≤ 8
  lanes_few = go rank
    where
      go : (n : ℕ) → lanes_of n Q ≤ 8
      go zero = omega arith
      go (suc n) = automaton_known.few_states

  pub choices-few : choices_of rank ≤ 512
  choices-few = pow-le-pow_right {n = 8} (omega arith) {j = 3} (omega (arith, rank-few))

  -- the first choices are written, and the bytes of the others are clear
  pub record Filling (choice : ℕ) (tables' : List ℕ) : Type 0 where
    pub long : length tables' ≡ length tables
    pub before : (k : ℕ) → k < start → get_or tables' k 0 ≡ get_or tables k 0
    pub behind : (k : ℕ) → table_length * (number + 1) ≤ k → get_or tables' k 0 ≡ get_or tables k 0
    pub done : (c : ℕ) → c < table_length → c / 8 < choice → get_or tables' (start + c) 0 ≡ byte c
    pub clear : (c : ℕ) → c < table_length → choice ≤ c / 8 → get_or tables' (start + c) 0 ≡ 0

  -- the table is cleared
  pub filling_none : (part : List ℕ) → part ≡ replicate table_length 0
      → Filling 0 (take start tables ++ (part ++ drop (start + table_length - start) (drop start tables)))
  filling_none part e =
      let n = start + table_length - start in
      let size : length part ≡ n = rw e (omega (arith, length-replicate {A = ℕ} table_length 0)) in
      let inside : start + n ≤ length tables = omega (arith, g.room) in
      record {
        long = patched_long tables start n part size inside;
        before = λ k h. patched_before tables start n part size inside k h;
        behind = λ k h. patched_behind tables start n part size inside k (omega arith);
        done = λ c h l. absurd (omega arith);
        clear = λ c h l. patched_there tables start n part size inside c (omega arith) ∙ rw e (get_or-replicate table_length c 0 0 h);
      }

  -- what is read of the rank that is noted
  pub lanes-are : {n : ℕ} → n ≡ lanes_of (get_or ranks number 0) Q → n ≡ lanes_of rank Q
  lanes-are e = e ∙ ap (λ (r : ℕ). lanes_of r Q) g.rank

  pub choices-are : {n : ℕ} → n ≡ choices_of (get_or ranks number 0) → n ≡ choices_of rank
  choices-are e = e ∙ ap choices_of g.rank

  pub choice_few : {choice n : ℕ} → n ≡ choices_of (get_or ranks number 0) → choice < n → choice < 512
  choice_few e h = omega (arith, choices-are e, choices-few)

  -- One choice.

  module _ {choice : ℕ} {tables' : List ℕ} (f : Filling choice tables') where
    -- the lower tables are still there
    given' : RuleGiven alphabet automaton tables' ranks present nodes number
    given' =
        let r = g.given in
        record {
          rules = r.rules;
          alone = r.alone;
          alphabet-passes = r.alphabet-passes;
          automaton_passes = r.automaton_passes;
          proper = r.proper;
          inside = r.inside;
          rule_nodes = r.rule_nodes;
          few = r.few;
          noted = r.noted;
          below = record {
            long = omega (arith, r.below.long, f.long);
            bytes = λ i c h l. f.before (table_length * i + c) (omega arith) ∙ r.below.bytes i c h l;
          };
        }

    -- a byte is clear where its choice is none
    clear_byte : (c : ℕ) → c < table_length → choice ≤ c / 8 → lane_choice Q rank (c / 8) (c % 8) ≡ false → get_or tables' (start + c) 0 ≡ byte c
    clear_byte c h l e =
        let split : 8 * (c / 8) + c % 8 ≡ c = omega arith in
        f.clear c h l
        ∙ sym (byte_clear alphabet g.given.rules (transitions_of alphabet automaton) Q number c
        (ap (is_choice Q rank) (sym split) ∙ choice-lane Q (c / 8) (c % 8) automaton_known.some_state (omega arith) (omega arith) rank rank-few ∙ e))

    -- bytes up to the next choice, from those of this one
    next-done : (tables'' : List ℕ) → ((c : ℕ) → c < table_length → c / 8 < choice → get_or tables'' (start + c) 0 ≡ get_or tables' (start + c) 0)
        → ((c : ℕ) → c < table_length → c / 8 ≡ choice → get_or tables'' (start + c) 0 ≡ byte c)
        → (c : ℕ) → c < table_length → c / 8 < choice + 1 → get_or tables'' (start + c) 0 ≡ byte c
    next-done tables'' old new c h l = go (dec_lt (c / 8) choice)
      where
        go : Dec (c / 8 < choice) → get_or tables'' (start + c) 0 ≡ byte c
        go (yes m) = old c h m ∙ f.done c h m
        go (no m) = new c h (omega arith)

    -- where the states are none, nothing is written
    pub filling_skip : states_behind Q choice ≡ false → Filling (choice + 1) tables'
    filling_skip e = record {
      long = f.long;
      before = f.before;
      behind = f.behind;
      done = next-done tables' (λ c h l. refl) (λ c h l. clear_byte c h (omega arith) (rw (l, e) (nothing (ltb (c % 8) (lanes_of rank Q)) (ltb choice (choices_of rank)))));
      clear = λ c h l. f.clear c h (omega arith);
    }
      where
        nothing : (a b : Bool) → a && (b && false) ≡ false
        nothing a b = rw (and-false b, and-false a)

    module _ (more : choice < choices_of rank) (states : states_behind Q choice ≡ true) (lanes : ℕ) (as_many : lanes ≡ lanes_of rank Q) where
      few : choice < 512
      few = omega (arith, choices-few)

      pub side_ready : SideReady alphabet automaton tables' ranks present nodes choice lanes
      unfolding given'
      side_ready = record {
        number = number;
        given = given';
        eight = omega (arith, as_many, lanes_few);
        choices = λ p h. (
            rw (choice-lane Q choice p automaton_known.some_state few (omega (arith, as_many, lanes_few)) rank rank-few, lt-ltb p (lanes_of rank Q) (omega (arith, as_many)), lt-ltb choice (choices_of rank) more, states)
            tt
            );
      }

      module _ (x : ℕ) (related : SideRelated side_ready x) (part part' : List ℕ) (part-is : part ≡ take (start + table_length - (start + 8 * choice)) (drop (start + 8 * choice) tables'))
          (w : LanesWritten x lanes part part') where
        abbrev at : ℕ
        at = start + 8 * choice

        abbrev n : ℕ
        n = start + table_length - at

        inside : at + n ≤ length tables'
        inside = omega (arith, few, f.long, g.room)

        size : length part' ≡ n
        size = w.long ∙ ap length part-is ∙ length-take-le n (drop at tables') (omega (arith, length-drop at tables', inside))

        abbrev tables'' : List ℕ
        tables'' = take at tables' ++ (part' ++ drop n (drop at tables'))

        old_part : (k : ℕ) → k < n → get_or part k 0 ≡ get_or tables' (at + k) 0
        old_part k h = rw part-is (get_or-take n (drop at tables') k 0 h ∙ get_or-drop at tables' k 0)

        -- a byte from this choice on, and one behind it
        here : (k : ℕ) → k < n → get_or tables'' (at + k) 0 ≡ get_or part' k 0
        here k h = patched_there tables' at n part' size inside k h

        kept_byte : (k : ℕ) → k < n → lanes ≤ k → get_or tables'' (at + k) 0 ≡ get_or tables' (at + k) 0
        kept_byte k h l = here k h ∙ w.kept k l ∙ old_part k h

        this_choice : (c : ℕ) → c < table_length → c / 8 ≡ choice → get_or tables'' (start + c) 0 ≡ byte c
        unfolding side_ready given'
        this_choice c h e =
            let place : start + c ≡ at + c % 8 = omega arith in
            let in-part : c % 8 < n = omega (arith, few) in
            rw place (go place in-part (dec_lt (c % 8) lanes))
          where
            go : start + c ≡ at + c % 8 → c % 8 < n → Dec (c % 8 < lanes) → get_or tables'' (at + c % 8) 0 ≡ byte c
            go place l (yes m) =
                let split : 8 * choice + c % 8 ≡ c = omega arith in
                here (c % 8) l ∙ w.written (c % 8) m ∙ related (c % 8) m
                ∙ ap byte split
            go place l (no m) =
                kept_byte (c % 8) l (omega arith) ∙ ap (λ (k : ℕ). get_or tables' k 0) (sym place)
                ∙ clear_byte c h (omega arith) (rw (le-ltb (c % 8) (lanes_of rank Q) (omega (arith, as_many))))

        pub filling_more : Filling (choice + 1) tables''
        filling_more = record {
          long = patched_long tables' at n part' size inside ∙ f.long;
          before = λ k h. patched_before tables' at n part' size inside k (omega arith) ∙ f.before k h;
          behind = λ k h. patched_behind tables' at n part' size inside k (omega (arith, few)) ∙ f.behind k h;
          done = next-done tables'' (λ c h l. patched_before tables' at n part' size inside (start + c) (omega arith)) this_choice;
          clear = λ c h l. (
              let place : start + c ≡ at + (c - 8 * choice) = omega arith in
              rw place (kept_byte (c - 8 * choice) (omega (arith, few)) (omega (arith, as_many, lanes_few))) ∙ ap (λ (k : ℕ). get_or tables' k 0) (sym place) ∙ f.clear c h (omega arith)
              );
        }

    -- all choices
    pub filling_all : choices_of rank ≤ choice → (c : ℕ) → c < table_length → get_or tables' (start + c) 0 ≡ byte c
    filling_all most c h = go (dec_lt (c / 8) choice)
      where
        go : Dec (c / 8 < choice) → get_or tables' (start + c) 0 ≡ byte c
        go (yes l) = f.done c h l
        go (no l) =
            clear_byte c h (omega arith) (rw (le-ltb (c / 8) (choices_of rank) (omega arith)) (and-false (ltb (c % 8) (lanes_of rank Q))))
