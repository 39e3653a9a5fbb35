-- The rules one after another: what is written is the body of the first rules, cleaned.
use mathlib.Core.Path.{◌≡◌, refl, sym, ◌∙◌, ap}
use mathlib.Core.List.{List, [], ◌++◌}
use Prim.Native.Nat.{ℕ, suc, ◌+◌, ◌*◌, ◌-◌, ◌≤◌, ◌<◌}
use native.Mathlib.Omega.{arith}
use lib.ListN.{length, take, drop, set, length-append, length-set}
use lib.Seq.{get_or-set_same, get_or-set_other, length-take-le, take-append-add}
use Rattle.terms.specs.Grammar.{Rule, node_count}
use Rattle.terms.specs.Sheet.{rules_body, written_rules}
use Rattle.terms.specs.Check.{most_rules}
use Rattle.grammars.proofs.Turns.{Left, none-read, Turn, read-all}
use Rattle.cleaning_terms.specs.Cleaning.{sifted_rules, cleaned}
use Rattle.cleaning_terms.proofs.Body.{body_upto, body-next}
use Rattle.rule_parameters.specs.Numbers.{rule_flags}
use Rattle.cleaning.specs.declared.notes.Notes.{Notes}
use Rattle.cleaning.specs.Sifting.{Noted}
use Rattle.cleaning.proofs.Parts.{nothing-behind}
use Rattle.cleaning.specs.Clean.{longest_body, GrammarBody, RuleReady, RuleCleaned, CleanedNoting}

module _ {alphabet body : List ℕ} {room : ℕ} (g : GrammarBody alphabet body) (enough : longest_body ≤ room) where
  abbrev rules : List Rule
  rules = (rules_body body).rules

  -- the first i rules are cleaned, and the others are left
  pub record Cleaning (left : List ℕ) (to i : ℕ) (notes : Notes) (out : List ℕ) : Type 0 where
    pub read : Left body i left
    pub noted : Noted alphabet rules i notes.ranks notes.present notes.alone
    pub long : length out ≡ room
    pub short : to + node_count (rules_body left).rules ≤ 2 * i + node_count rules
    pub written : take to out ≡ body_upto alphabet rules i

  pub none-cleaned : {notes : Notes} {out : List ℕ} → length notes.ranks ≡ most_rules → length notes.present ≡ rule_flags → length notes.alone ≡ most_rules
      → length out ≡ room → Cleaning body 0 0 notes out
  unfolding sifted_rules written_rules
  none-cleaned ranked flagged told long = record {
    read = none-read body;
    noted = record {
      ranked = ranked;
      flagged = flagged;
      told = told;
      rank = λ r h. absurd (omega arith);
      stand = λ r j h. absurd (omega arith);
      lone = λ r h. absurd (omega arith);
    };
    long = long;
    short = omega arith;
    written = refl;
  }

  module _ {left : List ℕ} {to i : ℕ} {notes : Notes} {out : List ℕ} (s : Cleaning left to i notes out) where
    -- no more is written than the longest body has
    pub short-body : to ≤ longest_body
    short-body = omega (arith, s.short, s.read.count, g.few, g.proper.few)

    -- there are few rules
    pub few-left : i + length (rules_body left).rules ≤ most_rules
    few-left = omega (arith, s.read.count, g.proper.few)

    -- one rule, which is the first of those that are left
    module _ {rule : Rule} {later : List ℕ} (t : Turn body i left rule later) where
      pub number-few : (i < most_rules) × (i < length notes.ranks)
      number-few = omega (arith, t.inside, g.proper.few, s.noted.ranked)

      pub room-there : to ≤ length out
      room-there = omega (arith, s.short, s.long, g.few, number-few, enough)

      -- its rank is noted
      abbrev notes₁ : Notes
      notes₁ = record { ranks = set notes.ranks i rule.rank; present = notes.present; alone = notes.alone }

      still_noted : Noted alphabet rules i notes₁.ranks notes₁.present notes₁.alone
      still_noted =
          let n = s.noted in
          record {
            ranked = length-set notes.ranks i rule.rank ∙ n.ranked;
            flagged = n.flagged;
            told = n.told;
            rank = λ r h. get_or-set_other notes.ranks i r rule.rank 0 (λ q. omega arith) ∙ n.rank r h;
            stand = n.stand;
            lone = n.lone;
          }

      -- the part of the slice behind what is written has room for the rule
      part_room : 2 + length rule.nodes ≤ length out - to
      part_room = omega (arith, s.short, s.long, t.parted, g.few, number-few, enough)

      ready : {n : ℕ} → n ≡ length out - to - 2 → RuleReady alphabet notes₁ i rule.nodes n
      ready e = record {
        rules = rules;
        proper = g.proper;
        inside = t.inside;
        rule_nodes = ap (λ (r : Rule). r.nodes) (sym t.here);
        few = omega (arith, t.parted, s.read.nodes, g.few);
        noted = still_noted;
        rank = get_or-set_same notes.ranks i rule.rank 0 number-few.1 ∙ ap (λ (r : Rule). r.rank) (sym t.here);
        fits = omega (arith, part_room);
      }

      pub part_ready : (part : List ℕ) → length part ≡ length out - to → (2 ≤ length part) × RuleReady alphabet notes₁ i rule.nodes (length part - 2)
      part_ready part size = (omega (arith, part_room), ready (ap (λ n. n - 2) size))

      -- the next rule
      module _ {part part' : List ℕ} {end : ℕ} {notes' : Notes} (size : length part ≡ length out - to)
          (d : RuleCleaned alphabet notes₁ i rule.nodes part end notes' part') where
        to_long : length (take to out) ≡ to
        to_long = length-take-le to out room-there

        abbrev out₁ : List ℕ
        out₁ = take to out ++ (part' ++ drop (length out - to) (drop to out))

        parted : out₁ ≡ take to out ++ part'
        parted = nothing-behind to out part'

        -- what is written now
        bytes : take (to + end) out₁ ≡ body_upto alphabet rules (suc i)
        unfolding ready
        bytes =
            let e : to + end ≡ length (take to out) + end = omega (arith, to_long) in
            rw (parted, e) (take-append-add (take to out) part' end ∙ rw (s.written, d.written (ready refl)) (sym (body-next alphabet rules i)))

        pub rule-cleaned : Cleaning later (to + end) (i + 1) notes' out₁
        unfolding ready
        rule-cleaned =
            let z : i + 1 ≡ suc i = omega arith in
            record {
              read = t.next;
              noted = rw z (d.noted (ready refl));
              long = omega (arith, ap length parted, length-append (take to out) part', to_long, d.long, size, room-there, s.long);
              short = omega (arith, d.short, s.short, t.parted);
              written = rw z bytes;
            }

    -- all rules
    pub all-cleaned : (rules_body left).rules ≡ [] → CleanedNoting alphabet body to notes out
    unfolding cleaned
    all-cleaned none =
        let z = read-all s.read none in
        record {
          cleaned = record { within = omega (arith, short-body, s.long, enough); written = rw z s.written };
          noted = rw z s.noted;
        }
