-- Where the symbol at a position of a rule's own symbols stands: in which of the rules that it names, and at which position of that one.
use mathlib.Core.Path.{◌≡◌, sym, ◌∙◌, ap}
use mathlib.Core.List.{List, [], ◌∷◌, ◌++◌}
use Prim.Native.Nat.{ℕ, ◌+◌, ◌-◌, ◌≤◌, ◌<◌}
use native.Mathlib.Omega.{arith}
use lib.ListN.{length, get_or, length-append, get_or-append}
use lib.Seq.{get_or-append-add}
use borrow.Author.Tests.{lt-ltb, le-ltb}
use native.Mathlib.Decide.{dec_lt}
use Rattle.terms.specs.Form.{Rule, whole, pierced, filled, composed, Value, value_at, rule_at, Has, Slots, Fits, Valid}
use Rattle.terms.specs.Count.{own_nodes, nodes_before, largest, capped}
use Rattle.counting.specs.Private.Symbols.{symbols_before, symbols_after, own_symbols, symbols_at}
use Rattle.counting.proofs.Symbols.{own_parts, count_symbols, count_parts, around, nodes-before}
use Rattle.counting.proofs.OfRule.{symbols_of, own_symbols_lem}
use Rattle.counting.specs.Private.Counts.{total, own_by, before_by}
use Rattle.counting.proofs.Sums.{length_symbols, own-step, before-step}
use Rattle.places.specs.Position.{LiesIn, place_in}

-- a position behind the first list
pub get_or-behind : (xs ys : List ℕ) (p : ℕ) → length xs ≤ p → get_or (xs ++ ys) p 0 ≡ get_or ys (p - length xs) 0
get_or-behind xs ys p h =
    let e : p ≡ length xs + (p - length xs) = omega arith in
    ap (λ q. get_or (xs ++ ys) q 0) e ∙ get_or-append-add xs ys (p - length xs) 0

-- a list put into another, at a position of the one or of the other
module _ (xs ys zs : List ℕ) (p : ℕ) where
  pub in_front : p < length xs → get_or (xs ++ (ys ++ zs)) p 0 ≡ get_or (xs ++ zs) p 0
  in_front h = get_or-append xs (ys ++ zs) 0 p h ∙ sym (get_or-append xs zs 0 p h)

  pub in_middle : length xs ≤ p → p - length xs < length ys → get_or (xs ++ (ys ++ zs)) p 0 ≡ get_or ys (p - length xs) 0
  in_middle h k = get_or-behind xs (ys ++ zs) p h ∙ get_or-append ys zs 0 (p - length xs) k

  pub behind : length xs ≤ p → length ys ≤ p - length xs → get_or (xs ++ (ys ++ zs)) p 0 ≡ get_or (xs ++ zs) (p - length ys) 0
  behind h k =
      let e : p - length xs - length ys ≡ p - length ys - length xs = omega arith in
      get_or-behind xs (ys ++ zs) p h
      ∙ get_or-behind ys zs (p - length xs) k
      ∙ ap (λ q. get_or zs q 0) e
      ∙ sym (get_or-behind xs zs (p - length ys) (omega arith))

-- the same of other symbols
lies_as : {v : ℕ → Value} {n : ℕ} {xs ys : List ℕ} {p q a r : ℕ} → get_or xs p 0 ≡ get_or ys q 0 → LiesIn v n ys q a r → LiesIn v n xs p a r
lies_as e l = record { below = l.below; within = l.within; same = e ∙ l.same }

module _ (v : ℕ → Value) (rs : List Rule) (n : ℕ) (own : ℕ → ℕ) (counted : (a : ℕ) → a < n → own a ≡ capped (own_nodes (v a))) where
  -- position p of the slots falls where place_in says
  abbrev Found : List ℕ → ℕ → Type 0
  Found slots p = LiesIn v n (symbols_at v slots) p (place_in own slots p).0 (place_in own slots p).1

  pub lies_in_slot : (slots : List ℕ) → Slots rs n slots → (p : ℕ) → p < largest → p < total (λ a. own_nodes (v a)) slots → Found slots p
  lies_in_slot [] s p m h = absurd (omega arith)
  lies_in_slot (a ∷ slots) s p m h = go (dec_lt p (own a)) (counted a s.0.below) (lies_in_slot slots s.1)
    where
      go : Dec (p < own a) → own a ≡ capped (own_nodes (v a)) → ((q : ℕ) → q < largest → q < total (λ a. own_nodes (v a)) slots → Found slots q)
          → Found (a ∷ slots) p
      go (yes k) e rest =
          rw (lt-ltb p (own a) k)
          (record { below = s.0.below; within = omega arith; same = get_or-append (own_symbols (v a)) (symbols_at v slots) 0 p (omega (arith, count_symbols (v a))) })
      go (no k) e rest =
          let exact : own a ≡ length (own_symbols (v a)) = omega (arith, count_symbols (v a)) in
          let r = rest (p - own a) (omega arith) (omega (arith, count_symbols (v a))) in
          let e' = get_or-behind (own_symbols (v a)) (symbols_at v slots) p (omega arith) in
          rw (le-ltb p (own a) (omega arith))
          (record { below = r.below; within = r.within; same = e' ∙ ap (λ q. get_or (symbols_at v slots) (p - q) 0) (sym exact) ∙ r.same })

-- position p of the own symbols of rule i, where own counts the nodes of lower rules as they are lent
module _ {alphabet : List ℕ} {rs : List Rule} (valid : Valid alphabet rs) (i : ℕ) (l : i < length rs) (p : ℕ) (m : p < capped (own_nodes (value_at rs i))) where
  abbrev v : ℕ → Value
  v = value_at rs

  abbrev Lies : ℕ → ℕ → Type 0
  Lies a q = LiesIn v i (own_symbols (v i)) p a q

  module _ (r : Rule) (e : rule_at rs i ≡ r) where
    symbols_are : own_symbols (v i) ≡ symbols_of v r
    symbols_are = own_symbols_lem valid i l ∙ ap (symbols_of v) e

    own_is : own_nodes (v i) ≡ own_by (λ a. own_nodes (v a)) r
    own_is = own-step valid i l ∙ ap (own_by (λ a. own_nodes (v a))) e

    before-is : nodes_before (v i) ≡ before_by (λ a. own_nodes (v a)) (λ a. nodes_before (v a)) r
    before-is = before-step valid i l ∙ ap (before_by (λ a. own_nodes (v a)) (λ a. nodes_before (v a))) e

    fits : Fits alphabet rs i r
    fits = rw e at (valid.fits i l)

  -- the root

  pub root-whole : (f : ℕ) (slots : List ℕ) → rule_at rs i ≡ whole f slots → p ≡ 0 → get_or (own_symbols (v i)) p 0 ≡ f
  root-whole f slots e z = rw (symbols_are (whole f slots) e, z)

  pub root-pierced : (f : ℕ) (ls us : List ℕ) → rule_at rs i ≡ pierced f ls us → p ≡ 0 → get_or (own_symbols (v i)) p 0 ≡ f
  root-pierced f ls us e z = rw (symbols_are (pierced f ls us) e, z)

  -- the slots of f(A1..An)
  module _ (own : ℕ → ℕ) (counted : (a : ℕ) → a < i → own a ≡ capped (own_nodes (v a))) (h : 0 < p) (f : ℕ) where
    pub lies_whole : (slots : List ℕ) → rule_at rs i ≡ whole f slots → Lies (place_in own slots (p - 1)).0 (place_in own slots (p - 1)).1
    lies_whole slots e =
        let r = whole f slots in
        lies_as (ap (λ s. get_or s p 0) (symbols_are r e) ∙ get_or-behind (f ∷ []) (symbols_at v slots) p h)
        (lies_in_slot v rs i own counted slots (fits r e).0 (p - 1) (omega arith) (omega (arith, own_is r e)))

    module _ (ls us : List ℕ) (e : rule_at rs i ≡ pierced f ls us) (prior : ℕ) (prior-is : prior ≡ capped (nodes_before (v i))) where
      abbrev r : Rule
      r = pierced f ls us

      pub lies_left : p < prior → Lies (place_in own ls (p - 1)).0 (place_in own ls (p - 1)).1
      lies_left b =
          let in_left : p - 1 < length (symbols_at v ls) = omega (arith, before-is r e, length_symbols v ls) in
          lies_as
          (ap (λ s. get_or s p 0) (symbols_are r e)
          ∙ get_or-behind (f ∷ []) (symbols_at v ls ++ symbols_at v us) p h
          ∙ get_or-append (symbols_at v ls) (symbols_at v us) 0 (p - 1) in_left)
          (lies_in_slot v rs i own counted ls (fits r e).0 (p - 1) (omega arith) (omega (arith, length_symbols v ls)))

      pub lies_right : prior ≤ p → Lies (place_in own us (p - prior)).0 (place_in own us (p - prior)).1
      lies_right b =
          let exact : prior ≡ length (f ∷ symbols_at v ls) = omega (arith, before-is r e, length_symbols v ls) in
          lies_as
          (ap (λ s. get_or s p 0) (symbols_are r e)
          ∙ get_or-behind (f ∷ symbols_at v ls) (symbols_at v us) p (omega arith)
          ∙ ap (λ n. get_or (symbols_at v us) (p - n) 0) (sym exact))
          (lies_in_slot v rs i own counted us (fits r e).1 (p - prior) (omega arith) (omega (arith, own_is r e, length_symbols v ls)))

  -- B(C) and B(C(y)), with the counts that are lent: prior of B's nodes before its open place, own of C's
  module _ (b c : ℕ) (hb : Has rs i 1 b) (hc : c < i) (e : own_symbols (v i) ≡ around (v b) (v c)) (prior own : ℕ)
      (prior-is : prior ≡ capped (nodes_before (v b))) (own-counted : own ≡ capped (own_nodes (v c))) where
    abbrev xs : List ℕ
    xs = symbols_before (v b)

    abbrev zs : List ℕ
    zs = symbols_after (v b)

    abbrev ys : List ℕ
    ys = own_symbols (v c)

    at_p : get_or (own_symbols (v i)) p 0 ≡ get_or (xs ++ (ys ++ zs)) p 0
    at_p = ap (λ s. get_or s p 0) e

    prior-length : length xs ≡ nodes_before (v b)
    prior-length = sym (nodes-before valid i (omega arith) b hb)

    of_b : xs ++ zs ≡ own_symbols (v b)
    of_b = sym (own_parts (v b))

    length_b : length xs + length zs ≡ own_nodes (v b)
    length_b = sym (count_parts (v b))

    length_i : own_nodes (v i) ≡ length xs + (length ys + length zs)
    length_i = omega (arith, count_symbols (v i), ap length e, length-append xs (ys ++ zs), length-append ys zs)

    pub lies_before : p < prior → Lies b p
    lies_before h =
        let g = prior-length in
        record { below = hb.below; within = omega (arith, length_b); same = at_p ∙ in_front xs ys zs p (omega arith) ∙ ap (λ s. get_or s p 0) of_b }

    pub lies_inside : prior ≤ p → p - prior < own → Lies c (p - prior)
    lies_inside h j =
        let g : prior ≡ length xs = omega (arith, prior-length) in
        let in_c : p - length xs < length ys = omega (arith, count_symbols (v c)) in
        record { below = hc; within = omega arith; same = at_p ∙ in_middle xs ys zs p (omega arith) in_c ∙ ap (λ n. get_or ys (p - n) 0) (sym g) }

    pub lies_after : prior ≤ p → own ≤ p - prior → Lies b (p - own)
    lies_after h j =
        let g : prior ≡ length xs = omega (arith, prior-length) in
        let f : own ≡ length ys = omega (arith, count_symbols (v c)) in
        record {
          below = hb.below;
          within = omega (arith, length_b, length_i);
          same = at_p ∙ behind xs ys zs p (omega arith) (omega arith) ∙ ap (λ n. get_or (xs ++ zs) (p - n) 0) (sym f) ∙ ap (λ s. get_or s (p - own) 0) of_b;
        }

  pub filled_around : (b c : ℕ) → rule_at rs i ≡ filled b c → own_symbols (v i) ≡ around (v b) (v c)
  filled_around b c e = symbols_are (filled b c) e

  pub composed-around : (b c : ℕ) → rule_at rs i ≡ composed b c → own_symbols (v i) ≡ around (v b) (v c)
  composed-around b c e = symbols_are (composed b c) e
