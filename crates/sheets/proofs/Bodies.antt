-- Where the bodies of a sheet lie whose contents join.
use mathlib.Core.Path.{◌≡◌, sym}
use mathlib.Core.Bool.{true}
use mathlib.Core.List.{List}
use Prim.Native.Nat.{ℕ, ◌-◌, ◌≤◌}
use lib.ListN.{length, take, drop}
use Rattle.terms.specs.Sheet.{body_offset, body}
use Rattle.terms.specs.Check.{joins}
use Rattle.terms.proofs.Test.{of_true}
use Rattle.terms.proofs.Sheet.Bodies.{Joined, joined}

lie : (s : List ℕ) → joins s ≡ true → Joined s
lie s h = joined s (of_true (joins s) h)

pub rules_behind : (s : List ℕ) → joins s ≡ true → 12 ≤ body_offset s 1
rules_behind s h = (lie s h).after_contents

pub automaton_behind : (s : List ℕ) → joins s ≡ true → body_offset s 1 ≤ body_offset s 2
automaton_behind s h = (lie s h).after-alphabet

pub automaton_inside : (s : List ℕ) → joins s ≡ true → body_offset s 2 ≤ length s
automaton_inside s h = (lie s h).after-rules

pub alphabet_lies : (s : List ℕ) → joins s ≡ true → take (body_offset s 1 - 12) (drop 12 s) ≡ body s 0
alphabet_lies s h = sym (lie s h).alphabet

pub rules_lie : (s : List ℕ) → joins s ≡ true → take (body_offset s 2 - body_offset s 1) (drop (body_offset s 1) s) ≡ body s 1
rules_lie s h = sym (lie s h).rules

pub automaton_lies : (s : List ℕ) → joins s ≡ true → take (length s - body_offset s 2) (drop (body_offset s 2) s) ≡ body s 2
automaton_lies s h = sym (lie s h).automaton

pub ruleset bodies_lie = (rules_behind, automaton_behind, automaton_inside, alphabet_lies, rules_lie, automaton_lies)
