-- Where the contents join, the bodies are the parts between their offsets.
use mathlib.Core.Path.{◌≡◌}
use mathlib.Core.List.{List}
use Prim.Native.Nat.{ℕ, ◌+◌, ◌-◌, ◌≤◌}
use native.Mathlib.Omega.{arith}
use lib.Dec.{T, eqb, eqb→eq}
use lib.ListN.{length, take, drop, length-take, length-drop}
use Rattle.terms.specs.Sheet.{body_offset, body_length, body}
use Rattle.terms.specs.Check.{joins}
use Rattle.terms.proofs.Test.{parts}

pub record Joined (s : List ℕ) : Type 0 where
  pub first : body_offset s 0 ≡ 12
  pub after_contents : 12 ≤ body_offset s 1
  pub after-alphabet : body_offset s 1 ≤ body_offset s 2
  pub after-rules : body_offset s 2 ≤ length s
  pub terminals : body_length s 0 ≡ length (body s 0)
  pub alphabet : body s 0 ≡ take (body_offset s 1 - 12) (drop 12 s)
  pub rules : body s 1 ≡ take (body_offset s 2 - body_offset s 1) (drop (body_offset s 1) s)
  pub automaton : body s 2 ≡ take (length s - body_offset s 2) (drop (body_offset s 2) s)

pub joined : (s : List ℕ) → T (joins s) → Joined s
unfolding joins body
joined s h =
    let a = eqb (body_offset s 0) 12 in
    let b = eqb (body_offset s 1) (body_offset s 0 + body_length s 0) in
    let c = eqb (body_offset s 2) (body_offset s 1 + body_length s 1) in
    let d = eqb (length s) (body_offset s 2 + body_length s 2) in
    let (p, q) = parts a _ h in
    let (r, t) = parts b _ q in
    let (u, v) = parts c d t in
    let e₀ = eqb→eq (body_offset s 0) 12 p in
    let e₁ = eqb→eq (body_offset s 1) (body_offset s 0 + body_length s 0) r in
    let e₂ = eqb→eq (body_offset s 2) (body_offset s 1 + body_length s 1) u in
    let e₃ = eqb→eq (length s) (body_offset s 2 + body_length s 2) v in
    let n₀ : body_length s 0 ≡ body_offset s 1 - 12 = omega arith in
    let n₁ : body_length s 1 ≡ body_offset s 2 - body_offset s 1 = omega arith in
    let n₂ : body_length s 2 ≡ length s - body_offset s 2 = omega arith in
    record {
      first = e₀;
      after_contents = omega arith;
      after-alphabet = omega arith;
      after-rules = omega arith;
      terminals = omega (arith, length-take (body_length s 0) (drop (body_offset s 0) s), length-drop (body_offset s 0) s);
      alphabet = rw (e₀, n₀);
      rules = rw n₁;
      automaton = rw n₂;
    }
