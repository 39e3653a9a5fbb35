-- The identity among the relations, and what is claimed of it (document 02, R-4).
use Rattle.std.specs.Prelude.{◌≡◌, ℕ, ◌^◌, ◌<◌}
use Rattle.terms.specs.Relation.{compose_bits}

-- each state goes to itself alone (02 R-4)
abbrev pub identity : ℕ
identity = 0x8040_2010_0804_0201

-- any relation around the identity is that relation (02 R-4)
abbrev pub AroundIdentity : Type 0
AroundIdentity = (r : ℕ) → r < 2 ^ 64 → compose_bits r identity ≡ r
