-- A set of eight states spread over eight lanes of eight bits: bit i to bit 8 * i (document 01, "Mask from the form").
use Rattle.std.specs.Prelude.{◌&&◌, ℕ, ◌/◌, ◌%◌, eqb}
use Rattle.terms.specs.Automaton.{has, set_of}

-- bit 8 * i where s has bit i, and no other bit (01 Mask from the form)
unfoldable pub spread : ℕ → ℕ
spread s = set_of 64 (λ b. has s (b / 8) && eqb (b % 8) 0)
