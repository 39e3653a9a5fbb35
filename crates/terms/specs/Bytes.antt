-- Numbers of two bytes, the low byte first (document 01).
use Rattle.std.specs.Prelude.{List, [], ◌∷◌, ℕ, ◌+◌, ◌*◌, ◌/◌, ◌%◌, get_or}

-- the two-byte number at a place of a list of bytes (01 head)
unfoldable pub word : List ℕ → ℕ → ℕ
word bytes i = get_or bytes i 0 + 256 * get_or bytes (i + 1) 0

-- the two bytes of a number (01 head)
abbrev pub word_bytes : ℕ → List ℕ
word_bytes n = n % 256 ∷ n / 256 % 256 ∷ []
