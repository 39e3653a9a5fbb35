-- What is claimed of how much form making and marking ask for (document 02, R-6).
use Rattle.std.specs.Prelude.{◌≡◌, List, ℕ, ◌≤◌, ◌<◌}
use Rattle.terms.specs.Calls.{rules_asked, most_asked, form_asked, making_refusal, sheet_marking_refusal}

-- a sheet that passes: with as much as is asked, or more, nothing is refused; with fewer bytes 17 is given, and with fewer numbers 19, whatever the form that
-- is made; and no sheet asks for more than the most (02 R-6)
pub record JustEnough (sheet : List ℕ) : Type 0 where
  pub makes : (bytes : ℕ) → form_asked sheet ≤ bytes → making_refusal sheet bytes ≡ 0
  pub marks : (bytes numbers : ℕ) → form_asked sheet ≤ bytes → rules_asked sheet ≤ numbers → sheet_marking_refusal sheet bytes numbers ≡ 0
  pub short_making : (bytes : ℕ) → bytes < form_asked sheet → making_refusal sheet bytes ≡ 17
  pub short-marking : (bytes numbers : ℕ) → bytes < form_asked sheet → sheet_marking_refusal sheet bytes numbers ≡ 17
  pub few-numbers : (bytes numbers : ℕ) → form_asked sheet ≤ bytes → numbers < rules_asked sheet → sheet_marking_refusal sheet bytes numbers ≡ 19
  pub most : rules_asked sheet ≤ most_asked
