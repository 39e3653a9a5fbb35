-- The same mask follows from what the calls answer and leave.
use mathlib.Core.Path.{ap, ◌∙◌}
use mathlib.Core.List.{List}
use Prim.Native.Nat.{ℕ}
use lib.ListN.{length}
use Rattle.terms.specs.Sheet.{sheet_mask}
use Rattle.terms.specs.Answer.{answer}
use Rattle.blackboard_terms.proofs.Sheet.{long_enough}
use Rattle.certificate.specs.Certify.{Slices, Certified}
use Rattle.two_methods.specs.Methods.{BothCalled, SameMask}
use Rattle.two_methods.specs.declared.BothAnswers.{BothAnswers}

module _ (sheet : List ℕ) (r : BothAnswers) (table form : List ℕ) (lent : Slices) (table' form' : List ℕ) (left : Slices) where
  pub same-mask : BothCalled sheet r table form lent table' form' left → Certified sheet r.certified form lent form' left
      → BothCalled sheet r table form lent table' form' left × SameMask sheet r table form lent form' left
  same-mask called demand = (
    called,
    λ passes long room.
        (called.tabled ∙ ap (λ (n : ℕ). answer n (sheet_mask sheet)) (long_enough sheet passes (length table) long), demand passes room),
  )
