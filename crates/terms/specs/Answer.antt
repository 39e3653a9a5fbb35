-- What a call answers (document 01, "The form each place takes": for each case of an answer, its number and its values).
use Rattle.std.specs.Prelude.{ℕ, zero, suc, Result, Ok, Err}
use Rattle.terms.specs.declared.refusals.Refusal.{Refusal}
use Rattle.terms.specs.declared.refusals.Refusal.TheVariants as refusals

-- refused with a number, or answered with a value (01 Refusals)
pub data Answer (A : Type 0) : Type 0 where
  refused : ℕ → Answer A
  answered : A → Answer A

-- the answer of a call: its refusal, or a value where that is 0 (01 Refusals)
abbrev pub answer : {A : Type 0} → ℕ → A → Answer A
answer zero value = answered value
answer (suc n) value = refused (suc n)

-- the number of a refusal (01 Refusals, 02)
abbrev pub number_of : Refusal → ℕ
number_of refusals.SheetLength = 1
number_of refusals.Contents = 2
number_of refusals.TerminalCount = 3
number_of refusals.TerminalRank = 4
number_of refusals.RulesEnd = 5
number_of refusals.RuleCount = 6
number_of refusals.NodeCount = 7
number_of refusals.RuleRank = 8
number_of refusals.NodeName = 9
number_of refusals.RightSide = 10
number_of refusals.Parameter = 11
number_of refusals.StartRank = 13
number_of refusals.AutomatonLength = 14
number_of refusals.States = 15
number_of refusals.Transition = 16
number_of refusals.FormShort = 17
number_of refusals.Form = 18
number_of refusals.WorkShort = 19
number_of refusals.TreeShort = 20
number_of refusals.NoPlace = 21
number_of refusals.TreeLong = 22
number_of refusals.Tree = 23
number_of refusals.SheetShort = 24
number_of refusals.TallyFull = 25
number_of refusals.Candidate = 26
number_of refusals.DrawnRules = 27
number_of refusals.OtherAlphabet = 28
number_of refusals.NewTransition = 29

-- the number of what a call or a check refuses, 0 where it refuses nothing (01 Refusals)
abbrev pub refusal_of : {A : Type 0} → Result A Refusal → ℕ
refusal_of (Ok value) = 0
refusal_of (Err refusal) = number_of refusal

-- what a call answers: its value, or the number of its refusal (01 Refusals)
abbrev pub answer_of : {A : Type 0} → Result A Refusal → Answer A
answer_of (Ok value) = answered value
answer_of (Err refusal) = refused (number_of refusal)
