use Rattle.std.proofs.Common.{◌≡◌, ◌+◌, ◌-◌, arith}
use Rattle.practice_rules.proofs.Reached.{Done, done_most, reached_first, reached_more, done_last}
use Rattle.practice_rules.proofs.rules.write_rules.Goals.{else-loop-i-test, then-loop-i-test+else-i-m}
use Rattle.practice_rules.proofs.rules.write_rules.Goals as goal

pub loop-i-init : goal.loop-i-init
loop-i-init c = record { in_range = omega arith; reached = reached_first c.args.first _ c.args.rules.now c.copy_at.ensures }

pub write_drawn-end-requires : goal.write_drawn-end-requires
write_drawn-end-requires c = (omega arith, omega arith, omega (arith, done_most c.loop-i.invariant.reached.done))

pub loop-i-preserved : goal.loop-i-preserved
loop-i-preserved c =
    let same : c.loop-i.i + 1 - 1 ≡ c.loop-i.i = omega arith in
    let reached = c.loop-i.invariant.reached in
    record { in_range = omega arith; reached = rw same (reached_more c.args.first c.loop-i.i (omega arith) reached (omega (arith, done_most reached.done)) c.write_drawn-end.ensures) }

pub copy_at-requires-2 : goal.copy_at-requires-2
copy_at-requires-2 c =
    let reached = c.loop-i.invariant.reached in
    elim c.loop-i-test.branch [
      | else-loop-i-test w ↦ omega (arith, done_most reached.done, w.end-is)
      | then-loop-i-test+else-i-m w ↦ omega (arith, done_most (reached_more c.args.first c.loop-i.i (omega arith) reached (omega (arith, done_most reached.done)) w.write_drawn-end.ensures).done, w.end-is)
    ]

pub returns : goal.returns
returns c =
    let reached = c.loop-i.invariant.reached in
    let m = c.args.m in
    let done : Done c.args.first m c.loop-i-test.end c.loop-i-test.rules = elim c.loop-i-test.branch [
      | else-loop-i-test w ↦ let all : c.loop-i.i - 1 ≡ m = omega arith in rw (w.end-is, w.rules-is) (rw all at reached.done)
      | then-loop-i-test+else-i-m w ↦
          let all : c.loop-i.i ≡ m = omega arith in
          rw (w.end-is, w.rules-is) (rw all at (reached_more c.args.first c.loop-i.i (omega arith) reached (omega (arith, done_most reached.done)) w.write_drawn-end.ensures).done)
    ] in
    done_last c.args.first m done (omega (arith, done_most done)) c.copy_at-2.ensures
