-- `text::input::fill` meets its contract: what comes lies in the room. Each read that does not end the loop leaves less of it.
use Rattle.std.proofs.Common.{◌-◌, ◌≤◌, length}
use Rattle.text.proofs.input.fill.Given as goal

abbrev pub invariant-loop-done : goal.invariant-loop-done
invariant-loop-done g l = l.done ≤ length l.room

abbrev pub decreases-loop-done : goal.decreases-loop-done
decreases-loop-done g l = length l.room - l.done
