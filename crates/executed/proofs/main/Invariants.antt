use Rattle.std.proofs.Common.{◌≤◌, length}
use Rattle.executed.proofs.main.Given as goal

-- What is held is part of the buffer.
abbrev pub invariant-loop : goal.invariant-loop
invariant-loop l = l.held ≤ length l.input
