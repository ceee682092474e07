-- `steps` meets its contract: the bytes are those of so many single moves, each of which leaves a path that can be moved.
use Rattle.wire_encoding.proofs.Lists.{Bytes}
use Rattle.path_moves.proofs.Walks.{Walking}
use Rattle.path_moves.proofs.steps.Given as goal

abbrev pub invariant-loop : goal.invariant-loop
invariant-loop l = Walking l.initial.bytes l.initial.meta_header l.bytes l.meta_header l.counter × Bytes l.bytes
