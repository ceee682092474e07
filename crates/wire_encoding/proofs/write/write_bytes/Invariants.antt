-- The loop's invariant: what is left of the run, written to the bytes as they are now, gives what is wanted.
use lib.Seq.{sets}
use Rattle.wire_encoding.proofs.Writes.{RunLeft}
use Rattle.wire_encoding.proofs.write.write_bytes.Given as goal

abbrev pub invariant-loop-i : goal.invariant-loop-i
invariant-loop-i l = RunLeft l.src (sets l.initial.dst l.at l.src) l.initial.dst l.dst l.at l.i
