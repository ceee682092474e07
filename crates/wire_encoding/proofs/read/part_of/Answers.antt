-- `part_of` meets its contract: beyond the end there is nothing to take, and a part that lies among the bytes is as long as it says.
use Prim.Native.Nat.{◌-◌}
use lib.ListN.{length, drop, length-drop, drop_of_length-le}
use lib.Seq.{take_all, take-nil}
use native.Mathlib.Omega.{arith}
use native.Mathlib.Nat.{add-sub_cancel_left}
use Rattle.wire_encoding.proofs.read.part_of.Goals as goal

pub returns-then-bytes-start : goal.returns-then-bytes-start
returns-then-bytes-start c =
    let a = c.args in
    rw (drop_of_length-le a.bytes.now {i = a.start} (omega (arith, c.if-bytes-start.true)), take-nil a.len)

pub returns-then-bytes-start-2 : goal.returns-then-bytes-start-2
returns-then-bytes-start-2 c =
    let a = c.args in
    let rest = drop a.start a.bytes.now in
    let size = length-drop a.start a.bytes.now in
    rw (take_all (length a.bytes.now - a.start) rest (omega (arith, size)), take_all a.len rest (omega (arith, size, c.if-bytes-start-2.true)))

pub returns : goal.returns
returns c = rw add-sub_cancel_left
