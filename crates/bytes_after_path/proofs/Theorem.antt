-- The theorem: what is read, what is written and what is changed, of a path with bytes after it.
-- Assumes nothing.
use Rattle.path.proofs.Reading.{readable}
use Rattle.wire_encoding.proofs.Lists.{bytes_of_lem}
use Rattle.bytes_after_path.specs.BytesAfterPath.{BytesAfterPath}
use Rattle.bytes_after_path.proofs.Calls.{read_alike, written_alike}
use Rattle.bytes_after_path.proofs.Moves.{changed_alike}

pub bytes_after_path : BytesAfterPath
bytes_after_path p t m small h =
    let r = readable p h in
    (read_alike p t m r, written_alike p t m r, changed_alike p t (bytes_of_lem p small) m r)
