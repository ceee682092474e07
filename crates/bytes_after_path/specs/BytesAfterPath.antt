-- Bytes after a path: a standard path is as long as its meta header says, so other bytes may stand after it in the caller's slice. They
-- are no part of it: what is read of the path does not hang on them, and a call that changes the path leaves them as they are.
use Rattle.std.specs.Prelude.{ℕ, ◌<◌, ◌≡◌, Bool, List, ◌++◌, get_or, Ok}
use Rattle.wire_encoding.specs.Result.{mapped}
use Rattle.path_meta_header.specs.declared.PathMetaHeader.{PathMetaHeader}
use Rattle.path.specs.declared.standard.Part.{Part}
use Rattle.path.specs.Standard.{read_path}
use Rattle.path.specs.Dataplane.{read_dataplane, info_field_in, hop_field_in, segment_in, Among, part_in, written_answer, alerted}
use Rattle.path_hop_fields.specs.PathRuns.{hop_fields_in}
use Rattle.path_expiry.specs.Expiry.{segment_expiry_in, expiry_in, time_left_in}
use Rattle.path_interfaces.specs.Interfaces.{interfaces_in, interface_in}
use Rattle.path_reverse.specs.Copy.{copy}
use Rattle.path_reverse.specs.Reverse.{reverse}
use Rattle.path_moves.specs.Moves.{Way, move, moved, walk, walked, walk_answer}

-- bytes, and the way that was walked, with t behind
abbrev pub before : List ℕ → List ℕ → List ℕ
before t after = after ++ t

abbrev pub way_before : List ℕ → Way → Way
way_before t w = record { bytes = w.bytes ++ t; moves = w.moves; arrived = w.arrived }

-- what is read of p ++ t is what is read of p
pub record ReadAlike (p t : List ℕ) : Type 0 where
  pub reading : read_dataplane 1 (p ++ t) ≡ read_dataplane 1 p
  pub info_field : (k : ℕ) → info_field_in 1 (p ++ t) k ≡ info_field_in 1 p k
  pub hop_field : (j : ℕ) → hop_field_in 1 (p ++ t) j ≡ hop_field_in 1 p j
  pub segment : (k : ℕ) → segment_in 1 (p ++ t) k ≡ segment_in 1 p k
  pub hop_fields : hop_fields_in 1 (p ++ t) ≡ hop_fields_in 1 p
  pub part : (v : Part) → Among p v → part_in (p ++ t) v ≡ part_in p v
  pub segment_expiry : (k : ℕ) → segment_expiry_in 1 (p ++ t) k ≡ segment_expiry_in 1 p k
  pub expiry : expiry_in 1 (p ++ t) ≡ expiry_in 1 p
  pub time_left : (now : ℕ) → time_left_in 1 (p ++ t) now ≡ time_left_in 1 p now
  pub interfaces : interfaces_in 1 (p ++ t) ≡ interfaces_in 1 p
  pub interface : (i : ℕ) → interface_in 1 (p ++ t) i ≡ interface_in 1 p i

-- p ++ t is copied and reversed as p is, whatever the destination
pub record WrittenAlike (p t : List ℕ) : Type 0 where
  pub copied : (dst : List ℕ) → copy 1 (p ++ t) dst ≡ copy 1 p dst
  pub reversed : (dst : List ℕ) → reverse 1 (p ++ t) dst ≡ reverse 1 p dst

-- p ++ t is changed as p is, and t stays behind it; the record that is handed back is the same
pub record ChangedAlike (p t : List ℕ) : Type 0 where
  pub alert : (bit : ℕ) (on : Bool) (j : ℕ) → alerted bit on 1 (p ++ t) j ≡ mapped (before t) (alerted bit on 1 p j)
  pub one_move : move 1 (p ++ t) ≡ mapped (before t) (move 1 p)
  pub moves : (limit : ℕ) → walk 1 (p ++ t) limit ≡ mapped (way_before t) (walk 1 p limit)
  pub after_move : moved 1 (p ++ t) ≡ moved 1 p ++ t
  pub after_walk : (limit : ℕ) → walked 1 (p ++ t) limit ≡ walked 1 p limit ++ t
  pub alert_record : (bit : ℕ) (on : Bool) (j : ℕ) → written_answer 1 (alerted bit on 1 (p ++ t) j) ≡ written_answer 1 (alerted bit on 1 p j)
  pub move_record : written_answer 1 (move 1 (p ++ t)) ≡ written_answer 1 (move 1 p)
  pub walk_record : (limit : ℕ) → walk_answer 1 (walk 1 (p ++ t) limit) ≡ walk_answer 1 (walk 1 p limit)

-- for every path p of bytes that is read, and any t
abbrev pub BytesAfterPath : Type 0
BytesAfterPath =
    (p t : List ℕ) (m : PathMetaHeader) → ((i : ℕ) → get_or p i 0 < 256) → read_path p ≡ Ok m
    → ReadAlike p t × WrittenAlike p t × ChangedAlike p t
