-- Which packets are accepted (request 2026-14), by their bytes: "version 0, factor at least 9, a path that is empty, opaque or accepted by
-- 01's path order, common header, addresses and path together filling 4 × factor bytes, followed by at least the payload".
use Rattle.std.specs.Prelude.{ℕ, ◌+◌, ◌*◌, ◌≤◌, ◌≡◌, ◌↔◌, true, List, length, IsOk}
use Rattle.wire_encoding.specs.BigEndian.{big_endian, part}
use Rattle.path_meta_header.specs.MetaHeader.{meta_of, path_length, lengths_valid, info_valid, hop_valid}
use Rattle.path_meta_header.specs.declared.PathMetaHeader.{PathMetaHeader}
use Rattle.path.specs.Standard.{read_path}
use Rattle.packet_common_header.specs.CommonHeader.{common_at, version_of, factor_of}
use Rattle.packet_address_header.specs.AddressHeader.{length_of_kinds}
use Rattle.packet.specs.Raw.{packet_answer}
use Rattle.packet.specs.Captures.{Reader}

-- THE PATH

-- the meta header that the first four bytes of a path spell
abbrev pub meta_in : List ℕ → PathMetaHeader
meta_in path = meta_of (big_endian 4 path 0)

-- 01's path order: lengths, info pointer, hop pointer, and no fewer bytes than header and fields take, the header's four among them
pub record PathOrder (path : List ℕ) : Type 0 where
  pub lengths : lengths_valid (meta_in path) ≡ true
  pub info_pointer : info_valid (meta_in path) ≡ true
  pub hop_pointer : hop_valid (meta_in path) ≡ true
  pub enough : path_length (meta_in path) ≤ length path

-- a theorem: that is what the reader of paths accepts
abbrev pub PathsAcceptedExactly : Type 0
PathsAcceptedExactly = (path : List ℕ) → IsOk (read_path path) ↔ PathOrder path

-- a path of this type that is all of these bytes: none of them is left over
pub data PathOf (type : ℕ) (path : List ℕ) : Type 0 where
  empty : type ≡ 0 → length path ≡ 0 → PathOf type path
  standard : type ≡ 1 → PathOrder path → path_length (meta_in path) ≡ length path → PathOf type path
  opaque : 2 ≤ type → PathOf type path

-- THE PACKET

-- how many bytes the addresses take: two network numbers, and two hosts of the kinds that the common header says
abbrev pub addresses_length : List ℕ → ℕ
addresses_length bytes = length_of_kinds (common_at bytes).destination_kind (common_at bytes).source_kind

-- the request's words, one a line; the common header has 12 bytes
pub record Acceptable (bytes : List ℕ) : Type 0 where
  pub version : version_of bytes ≡ 0
  pub factor : 9 ≤ factor_of bytes
  pub path_length : ℕ
  pub path : PathOf (common_at bytes).path_type (part (12 + addresses_length bytes) path_length bytes)
  pub filled : 12 + addresses_length bytes + path_length ≡ 4 * factor_of bytes
  pub payload : 4 * factor_of bytes + (common_at bytes).payload_length ≤ length bytes

-- a theorem of the reader of packets
abbrev pub AcceptedExactly : Reader → Type 0
AcceptedExactly read = (bytes : List ℕ) → IsOk (packet_answer (read bytes)) ↔ Acceptable bytes
