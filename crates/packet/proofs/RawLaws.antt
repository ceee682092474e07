-- What each stage of a packet's reading hands on, what is known of a packet that was read, and where its parts lie.
-- Assumes nothing.
use mathlib.Core.Path.{◌≡◌, refl, sym, ap, subst, ◌∙◌}
use mathlib.Core.Bool.{Bool, true, false, cond}
use mathlib.Core.List.{List}
use Prim.Native.Nat.{ℕ, ◌+◌, ◌-◌, ◌/◌, ◌%◌, ◌≤◌, ◌<◌, min}
use native.Mathlib.Omega.{arith}
use lib.ListN.{length, get_or, take, drop, length-drop, drop_of_length-le}
use lib.Seq.{take-add, take_all, take-length, drop-length, drop_at, length-take-le}
use lib.Dec.{ltb, leb, eqb}
use borrow.Author.Tests.{lt-leb, le-leb, leb-true, leb-false, eq-eqb, ne_eqb, eqb-true}
use Rattle.std.specs.Prelude.{Result, Ok, Err}
use Rattle.wire_encoding.specs.BigEndian.{part}
use Rattle.wire_encoding.proofs.Result.{same_value, held, stepped, mapped_ok, mapped_refused}
use Rattle.wire_encoding.proofs.Lists.{length_part}
use Rattle.errors.specs.declared.packet_error.DecodeError.{DecodeError}
use Rattle.errors.specs.declared.packet_error.DecodeError.TheVariants.{PacketEmptyOrTruncated, InconsistentPathLength}
use Rattle.path.specs.declared.dataplane.Extent.{Extent}
use Rattle.path.specs.Dataplane.{read_dataplane, part_in}
use Rattle.path.specs.declared.standard.StandardPath.{StandardPath}
use Rattle.packet_common_header.specs.CommonHeader.{common_at, factor_of, read_common, header_length}
use Rattle.packet_common_header.specs.declared.CommonHeader.{CommonHeader}
use Rattle.packet_common_header.proofs.CommonHeaderLaws.{common_known}
use Rattle.packet_address_header.specs.AddressHeader.{address_length, length_of_kinds, read_address, address_answer}
use Rattle.packet_address_header.specs.declared.AddressHeader.{AddressHeader}
use Rattle.packet_address_header.specs.declared.AddressHeaderRead.{AddressHeaderRead}
use Rattle.packet_address_header.proofs.AddressHeaderLaws.{address_known, address_length_lem}
use Rattle.packet.specs.Raw.{Packet, read_rest, is_short, read_packet, read_capture, reader_of, path_part, payload_part, raw_packet, packet_answer, capture_answer}
use Rattle.packet.specs.declared.raw.ScionPacketRaw.{ScionPacketRaw}

-- A PACKET OR A CAPTURE, STAGE BY STAGE

-- refused with the common header
pub first_refused : (capture : Bool) (bytes : List ℕ) {error : DecodeError} → read_common bytes ≡ Err error
    → reader_of capture bytes ≡ Err error
unfolding read_packet read_capture
first_refused true bytes common = rw common
first_refused false bytes common = rw common

-- refused for being short, a packet alone
pub then_short : (capture : Bool) (bytes : List ℕ) {c : CommonHeader} → read_common bytes ≡ Ok c
    → cond capture false (ltb (length bytes) (header_length c)) ≡ true
    → reader_of capture bytes ≡ Err PacketEmptyOrTruncated
unfolding read_packet is_short
then_short true bytes common short = let z : ◌≡◌ {A = ℕ} 0 1 = cc in absurd (omega arith)
then_short false bytes common short = rw (common, short)

-- read on
pub then_rest : (capture : Bool) (bytes : List ℕ) {c : CommonHeader} → read_common bytes ≡ Ok c
    → cond capture false (ltb (length bytes) (header_length c)) ≡ false
    → reader_of capture bytes ≡ read_rest c bytes
unfolding read_packet read_capture is_short
then_rest true bytes common long = rw common
then_rest false bytes common long = rw (common, long)

pub ruleset splits = (first_refused, then_short, then_rest)

-- WHAT A STAGE SEES

-- the bytes up to an end that is where they end, or before it; and those after it
clipped : (m end : ℕ) (l : List ℕ) → end ≡ min m (length l) → (take end l ≡ take m l) × (drop end l ≡ drop m l)
clipped m end l ends = go (leb m (length l)) refl
  where
    go : (t : Bool) → leb m (length l) ≡ t → (take end l ≡ take m l) × (drop end l ≡ drop m l)
    go true e =
        let same : end ≡ m = omega (arith, leb-true m (length l) e) in
        (ap (λ (n : ℕ). take n l) same, ap (λ (n : ℕ). drop n l) same)
    go false e =
        let all : end ≡ length l = omega (arith, leb-false m (length l) e) in
        let few : length l ≤ m = omega (arith, leb-false m (length l) e) in (
          ap (λ (n : ℕ). take n l) all ∙ take-length l ∙ sym (take_all m l few),
          ap (λ (n : ℕ). drop n l) all ∙ drop-length l ∙ sym (drop_of_length-le l {i = m} few),
        )

seen : (k m end : ℕ) (l : List ℕ) → end ≡ min m (length l) → k ≤ end → part k (end - k) l ≡ drop k (take m l)
seen k m end l ends inside =
    let sum : k + (end - k) ≡ end = omega arith in
    sym (drop_at (take k l) (part k (end - k) l) k (length-take-le k l (omega arith)))
    ∙ ap (drop k) (sym (take-add k (end - k) l) ∙ ap (λ (n : ℕ). take n l) sum ∙ (clipped m end l ends).0)

-- a common header that was read, and where the headers end
pub record CommonFound (bytes : List ℕ) (c : CommonHeader) (end : ℕ) : Type 0 where
  pub common : read_common bytes ≡ Ok c
  pub ends : end ≡ min (header_length c) (length bytes)

module _ {bytes : List ℕ} {c : CommonHeader} {end : ℕ} (f : CommonFound bytes c end) where
  -- they end inside the packet, and not before the common header does
  pub end_inside : (12 ≤ end) × (end ≤ length bytes)
  unfolding common_at header_length
  end_inside =
      let k = common_known bytes f.common in
      let factor : c.header_length_factor ≡ factor_of bytes = ap (λ (x : CommonHeader). x.header_length_factor) k.fields in
      (omega (arith, k.long, k.factor, f.ends), omega (arith, f.ends))

  -- the kinds of the hosts are the halves of byte 9
  kinds_read : (get_or bytes 9 0 / 16 ≡ c.destination_kind) × (get_or bytes 9 0 % 16 ≡ c.source_kind)
  unfolding common_at
  kinds_read = let fields = (common_known bytes f.common).fields in rw fields (refl, refl)

  -- what is seen of them from k on
  pub sees : (k : ℕ) → k ≤ end → part k (end - k) bytes ≡ drop k (take (header_length c) bytes)
  sees k inside = seen k (header_length c) end bytes f.ends inside

  length_seen : (k : ℕ) → k ≤ end → length (drop k (take (header_length c) bytes)) ≡ end - k
  length_seen k inside = ap length (sym (sees k inside)) ∙ length_part k (end - k) bytes (omega (arith, end_inside))

-- an address header that was read after it, and where the path starts
pub record AddressFound (bytes : List ℕ) (c : CommonHeader) (end : ℕ) (a : AddressHeader) (start : ℕ) : Type 0 where
  pub first : CommonFound bytes c end
  pub address : read_address (drop 12 (take (header_length c) bytes)) c.destination_kind c.source_kind ≡ Ok a
  pub starts : start ≡ 12 + address_length a

module _ {bytes : List ℕ} {c : CommonHeader} {end : ℕ} {a : AddressHeader} {start : ℕ} (f : AddressFound bytes c end a start) where
  -- the path starts inside the headers
  pub start_inside : start ≤ end
  start_inside =
      let known = address_known _ c.destination_kind c.source_kind f.address in
      let long : address_length a ≡ length_of_kinds c.destination_kind c.source_kind =
      ap address_length known.header ∙ address_length_lem _ c.destination_kind c.source_kind in
      omega (arith, f.starts, known.inside, long, end_inside f.first, length_seen f.first 12 (end_inside f.first).0)

  sees_path : part start (end - start) bytes ≡ drop (12 + address_length a) (take (header_length c) bytes)
  sees_path = sees f.first start start_inside ∙ ap (λ (k : ℕ). drop k (take (header_length c) bytes)) f.starts

  length-path : length (drop (12 + address_length a) (take (header_length c) bytes)) ≡ end - start
  length-path = ap length (sym sees_path) ∙ length_part start (end - start) bytes (omega (arith, start_inside, end_inside f.first))

  length_rest : length (drop (header_length c) bytes) ≡ length bytes - end
  length_rest = length-drop (header_length c) bytes ∙ omega (arith, f.first.ends)

-- WHAT IS HANDED BACK OF A PACKET, STAGE BY STAGE

-- the address header as a call sees it: up to where the headers end, with byte 9 for the kinds
abbrev address_seen : List ℕ → ℕ → Result AddressHeader DecodeError
address_seen bytes end = read_address (part 12 (end - 12) bytes) (get_or bytes 9 0 / 16) (get_or bytes 9 0 % 16)

-- the path as a call sees it
abbrev path_seen : List ℕ → ℕ → ℕ → ℕ → Result Extent DecodeError
path_seen bytes end type start = read_dataplane type (part start (end - start) bytes)

module _ (bytes : List ℕ) {c : CommonHeader} {end : ℕ} (common : read_common bytes ≡ Ok c) (ends : end ≡ min (header_length c) (length bytes)) where
  -- the common header was read, and the headers end at `end`
  first : CommonFound bytes c end
  first = record { common = common; ends = ends }

  pub reaches : (12 ≤ end) × (end ≤ length bytes)
  reaches = end_inside first

  -- what is seen there is what the definition reads
  same_address : address_seen bytes end ≡ read_address (drop 12 (take (header_length c) bytes)) c.destination_kind c.source_kind
  same_address = rw (sees first 12 (end_inside first).0, (kinds_read first).0, (kinds_read first).1) refl

  -- an address header that is refused
  pub address_stops : {error : DecodeError} → address_answer (address_seen bytes end) ≡ Err error
      → packet_answer (read_rest c bytes) ≡ Err error
  unfolding read_rest
  address_stops h = let stopped = sym same_address ∙ mapped_refused _ (address_seen bytes end) h in rw stopped

  module _ {x : AddressHeaderRead} (address : address_answer (address_seen bytes end) ≡ Ok x) where
    -- one that is read
    second : AddressFound bytes c end x.header (12 + x.length)
    second =
        let read = mapped_ok _ (address_seen bytes end) address in
        subst (λ (y : AddressHeaderRead). AddressFound bytes c end y.header (12 + y.length)) (same_value read.then)
        (record { first = first; address = sym same_address ∙ read.first; starts = refl })

    pub starts_inside : 12 + x.length ≤ end
    starts_inside = start_inside second

    same_path : path_seen bytes end c.path_type (12 + x.length)
        ≡ read_dataplane c.path_type (drop (12 + address_length x.header) (take (header_length c) bytes))
    same_path = ap (read_dataplane c.path_type) (sees_path second)

    -- a path that is refused
    pub path_stops : {error : DecodeError} → path_seen bytes end c.path_type (12 + x.length) ≡ Err error
        → packet_answer (read_rest c bytes) ≡ Err error
    unfolding read_rest
    path_stops h = let stopped = sym same_path ∙ h in rw (second.address, stopped)

    module _ {read : Extent} (path : path_seen bytes end c.path_type (12 + x.length) ≡ Ok read) where
      third : read_dataplane c.path_type (drop (12 + address_length x.header) (take (header_length c) bytes)) ≡ Ok read
      third = sym same_path ∙ path

      -- bytes are left of the headers, or they are too few
      pub left_over : (read.length ≡ end - (12 + x.length) → ⊥) → packet_answer (read_rest c bytes) ≡ Err InconsistentPathLength
      unfolding read_rest
      left_over other = rw (second.address, third, ne_eqb _ _ (λ same. other (same ∙ length-path second)))

      module _ (whole : read.length ≡ end - (12 + x.length)) where
        fills : length (drop (12 + address_length x.header) (take (header_length c) bytes)) ≡ read.length
        fills = length-path second ∙ sym whole

        -- the path fills the headers, and the payload is cut
        pub payload_short : length bytes - end < c.payload_length → packet_answer (read_rest c bytes) ≡ Err PacketEmptyOrTruncated
        unfolding read_rest
        payload_short few =
            let short : length (drop (header_length c) bytes) < c.payload_length = rw (length_rest second) few in
            rw (second.address, third, eq-eqb _ _ (sym fills), lt-leb _ _ short)

        -- the path fills the headers, and the payload is there
        pub all_there : c.payload_length ≤ length bytes - end
            → packet_answer (read_rest c bytes)
            ≡ Ok (record {
              common = c;
              address = x.header;
              path = read.path;
              path_part = record { start = 12 + x.length; len = read.length };
              payload_part = record { start = end; len = c.payload_length };
            })
        unfolding read_rest raw_packet path_part payload_part
        all_there room =
            let fits : c.payload_length ≤ length (drop (header_length c) bytes) = rw (length_rest second) room in
            let sum : 12 + x.length + read.length ≡ end = omega (arith, starts_inside, whole) in
            rw (
              second.address,
              third,
              eq-eqb _ _ (sym fills),
              le-leb _ _ fits,
              fills,
              length-take-le c.payload_length (drop (header_length c) bytes) fits,
              ← second.starts,
              sum,
            )

pub ruleset stages = (reaches, address_stops, starts_inside, path_stops, left_over, payload_short, all_there)

-- a capture: what is handed back beside its packet
module _ (bytes : List ℕ) where
  pub capture_handed : {packet : ScionPacketRaw} → packet_answer (read_capture bytes) ≡ Ok packet
      → capture_answer bytes ≡ Ok (record { packet = packet; short = ltb (length bytes) (header_length packet.common) })
  unfolding capture_answer raw_packet is_short
  capture_handed h =
      let read = mapped_ok raw_packet (read_capture bytes) h in
      rw read.first
      (ap (λ (x : ScionPacketRaw). Ok (record { packet = x; short = ltb (length bytes) (header_length x.common) })) (same_value read.then))

  pub capture_stops : {error : DecodeError} → packet_answer (read_capture bytes) ≡ Err error → capture_answer bytes ≡ Err error
  unfolding capture_answer
  capture_stops h = rw (mapped_refused raw_packet (read_capture bytes) h) refl

pub ruleset captured = (capture_handed, capture_stops)

-- A PACKET OR CAPTURE THAT WAS READ

pub record Split (bytes : List ℕ) (p : Packet) : Type 0 where
  pub read : Extent
  pub common : read_common bytes ≡ Ok p.common
  pub address :
      read_address (drop 12 (take (header_length p.common) bytes)) p.common.destination_kind p.common.source_kind ≡ Ok p.address
  pub path : read_dataplane p.common.path_type p.path_bytes ≡ Ok read
  pub path_is : p.path_bytes ≡ drop (12 + address_length p.address) (take (header_length p.common) bytes)
  pub whole : read.length ≡ length p.path_bytes
  pub room : p.common.payload_length ≤ length (drop (header_length p.common) bytes)
  pub payload_is : p.payload ≡ take p.common.payload_length (drop (header_length p.common) bytes)

split_rest : (bytes : List ℕ) {c : CommonHeader} {p : Packet} → read_common bytes ≡ Ok c → read_rest c bytes ≡ Ok p → Split bytes p
unfolding read_rest
split_rest bytes {c = c} common h =
    let headers = take (header_length c) bytes in
    let address = stepped (read_address (drop 12 headers) c.destination_kind c.source_kind) _ h in
    let own = drop (12 + address_length address.value) headers in
    let path = stepped (read_dataplane c.path_type own) _ address.then in
    let whole = held (eqb path.value.length (length own)) _ _ path.then in
    let room = held (leb c.payload_length (length (drop (header_length c) bytes))) _ _ whole.1 in
    subst (λ (q : Packet). Split bytes q) (same_value room.1)
    (record {
      read = path.value;
      common = common;
      address = address.first;
      path = path.first;
      path_is = refl;
      whole = eqb-true _ _ whole.0;
      room = leb-true _ _ room.0;
      payload_is = refl;
    })

pub split : (bytes : List ℕ) {p : Packet} → read_capture bytes ≡ Ok p → Split bytes p
unfolding read_capture
split bytes h = let common = stepped (read_common bytes) _ h in split_rest bytes common.first common.then

-- the other way round: a capture whose stages all accept is read
pub capture_accepted : (bytes headers rest path payload : List ℕ) (c : CommonHeader) (a : AddressHeader) (stored : StandardPath)
    → read_common bytes ≡ Ok c
    → take (header_length c) bytes ≡ headers
    → drop (header_length c) bytes ≡ rest
    → read_address (drop 12 headers) c.destination_kind c.source_kind ≡ Ok a
    → drop (12 + address_length a) headers ≡ path
    → read_dataplane c.path_type path ≡ Ok (record { path = stored; length = length path })
    → c.payload_length ≤ length rest
    → take c.payload_length rest ≡ payload
    → read_capture bytes ≡ Ok (record { common = c; address = a; path = stored; path_bytes = path; payload = payload })
unfolding read_capture read_rest
capture_accepted bytes headers rest path payload c a stored common taken left address sees accepted room own =
    rw (common, taken, left, address, sees, accepted, eq-eqb (length path) (length path) refl, le-leb _ _ room, own)

-- where its headers end, and where its path starts
module _ {bytes : List ℕ} {p : Packet} (s : Split bytes p) where
  pub where_found : AddressFound bytes p.common (min (header_length p.common) (length bytes)) p.address (12 + address_length p.address)
  where_found = record { first = record { common = s.common; ends = refl }; address = s.address; starts = refl }

  payload_start : 12 + address_length p.address + length p.path_bytes ≡ min (header_length p.common) (length bytes)
  payload_start = omega (arith, start_inside where_found, ap length s.path_is ∙ length-path where_found)

  -- its headers are the first 4 × factor bytes, or all there are
  pub headers_are : take (12 + address_length p.address + length p.path_bytes) bytes ≡ take (header_length p.common) bytes
  headers_are =
      ap (λ (n : ℕ). take n bytes) payload_start
      ∙ (clipped (header_length p.common) (min (header_length p.common) (length bytes)) bytes refl).0

  pub path_lies : part_in bytes (path_part p) ≡ p.path_bytes
  unfolding path_part
  path_lies =
      let size = ap length s.path_is ∙ length-path where_found in
      ap (λ (k : ℕ). part (12 + address_length p.address) k bytes) size ∙ sees_path where_found ∙ sym s.path_is

  pub payload_lies : part_in bytes (payload_part p) ≡ p.payload
  unfolding payload_part
  payload_lies =
      let n : ℕ = p.common.payload_length in
      let m : ℕ = header_length p.common in
      let size : length p.payload ≡ n = ap length s.payload_is ∙ length-take-le n (drop m bytes) s.room in
      rw (payload_start, size) (ap (take n) (clipped m (min m (length bytes)) bytes refl).1 ∙ sym s.payload_is)
