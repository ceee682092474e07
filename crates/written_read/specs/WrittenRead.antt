-- Reading what was written gives the values back; writing again what was read gives the bytes back. The definitions are those that
-- the contracts of the packet's split and of the encoder cite. What is said of a reader holds of both, the one of packets and the one
-- of captures (`OfBoth`).
use Rattle.std.specs.Prelude.{ℕ, ◌+◌, ◌*◌, ◌%◌, ◌^◌, ◌≤◌, ◌<◌, ◌≡◌, true, List, [], ◌∷◌, ◌++◌, length, get_or, take, drop, Ok, Err}
use Rattle.wire_encoding.specs.Result.{mapped}
use Rattle.wire_encoding.specs.BigEndian.{part}
use Rattle.errors.specs.declared.packet_error.DecodeError.TheVariants.{PacketEmptyOrTruncated}
use Rattle.address.specs.declared.service.ServiceAddr.{ServiceAddr}
use Rattle.address.specs.declared.host.HostAddr.TheVariants.{Svc}
use Rattle.path.specs.Dataplane.{read_dataplane}
use Rattle.path.specs.declared.standard.StandardPath.{StandardPath}
use Rattle.packet_common_header.specs.CommonHeader.{host_length}
use Rattle.packet_address_header.specs.AddressHeader.{kind_of, service_host, host_at, address_length, zero_address, host_bytes}
use Rattle.packet_address_header.specs.declared.MaybeEncoded.TheVariants.{Decoded}
use Rattle.packet_address_header.specs.declared.HostAddress.{HostAddress}
use Rattle.packet_address_header.specs.declared.AddressHeader.{AddressHeader}
use Rattle.packet.specs.Raw.{Packet, read_packet, payload_part, raw_packet, capture_answer}
use Rattle.packet.specs.Captures.{Reader}
use Rattle.packet_headers.specs.Headers.{added_bytes, added_length, headers_length, new_headers, common_of, header_bytes, write_headers}
use Rattle.packet_headers.specs.declared.ScionHeaders.{ScionHeaders}

-- A PACKET IN ORDER

-- the bytes of a packet that was read: common header, address header, path and payload, one after the other
abbrev pub InOrder : Reader → Type 0
InOrder read =
    (bytes : List ℕ) (p : Packet) → read bytes ≡ Ok p
    → take ((payload_part p).start + (payload_part p).len) bytes
    ≡ take 12 bytes ++ (part 12 (address_length p.address) bytes ++ (p.path_bytes ++ p.payload))

-- READING WHAT WAS WRITTEN

-- what the types of the fields say, as far as it is needed
pub record Typed (h : ScionHeaders) : Type 0 where
  pub traffic_class : h.traffic_class < 256
  pub reserved : h.reserved < 2 ^ 16
  pub destination_ia : h.address.destination_ia.0 < 2 ^ 64
  pub source_ia : h.address.source_ia.0 < 2 ^ 64
  pub destination : length h.address.destination.bytes ≡ 16
  pub source : length h.address.source.bytes ≡ 16

-- a path that is read whole, with its record
abbrev pub ReadWhole : ℕ → List ℕ → StandardPath → Type 0
ReadWhole type path stored = read_dataplane type path ≡ Ok (record { path = stored; length = length path })

-- headers that fill their length: their version is the one that is read, 4 × factor is the length that is written, and the path is
-- read whole. Others aren't read back: a factor that was rounded down leaves the last bytes of the path to the payload, and a larger
-- one takes bytes from it.
pub record Fills (h : ScionHeaders) (path : List ℕ) (stored : StandardPath) : Type 0 where
  pub version : h.version ≡ 0
  pub full : 4 * h.header_length_factor ≡ headers_length h.address h.path_type (length path)
  pub path_read : ReadWhole h.path_type (added_bytes h.path_type path) stored

-- a host as reading hands it back: by its kind, the bytes after its own zero, and so is the padding of any but a service
unfoldable pub host_read : HostAddress → HostAddress
host_read a = host_at (kind_of a.host) (host_bytes a) 0

unfoldable pub address_read : AddressHeader → AddressHeader
address_read a =
    record {
      destination_ia = a.destination_ia;
      source_ia = a.source_ia;
      destination = host_read a.destination;
      source = host_read a.source;
    }

-- the packet that is read: every value, the record of its path, the path's bytes and the payload's
unfoldable pub packet_of : ScionHeaders → List ℕ → StandardPath → List ℕ → Packet
packet_of h path stored payload =
    record {
      common = common_of h;
      address = address_read h.address;
      path = stored;
      path_bytes = added_bytes h.path_type path;
      payload = payload;
    }

-- headers that were written, and a payload of their length, are read back, whatever follows the payload
abbrev pub ReadsBack : Reader → Type 0
ReadsBack read =
    (h : ScionHeaders) (path : List ℕ) (stored : StandardPath) (size : ℕ) (written payload after : List ℕ) → Typed h → Fills h path stored
    → write_headers h path size ≡ Ok written → length payload ≡ h.payload_length
    → read (written ++ (payload ++ after)) ≡ Ok (packet_of h path stored payload)

-- headers whose factor says more bytes than are written, and which announce no payload
pub record SaysMore (h : ScionHeaders) (path : List ℕ) (stored : StandardPath) : Type 0 where
  pub version : h.version ≡ 0
  pub more : headers_length h.address h.path_type (length path) < 4 * h.header_length_factor
  pub path_read : ReadWhole h.path_type (added_bytes h.path_type path) stored
  pub no_payload : h.payload_length ≡ 0

-- where nothing follows them they are refused with 1 as a packet; as a capture they are read back, and it is short
abbrev pub ReadsBackShort : Type 0
ReadsBackShort =
    (h : ScionHeaders) (path : List ℕ) (stored : StandardPath) (size : ℕ) (written : List ℕ) → Typed h → SaysMore h path stored
    → write_headers h path size ≡ Ok written
    → (read_packet written ≡ Err PacketEmptyOrTruncated)
    × (capture_answer written ≡ Ok (record { packet = raw_packet (packet_of h path stored []); short = true }))

-- NEW HEADERS

-- they fill their length exactly where their path adds a multiple of 4 bytes
abbrev pub NewHeadersFull : Type 0
NewHeadersFull =
    (a : AddressHeader) (type n next payload flow : ℕ)
    → let full : Type 0 = 4 * (new_headers a type n next payload flow).header_length_factor ≡ headers_length a type n in
    (added_length type n % 4 ≡ 0 → full) × (full → added_length type n % 4 ≡ 0)

-- those of an empty path, and of a standard path that is read whole, do
abbrev pub NewHeadersFill : Type 0
NewHeadersFill =
    (a : AddressHeader) (type : ℕ) (path : List ℕ) (stored : StandardPath) (next payload flow : ℕ) → type < 2
    → ReadWhole type (added_bytes type path) stored → Fills (new_headers a type (length path) next payload flow) path stored

-- those of an opaque path of 3 bytes don't: they are written with factor 9, and a reader finds a path of no bytes, then the 3 bytes
abbrev pub RoundedDown : Type 0
RoundedDown =
    let path : List ℕ = 7 ∷ 8 ∷ 9 ∷ [] in
    let h = new_headers zero_address 2 3 17 0 1 in
    let bytes = header_bytes h path in
    (h.header_length_factor ≡ 9)
    × (write_headers h path 39 ≡ Ok bytes)
    × (mapped (λ (p : Packet). p.path_bytes) (read_packet bytes) ≡ Ok [])
    × (drop 36 bytes ≡ path)

-- where the host at `at` is a service, its two padding bytes are zero
abbrev pub PaddingZero : HostAddress → List ℕ → ℕ → Type 0
PaddingZero a bytes at = (service : ServiceAddr) → a.host ≡ Decoded (Svc service) → part (at + 2) 2 bytes ≡ 0 ∷ 0 ∷ []

-- new headers are written with padding zero at both ends, whatever padding the hosts have that they are made of
abbrev pub NewHeadersPadding : Type 0
NewHeadersPadding =
    (a : AddressHeader) (type : ℕ) (path : List ℕ) (next payload flow size : ℕ) (written : List ℕ) → length a.destination.bytes ≡ 16
    → write_headers (new_headers a type (length path) next payload flow) path size ≡ Ok written
    → PaddingZero a.destination written 28 × PaddingZero a.source written (28 + host_length (kind_of a.destination.host))

-- HOSTS

-- a service that was written, wherever it stands, is read back with its number and its padding
abbrev pub ServiceReadBack : Type 0
ServiceReadBack =
    (number padding : ℕ) (before after : List ℕ) → number < 2 ^ 16 → padding < 2 ^ 16
    → host_at 4 (before ++ (host_bytes (service_host number padding) ++ after)) (length before) ≡ service_host number padding

-- a host that was read is read back as it is
abbrev pub HostsReadBack : Type 0
HostsReadBack =
    (kind at : ℕ) (bytes : List ℕ) → ((i : ℕ) → get_or bytes i 0 < 256) → at + host_length kind ≤ length bytes
    → host_read (host_at kind bytes at) ≡ host_at kind bytes at

-- WRITING AGAIN WHAT WAS READ

-- the headers of a packet that was read: its factor and its reserved bytes with them, and in its hosts their padding
unfoldable pub headers_of : Packet → ScionHeaders
headers_of p =
    record {
      version = p.common.version;
      traffic_class = p.common.traffic_class;
      flow_id = p.common.flow_id;
      next_header = p.common.next_header;
      header_length_factor = p.common.header_length_factor;
      payload_length = p.common.payload_length;
      path_type = p.common.path_type;
      reserved = p.common.reserved;
      address = p.address;
    }

-- the encoder accepts them, and writes the bytes before the payload, whatever they are; those of a short capture too
abbrev pub WritesAgain : Reader → Type 0
WritesAgain read =
    (bytes : List ℕ) (p : Packet) → ((i : ℕ) → get_or bytes i 0 < 256) → read bytes ≡ Ok p
    → write_headers (headers_of p) p.path_bytes (payload_part p).start ≡ Ok (take (payload_part p).start bytes)
