-- The draft's Info Field (P, C, RSV, Acc, Timestamp) and Hop Field (I, E, ExpTime, ConsIngress, ConsEgress, MAC), read at an offset.
use Rattle.std.specs.Prelude.{ℕ, ◌+◌, ◌*◌, Bool, cond, List, length, get_or, replicate, eqb, Option, Some, None, Result, Ok}
use Rattle.wire_encoding.specs.Bits.{bit_of, with_bit}
use Rattle.wire_encoding.specs.BigEndian.{big_endian, part}
use Rattle.wire_encoding.specs.Result.{require, ◌>>◌, or_else}
use Rattle.path_fields.specs.declared.InfoField.{InfoField}
use Rattle.path_fields.specs.declared.HopField.{HopField}
use Rattle.errors.specs.declared.path_error.PathError.{PathError}
use Rattle.errors.specs.declared.path_error.PathError.TheVariants.{InadequateBufferSize}

-- how many bytes each has
abbrev pub info_field_length : ℕ
info_field_length = 8

abbrev pub hop_field_length : ℕ
hop_field_length = 12

-- the info field at `at`: flags, RSV, Acc (2 bytes), Timestamp (4 bytes, seconds)
unfoldable pub info_field_at : List ℕ → ℕ → InfoField
info_field_at bytes at =
    record {
      flags = get_or bytes at 0;
      reserved = get_or bytes (at + 1) 0;
      accumulator = big_endian 2 bytes (at + 2);
      timestamp = big_endian 4 bytes (at + 4);
    }

unfoldable pub zero_info_field : InfoField
zero_info_field = record { flags = 0; reserved = 0; accumulator = 0; timestamp = 0 }

-- an info field of a part: 9 unless the part has 8 bytes
unfoldable pub new_info_field : List ℕ → Result InfoField PathError
new_info_field part = do
  require (eqb (length part) info_field_length) InadequateBufferSize
  Ok (info_field_at part 0)

-- the one at `at` among bytes; all zero where they end before it does
abbrev pub info_field_in : List ℕ → ℕ → InfoField
info_field_in bytes at = or_else (new_info_field (part at info_field_length bytes)) zero_info_field

-- C, bit 0: in construction direction; P, bit 1: peering
abbrev pub constructed_dir : InfoField → Bool
constructed_dir info = bit_of 0 info.flags

abbrev pub peering : InfoField → Bool
peering info = bit_of 1 info.flags

unfoldable pub with_constructed_dir : Bool → InfoField → InfoField
with_constructed_dir on info =
    record {
      flags = with_bit 0 on info.flags;
      reserved = info.reserved;
      accumulator = info.accumulator;
      timestamp = info.timestamp;
    }

-- the hop field at `at`: flags, ExpTime, ConsIngress, ConsEgress, MAC (6 bytes)
unfoldable pub hop_field_at : List ℕ → ℕ → HopField
hop_field_at bytes at =
    record {
      flags = get_or bytes at 0;
      exp_time = get_or bytes (at + 1) 0;
      cons_ingress = big_endian 2 bytes (at + 2);
      cons_egress = big_endian 2 bytes (at + 4);
      mac = part (at + 6) 6 bytes;
    }

unfoldable pub zero_hop_field : HopField
zero_hop_field = record { flags = 0; exp_time = 0; cons_ingress = 0; cons_egress = 0; mac = replicate 6 0 }

-- a hop field of a part: 9 unless the part has 12 bytes
unfoldable pub new_hop_field : List ℕ → Result HopField PathError
new_hop_field part = do
  require (eqb (length part) hop_field_length) InadequateBufferSize
  Ok (hop_field_at part 0)

-- the one at `at` among bytes; all zero where they end before it does
abbrev pub hop_field_in : List ℕ → ℕ → HopField
hop_field_in bytes at = or_else (new_hop_field (part at hop_field_length bytes)) zero_hop_field

unfoldable pub with_flags : ℕ → HopField → HopField
with_flags flags hop =
    record {
      flags = flags;
      exp_time = hop.exp_time;
      cons_ingress = hop.cons_ingress;
      cons_egress = hop.cons_egress;
      mac = hop.mac;
    }

-- I, bit 1: ingress alert; E, bit 0: egress alert. One of them set or cleared, all else kept
abbrev pub with_alert : ℕ → Bool → HopField → HopField
with_alert bit on hop = with_flags (with_bit bit on hop.flags) hop

-- the number of an interface; 0 on the wire means none
abbrev pub Interface : Type 0
Interface = Option ℕ

unfoldable pub interface_of : ℕ → Interface
interface_of number = cond (eqb number 0) None (Some number)

-- direction clear exchanges ingress and egress
unfoldable pub ingress_interface : InfoField → HopField → Interface
ingress_interface info hop = interface_of (cond (constructed_dir info) hop.cons_ingress hop.cons_egress)

unfoldable pub egress_interface : InfoField → HopField → Interface
egress_interface info hop = interface_of (cond (constructed_dir info) hop.cons_egress hop.cons_ingress)

-- in ms: 337,500 · (1 + ExpTime), a 256th of a day for each unit, and Timestamp · 1,000 more
unfoldable pub expiry_offset : ℕ → ℕ
expiry_offset e = 337500 * (1 + e)

unfoldable pub expiry_time : ℕ → ℕ → ℕ
expiry_time time e = time * 1000 + expiry_offset e
