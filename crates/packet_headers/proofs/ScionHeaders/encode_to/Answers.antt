-- `ScionHeaders::encode_to` meets its contract: the three parts follow one another and fill the destination.
use mathlib.Core.Path.{◌≡◌, sym, ap, ◌∙◌}
use mathlib.Core.Bool.{true}
use mathlib.Core.List.{List}
use Prim.Native.Nat.{ℕ, ◌+◌}
use native.Mathlib.Omega.{arith}
use lib.ListN.{length}
use Rattle.std.specs.Prelude.{Result}
use Rattle.errors.specs.declared.packet_error.EncodeError.{EncodeError}
use Rattle.wire_encoding.specs.Result.{or_else}
use Rattle.packet_common_header.specs.CommonHeader.{common_fits}
use Rattle.packet_address_header.specs.AddressHeader.{address_length, host_on_wire, on_wire, wire_length}
use Rattle.packet_address_header.proofs.AddressHeaderLaws.{Sixteen, bytes_on_wire}
use Rattle.packet_headers.specs.Headers.{headers_length, common_of}
use Rattle.packet_headers.proofs.Headers.{headers-written, path_put, three_written}
use borrow.Author.Rules.{rules}
use Rattle.packet_headers.proofs.ScionHeaders.encode_to.Goals as goal

-- the path is put where the addresses end
pub unwrap-requires-3 : goal.unwrap-requires-3
unfolding common_of common_fits headers_length on_wire host_on_wire wire_length address_length
unwrap-requires-3 c =
    let args = c.args in
    let h = args.self in
    let wire = c.on_wire-wire.ensures in
    let sixteen : Sixteen h.address = record { destination_sixteen = search rules; source_sixteen = search rules } in
    let fits : common_fits (common_of h) ≡ true = sym (rw wire at c.fields_fit.ensures) ∙ c.if-not-fields_fit.false in
    let exact : length args.dst.now ≡ headers_length h.address h.path_type (length args.path.now) = grind arith in
    let fixed : 12 + c.encoded_length-fixed.result ≡ 12 + address_length h.address = grind arith in
    path_put h args.path.now args.dst.now sixteen exact fits (λ e. omega arith)
    (rw (wire, bytes_on_wire h.address) at c.put.ensures.dst_after)
    (rw wire at c.encode_to.ensures.dst_after)
    (rw (fixed, c.path_length-added.ensures) at c.put_slice.ensures.value)

pub returns-clause-dst_after : goal.returns-clause-dst_after
unfolding common_of common_fits headers_length on_wire host_on_wire wire_length address_length
returns-clause-dst_after c =
    let args = c.args in
    let h = args.self in
    let dst = args.dst.now in
    let wire = c.on_wire-wire.ensures in
    let sixteen : Sixteen h.address = record { destination_sixteen = search rules; source_sixteen = search rules } in
    let fits : common_fits (common_of h) ≡ true = sym (rw wire at c.fields_fit.ensures) ∙ c.if-not-fields_fit.false in
    let exact : length dst ≡ headers_length h.address h.path_type (length args.path.now) = grind arith in
    let fixed : 12 + c.encoded_length-fixed.result ≡ 12 + address_length h.address = grind arith in
    let accepted = headers-written h args.path.now (length dst) fits (λ e. omega arith) (omega arith) (omega arith) exact in
    three_written h args.path.now dst sixteen exact fits (λ e. omega arith)
    (rw (wire, bytes_on_wire h.address) at c.put.ensures.dst_after)
    (rw wire at c.encode_to.ensures.dst_after)
    (rw (fixed, c.path_length-added.ensures) at c.put_slice.ensures.dst_after)
    ∙ sym (ap (λ (r : Result (List ℕ) EncodeError). or_else r dst) accepted)
