-- `CommonHeader::encode_to` meets its contract: the same tests in the same order; each number is then written by its digits, and none
-- is wider than its field.
use mathlib.Core.Path.{◌≡◌, refl, sym, ◌∙◌}
use mathlib.Core.Bool.{Bool, true}
use Prim.Native.Nat.{◌<◌, ◌^◌}
use lib.ListN.{length}
use native.Mathlib.Omega.{arith}
use borrow.Author.Tests.{eq-eqb, ne_eqb}
use Rattle.wire_encoding.specs.Result.{done}
use Rattle.wire_encoding.proofs.Result.{written_done}
use Rattle.packet_common_header.specs.declared.CommonHeader.{CommonHeader}
use Rattle.packet_common_header.specs.CommonHeader.{fields_fit, common_fits, write_common}
use Rattle.packet_common_header.proofs.CommonHeaderLaws.{common_widths, common_written, Fields, first_fits}
use Rattle.packet_common_header.proofs.CommonHeaderLaws.{common_digits}
use borrow.Author.Rules.{rules}
use Rattle.packet_common_header.proofs.CommonHeader.encode_to.Goals as goal

-- the numbers fit
fits : (h : CommonHeader) (told : Bool) → told ≡ fields_fit h.version h.flow_id h.destination_kind h.source_kind → told ≡ true
    → common_fits h ≡ true
unfolding common_fits
fits h told is passed = sym is ∙ passed

-- every field fits its bits: those that were tested, and the others by their types
typed : (h : CommonHeader) → common_fits h ≡ true → h.traffic_class < 256 → h.payload_length < 2 ^ 16 → h.reserved < 2 ^ 16 → Fields h
typed h fit class payload reserved = record { widths = common_widths h fit; class = class; payload = payload; reserved = reserved }

pub returns-then-not-fields_fit : goal.returns-then-not-fields_fit
unfolding write_common common_fits done
returns-then-not-fields_fit c = rw (← c.fields_fit.ensures, c.if-not-fields_fit.true) (record { value = refl; dst_after = refl })

pub returns-then-self-eq0 : goal.returns-then-self-eq0
unfolding write_common done
returns-then-self-eq0 c = rw (fits c.args.self _ c.fields_fit.ensures c.if-not-fields_fit.false, eq-eqb _ _ c.if-self-eq0.true) (record { value = refl; dst_after = refl })

pub returns-then-dst-ne-LENGTH : goal.returns-then-dst-ne-LENGTH
unfolding write_common done
returns-then-dst-ne-LENGTH c = rw (fits c.args.self _ c.fields_fit.ensures c.if-not-fields_fit.false, ne_eqb _ _ c.if-self-eq0.false, ne_eqb _ _ c.if-dst-ne-LENGTH.true) (record { value = refl; dst_after = refl })

pub overflow_mul-first-2 : goal.overflow_mul-first-2
overflow_mul-first-2 c = omega (arith, (common_widths c.args.self (fits c.args.self _ c.fields_fit.ensures c.if-not-fields_fit.false)).version)

pub overflow_add-first-2 : goal.overflow_add-first-2
overflow_add-first-2 c = omega (arith, first_fits _ (typed c.args.self (fits c.args.self _ c.fields_fit.ensures c.if-not-fields_fit.false) (search rules) (search rules) (search rules)))

pub overflow_cast-raw : goal.overflow_cast-raw
overflow_cast-raw c = let w = common_widths c.args.self (fits c.args.self _ c.fields_fit.ensures c.if-not-fields_fit.false) in omega (arith, w.version, w.flow)

pub overflow_mul-raw : goal.overflow_mul-raw
overflow_mul-raw c = omega (arith, (common_widths c.args.self (fits c.args.self _ c.fields_fit.ensures c.if-not-fields_fit.false)).destination)

pub overflow_add-raw : goal.overflow_add-raw
overflow_add-raw c = let w = common_widths c.args.self (fits c.args.self _ c.fields_fit.ensures c.if-not-fields_fit.false) in omega (arith, w.destination, w.source)

pub returns : goal.returns
returns c =
    let args = c.args in
    let header = args.self in
    let fit = fits header _ c.fields_fit.ensures c.if-not-fields_fit.false in
    let digits = common_digits header (typed header fit (search rules) (search rules) (search rules)) in
    let exact = c.if-dst-ne-LENGTH.false in
    let both = written_done (write_common header (length args.dst.now)) args.dst.now (common_written header (length args.dst.now) fit c.if-self-eq0.false exact)
    (rw digits at c.copy_from_slice.ensures.after) in
    record { value = both.0; dst_after = both.1 }
