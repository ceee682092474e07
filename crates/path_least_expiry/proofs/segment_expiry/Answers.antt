-- `segment_expiry` meets its contract: the segment's fields lie in the path's bytes, and its least expiry byte under its timestamp gives its
-- least expiry.
use native.Mathlib.Nat.{add-sub_cancel_left}
use native.Mathlib.Omega.{arith}
use lib.ListN.{length-take, length-drop}
use Rattle.path_meta_header.proofs.Segment.{inside}
use Rattle.path_least_expiry.proofs.Segments.{expiry_by_run}
use Rattle.path_least_expiry.proofs.segment_expiry.Goals as goal

pub timestamp_at-timestamp-requires : goal.timestamp_at-timestamp-requires
timestamp_at-timestamp-requires c = (inside c.args.bytes.now c.args.meta_header c.args.k c.requires.0 c.requires.1).info

pub slice_bounds-least_exp_time-end : goal.slice_bounds-least_exp_time-end
slice_bounds-least_exp_time-end c = omega (arith, (inside c.args.bytes.now c.args.meta_header c.args.k c.requires.0 c.requires.1).hops)

pub least_exp_time-requires : goal.least_exp_time-requires
least_exp_time-requires c =
    let lies = inside c.args.bytes.now c.args.meta_header c.args.k c.requires.0 c.requires.1 in
    simp (length-take, length-drop) (omega (arith, lies.hops, lies.one))

pub returns : goal.returns
returns c = (
  rw (
    c.expiry.ensures.0,
    c.timestamp_at-timestamp.ensures,
    c.least_exp_time.ensures,
    c.hop_fields_start.ensures.0,
    c.first_hop_field.ensures.0,
    c.segment_length.ensures.0,
    add-sub_cancel_left,
  )
      (expiry_by_run _ _ _ c.requires.0 c.requires.1),
  c.expiry.ensures.1,
)
