-- The path walked, and the reply walked: what each meets at every position, hop field by hop field; the reply is the mirror image of
-- the path, reversed at its end it is the path again, and it meets the same hop fields in opposite order.
-- Assumes nothing.
use Prim.Native.Nat.{ℕ, zero, suc, ◌+◌, ◌-◌, ◌*◌, ◌<◌}
use mathlib.Core.Path.{◌≡◌, refl, sym, ap, ap₂, ◌∙◌}
use mathlib.Core.List.{List, [], ◌∷◌, ◌++◌}
use native.Mathlib.Omega.{arith}
use Rattle.std.specs.Prelude.{Ok}
use Rattle.wire_encoding.specs.Result.{mapped}
use Rattle.wire_encoding.specs.BigEndian.{part}
use Rattle.path_meta_header.specs.MetaHeader.{info_fields_count, hop_fields_count, hop_start}
use Rattle.path_meta_header.specs.declared.PathMetaHeader.{PathMetaHeader}
use Rattle.path_moves.specs.Moves.{at_position, iterate, moved, walked}
use Rattle.path.specs.Dataplane.{meta_header_of}
use Rattle.path_reverse.specs.Copy.{front}
use Rattle.path_reverse.specs.Reverse.{reverse}
use Rattle.round_trip.specs.RoundTrip.{first, other, by_end, hop_count, Meeting, met, exchanged, Begun, meets, reply}
use Rattle.round_trip.specs.Mirror.{mirror}
use Rattle.round_trip.specs.Reply.{MetWalked, ReplyMetWalked, along, against, OppositeOrder, ReplyHopField, ReplyMirror, ReplyReversed}
use Rattle.round_trip.proofs.Mirror.{mirror_field}
use Rattle.round_trip.proofs.Onward.{standing_at, Onward, onward}
use Rattle.round_trip.proofs.Meetings.{path_header}
use Rattle.round_trip.proofs.Calls.{path_begun, reverse_accepted}
use Rattle.round_trip.proofs.Packets.{track, track_meta, some_hop, track_path, track_met, track_from_start, track_infos}
use Rattle.round_trip.proofs.Packets.{track_length, reversed_back, reply_track}

module _ (b : List ℕ) (g : Begun b) where
  abbrev m : PathMetaHeader
  m = meta_header_of b

  abbrev N : ℕ
  N = hop_count b

  -- the bytes after p moves
  walked_track : (p : ℕ) → p < N → walked 1 b p ≡ track b other p
  unfolding track
  walked_track p l = track_from_start b g other p l

  reply_walked_track : (p : ℕ) → p < N → walked 1 (reply b) p ≡ track b first p
  reply_walked_track p l = ap (λ (x : List ℕ). walked 1 x p) (reply_track b g) ∙ track_from_start b g first p l

  -- the header that reading the path finds after p moves
  header_walked : (p : ℕ) → p < N → meta_header_of (walked 1 b p) ≡ standing_at m p
  unfolding track_meta
  header_walked p l = ap meta_header_of (walked_track p l) ∙ path_header (track b other p) (standing_at m p) (track_path b g other p l)

-- WHAT IS MET

pub met-walked : MetWalked
unfolding meets by_end
met-walked b g p l = ap met (walked_track b g p l) ∙ track_met b g other p l

pub reply_met_walked : ReplyMetWalked
unfolding meets by_end
reply_met_walked b g p l = ap met (reply_walked_track b g p l) ∙ track_met b g first p l

-- WHAT THE REPLY IS

pub reply-mirror : ReplyMirror
unfolding track
reply-mirror b g p l =
    let q : ℕ = hop_count b - 1 - p in
    reply_walked_track b g p l ∙ sym (ap₂ mirror (header_walked b g q (omega arith)) (walked_track b g q (omega arith)))

pub reply_reversed : ReplyReversed
reply_reversed b g dst room =
    let last : ℕ = hop_count b - 1 in
    let below : last < hop_count b = omega (arith, some_hop b g) in
    ap (λ (x : List ℕ). mapped front (reverse 1 x dst)) (reply_walked_track b g last below)
    ∙ reverse_accepted (track b first last) (track_meta b first last) (track_path b g first last below) dst
    (omega (arith, track_length b g first last below))
    ∙ ap Ok (reversed_back b g last (omega (arith, below)))

pub reply_hop_field : ReplyHopField
unfolding track standing_at at_position info_fields_count hop_fields_count
reply_hop_field b g j l =
    let N : ℕ = hop_count b in
    let m : PathMetaHeader = meta_header_of b in
    let q : ℕ = N - 1 - 0 in
    let x : List ℕ = iterate q (moved 1) b in
    let o : Onward b q x = onward b (path_begun b g) g.hop_start q (omega arith) in
    let header : meta_header_of (track b first 0) ≡ track_meta b first 0 =
    path_header (track b first 0) (track_meta b first 0) (track_path b g first 0 (some_hop b g)) in
    let infos : info_fields_count (meta_header_of (track b first 0)) ≡ info_fields_count m =
    ap info_fields_count header ∙ track_infos b g first 0 (some_hop b g) in
    ap (λ (y : List ℕ). part (hop_start (meta_header_of y) j) 12 y) (reply_track b g)
    ∙ ap (λ (n : ℕ). part (4 + n * 8 + j * 12) 12 (track b first 0)) infos
    ∙ mirror_field x (standing_at m q) o.path j l
    ∙ o.fields (N - 1 - j) (omega arith)

-- IN OPPOSITE ORDER

along-first : (f : ℕ → Meeting) (n : ℕ) → along f (suc n) ≡ f 0 ∷ along (λ p. f (suc p)) n
unfolding along
along-first f zero = refl
along-first f (suc n) = ap (λ (l : List Meeting). l ++ (f (suc n) ∷ [])) (along-first f n)

along-against : (f h : ℕ → Meeting) (n : ℕ) → ((p : ℕ) → p < n → f p ≡ h (n - 1 - p)) → along f n ≡ against h n
unfolding against along
along-against f h zero e = refl
along-against f h (suc n) e =
    let last : suc n - 1 - 0 ≡ n = omega arith in
    along-first f n
    ∙ ap₂ (λ (a : Meeting) (l : List Meeting). a ∷ l) (e 0 (omega arith) ∙ ap h last)
    (along-against (λ p. f (suc p)) h n
    (λ p l. let next : suc n - 1 - suc p ≡ n - 1 - p = omega arith in e (suc p) (omega arith) ∙ ap h next))

pub opposite_order : OppositeOrder
opposite_order b g =
    along-against (λ p. met (walked 1 (reply b) p)) (λ p. exchanged (met (walked 1 b p))) (hop_count b)
    (λ p l. reply_met_walked b g p l ∙ ap exchanged (sym (met-walked b g (hop_count b - 1 - p) (omega arith))))
