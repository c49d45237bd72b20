-- A feed reads on from what is held, and the decoder then stands for the piece too.
use Rattle.std.proofs.Common.{◌≡◌, ℕ, ◌+◌, ◌-◌, ◌^◌, min, List, [], ◌∷◌, ◌++◌, length, Some, None}
use Rattle.std.proofs.Common.{refl, sym, ap, ◌∙◌, subst, append_assoc, append-nil, length-append, arith}
use Rattle.std.proofs.lemmas.List.{drop_all}
use Rattle.bencode_wire.specs.Tree.{Tree}
use Rattle.bencode_wire.specs.Spelling.{put_sorted}
use Rattle.bencode_wire.specs.Inside.Beginnings.{Adding}
use Rattle.bencode_wire.specs.Inside.Cut.{Cut}
use Rattle.bencode_wire.specs.Fault.{StreamRule, counted_place, fault_at}
use Rattle.bencode_wire.specs.Inside.ByteSteps.{bite, Judged, reads, whole, refuses, StreamReading, ReadingEnd}
use Rattle.bencode_wire.specs.Inside.ByteSteps.{rests, faults, ended_reading, onward, stream_reading, start}
use Rattle.bencode_wire.specs.Inside.Reader.{cut_view}
use Rattle.bencode_wire.specs.Stream.{rest, fault, Streams}
use Rattle.bencode_wire.specs.Inside.Course.{fault_of_end, ahead, ready_view, Advances, Faults, Stops}
use Rattle.bencode_wire.specs.Inside.HasCome.{HasCome}
use Rattle.bencode_wire.specs.Inside.Decoding.{HoldsRest}
use Rattle.bencode_wire.specs.declared.ben.Ben.{Ben}
use Rattle.bencode_wire.specs.declared.cut.Unfinished.{Unfinished}
use Rattle.bencode_wire.specs.declared.fault.WireFault.{WireFault}
use Rattle.bencode_wire.specs.declared.fault.WireFault.TheVariants as wire
use Rattle.bencode_wire.proofs.Appends.{same_reads}
use Rattle.bencode_wire.proofs.Streams.{Found, FoundBy, found_behind, streams_join, rest_within, rest_is}
use Rattle.bencode_wire.proofs.Decoders.{come_kept, kept_come, Standing, Resting, none_some}

-- a reading whose bytes stand further on
abbrev moved_end : ℕ → ReadingEnd → ReadingEnd
moved_end k (rests n c) = rests n c
moved_end k (faults rule i) = faults rule (k + i)

abbrev moved : ℕ → StreamReading → StreamReading
moved k r = record { messages = r.messages; end = moved_end k r.end }

onward_moved : (j : Judged) (k at : ℕ) (same other : Cut → StreamReading) (fresh next : StreamReading) → ((c : Cut) → same c ≡ moved k (other c)) → fresh ≡ moved k next
    → onward j (k + at) same fresh ≡ moved k (onward j at other next)
onward_moved (reads c) k at same other fresh next f e = f c
onward_moved (whole t) k at same other fresh next f e = ap (λ r. record { messages = t ∷ r.messages; end = r.end }) e
onward_moved (refuses rule) k at same other fresh next f e = refl

reading_moved : (limit : ℕ) (add : Adding) (before : ℕ) (c : Cut) (k at : ℕ) (bs : List ℕ) → stream_reading limit add before c (k + at) bs ≡ moved k (stream_reading limit add before c at bs)
reading_moved limit add before c k at [] = refl
reading_moved limit add before c k at (b ∷ bs) =
    onward_moved (bite limit add before c (b ∷ [])) k at _ _ _ _
    (λ next. same_reads limit add (before + 1) (before + 1) next next (k + at + 1) (k + (at + 1)) bs refl refl (omega arith) ∙ reading_moved limit add (before + 1) next k (at + 1) bs)
    (same_reads limit add 0 0 start start (k + at + 1) (k + (at + 1)) bs refl refl (omega arith) ∙ reading_moved limit add 0 start k (at + 1) bs)

-- what reading a piece finds behind what has come
piece_found : (limit : ℕ) (held : Cut) (come : ℕ) (all m piece : List ℕ) (ms : List Tree) → Streams limit 0 all ms (rest m) → HasCome held come m
    → FoundBy limit (0 + (length all - length m)) (m ++ piece) (moved (length all) (stream_reading limit put_sorted come held 0 piece))
piece_found limit held come all m piece ms streams h =
    let k = come_kept limit held come m (rest_is limit 0 all m ms streams) h in
    let inside = rest_within limit 0 all m ms streams in
    let at : 0 + (length all - length m) + length m ≡ length all + 0 = omega arith in
    subst (λ r. FoundBy limit (0 + (length all - length m)) (m ++ piece) r)
    (same_reads limit put_sorted (length m) come held held _ (length all + 0) piece (sym h.long) refl at ∙ reading_moved limit put_sorted come held (length all) 0 piece)
    (found_behind limit (0 + (length all - length m)) m piece held k)

-- no rule is met
pub record Onward (limit : ℕ) (next : Cut) (come : ℕ) (all : List ℕ) (messages : List Tree) : Type 0 where
  pub left : List ℕ
  pub streams : Streams limit 0 all messages (rest left)
  pub has : HasCome next come left

pub piece_rests : (limit : ℕ) (held next : Cut) (come n : ℕ) (all m piece : List ℕ) (ms : List Tree) → Streams limit 0 all ms (rest m) → HasCome held come m
    → (stream_reading limit put_sorted come held 0 piece).end ≡ rests n next
    → Onward limit next n (all ++ piece) (ms ++ (stream_reading limit put_sorted come held 0 piece).messages)
piece_rests limit held next come n all m piece ms streams h e =
    let now = stream_reading limit put_sorted come held 0 piece in
    let found : Found limit (0 + (length all - length m)) (m ++ piece) now.messages (rests n next) =
    subst (λ e. Found limit (0 + (length all - length m)) (m ++ piece) now.messages e) (ap (moved_end (length all)) e) (piece_found limit held come all m piece ms streams h) in
    let left = found.1 in
    let is = rest_is limit (0 + (length all - length m)) (m ++ piece) left now.messages found.5 in
    record {
      left = left;
      streams = streams_join limit 0 all m piece ms now.messages (rest left) streams found.5;
      has = kept_come limit next n left is found.3 found.4;
    }

-- a rule is met
piece_faults : (limit : ℕ) (held : Cut) (come : ℕ) (all m piece : List ℕ) (ms : List Tree) (rule : StreamRule) (i : ℕ) → Streams limit 0 all ms (rest m) → HasCome held come m
    → (stream_reading limit put_sorted come held 0 piece).end ≡ faults rule i
    → Streams limit 0 (all ++ piece) (ms ++ (stream_reading limit put_sorted come held 0 piece).messages) (fault rule (length all + i))
piece_faults limit held come all m piece ms rule i streams h e =
    let now = stream_reading limit put_sorted come held 0 piece in
    let found : Found limit (0 + (length all - length m)) (m ++ piece) now.messages (faults rule (length all + i)) =
    subst (λ e. Found limit (0 + (length all - length m)) (m ++ piece) now.messages e) (ap (moved_end (length all)) e) (piece_found limit held come all m piece ms streams h) in
    streams_join limit 0 all m piece ms now.messages (fault rule (length all + i)) streams found

-- what a piece is read from
pub record ReadsFrom (held : Cut) (come : ℕ) (from : Unfinished) : Type 0 where
  pub cut : cut_view from.reader ≡ held
  pub long : from.come ≡ come

ahead_from : (limit : ℕ) (held : Cut) (come : ℕ) (piece : List ℕ) (from : Unfinished) → ReadsFrom held come from → ahead limit piece from 0 ≡ stream_reading limit put_sorted come held 0 piece
ahead_from limit held come piece from f = same_reads limit put_sorted from.come come (cut_view from.reader) held 0 0 piece f.long f.cut refl

-- at its end nothing is ahead
ahead_done : (limit : ℕ) (piece : List ℕ) (to : Unfinished) → ahead limit piece to (length piece) ≡ ended_reading (rests to.come (cut_view to.reader))
ahead_done limit piece to =
    ap (λ bs. stream_reading limit put_sorted to.come (cut_view to.reader) (length piece) bs) (drop_all (length piece) piece (omega arith))

advanced_end : (limit : ℕ) (held : Cut) (come : ℕ) (piece : List ℕ) (from to : Unfinished) (old new : List Ben) → ReadsFrom held come from
    → Advances (ahead limit piece from 0) (ahead limit piece to (length piece)) old new
    → (stream_reading limit put_sorted come held 0 piece).end ≡ rests to.come (cut_view to.reader)
advanced_end limit held come piece from to old new f adv =
    ap (λ r. r.end) (sym (ahead_from limit held come piece from f)) ∙ sym adv.end ∙ ap (λ r. r.end) (ahead_done limit piece to)

-- what is held after a feed that met no rule
pub holds_fed : (limit : ℕ) (held : Cut) (come : ℕ) (piece : List ℕ) (from to : Unfinished) (old new : List Ben) → HoldsRest limit held come → ReadsFrom held come from
    → Advances (ahead limit piece from 0) (ahead limit piece to (length piece)) old new
    → HoldsRest limit (cut_view to.reader) to.come
holds_fed limit held come piece from to old new h f adv =
    let m = h.0 in
    let on = piece_rests limit held (cut_view to.reader) come to.come m m piece [] (h.1, refl) h.2 (advanced_end limit held come piece from to old new f adv) in
    (on.left, rest_is limit 0 (m ++ piece) on.left _ on.streams, on.has)

-- what stands after it
pub rests_fed : (limit : ℕ) (held : Cut) (come read later : ℕ) (all piece : List ℕ) (taken : List Tree) (from to : Unfinished) (old new : List Ben)
    → Resting limit held come read all (taken ++ ready_view old) → ReadsFrom held come from
    → Advances (ahead limit piece from 0) (ahead limit piece to (length piece)) old new
    → later ≡ min (read + length piece) (2 ^ 64 - 1)
    → Resting limit (cut_view to.reader) to.come later (all ++ piece) (taken ++ ready_view new)
rests_fed limit held come read later all piece taken from to old new r f adv is =
    let now = stream_reading limit put_sorted come held 0 piece in
    let on = piece_rests limit held (cut_view to.reader) come to.come all r.m piece (taken ++ ready_view old) r.streams r.has (advanced_end limit held come piece from to old new f adv) in
    let messages : (taken ++ ready_view old) ++ now.messages ≡ taken ++ ready_view new =
    append_assoc taken (ready_view old) now.messages
    ∙ ap (λ ms. taken ++ ms) (ap (λ r. ready_view old ++ r.messages) (sym (ahead_from limit held come piece from f)) ∙ sym adv.messages
    ∙ ap (λ r. ready_view new ++ r.messages) (ahead_done limit piece to) ∙ append-nil (ready_view new)) in
    let before = r.counted in
    let total : length (all ++ piece) ≡ length all + length piece = length-append all piece in
    record {
      m = on.left;
      streams = subst (λ ms. Streams limit 0 (all ++ piece) ms (rest on.left)) messages on.streams;
      has = on.has;
      counted = omega arith;
    }

broken_end : (limit : ℕ) (held : Cut) (come read : ℕ) (all piece : List ℕ) (taken : List Tree) (old new : List Ben) (f : WireFault) (end : ReadingEnd)
    → Resting limit held come read all (taken ++ ready_view old)
    → ready_view new ≡ ready_view old ++ (stream_reading limit put_sorted come held 0 piece).messages
    → (stream_reading limit put_sorted come held 0 piece).end ≡ end → fault_of_end read end ≡ Some f
    → (later : Cut) (n i : ℕ) → Standing limit later n i (Some f) (all ++ piece) (taken ++ ready_view new)
broken_end limit held come read all piece taken old new f (rests n c) r ready e is later l i = absurd (none_some f None refl is)
broken_end limit held come read all piece taken old new f (faults rule at) r ready e is later l i =
    let now = stream_reading limit put_sorted come held 0 piece in
    let before = r.counted in
    let counts : counted_place (read + at) ≡ counted_place (length all + at) = omega arith in
    let messages : (taken ++ ready_view old) ++ now.messages ≡ taken ++ ready_view new =
    append_assoc taken (ready_view old) now.messages ∙ ap (λ ms. taken ++ ms) (sym ready) in
    record {
      end = fault rule (length all + at);
      streams = subst (λ ms. Streams limit 0 (all ++ piece) ms (fault rule (length all + at))) messages
          (piece_faults limit held come all r.m piece (taken ++ ready_view old) rule at r.streams r.has e);
      shows = sym is ∙ ap (λ p. Some (fault_at rule p)) counts;
    }

fed_breaks : (limit : ℕ) (held : Cut) (come read : ℕ) (all piece : List ℕ) (taken : List Tree) (from : Unfinished) (old new : List Ben) (f : WireFault)
    → Resting limit held come read all (taken ++ ready_view old) → ReadsFrom held come from → Faults read (ahead limit piece from 0) old new f
    → (later : Cut) (n i : ℕ) → Standing limit later n i (Some f) (all ++ piece) (taken ++ ready_view new)
fed_breaks limit held come read all piece taken from old new f r is met =
    let same = ahead_from limit held come piece from is in
    broken_end limit held come read all piece taken old new f _ r
    (met.messages ∙ ap (λ r. ready_view old ++ r.messages) same) refl (ap (λ r. fault_of_end read r.end) (sym same) ∙ met.end)

-- what stands after a feed that met a rule
pub fed_broken : (limit : ℕ) (held : Cut) (come read : ℕ) (all piece : List ℕ) (taken : List Tree) (from : Unfinished) (old new : List Ben) (f : WireFault)
    → Resting limit held come read all (taken ++ ready_view old) → ReadsFrom held come from → Stops limit read piece from 0 old new f
    → (f ≡ wire.NoMemory → ⊥)
    → (later : Cut) (n i : ℕ) → Standing limit later n i (Some f) (all ++ piece) (taken ++ ready_view new)
fed_broken limit held come read all piece taken from old new wire.NoMemory r is met other = absurd (other refl)
fed_broken limit held come read all piece taken from old new (wire.Malformed p) r is met other = fed_breaks limit held come read all piece taken from old new (wire.Malformed p) r is met
fed_broken limit held come read all piece taken from old new (wire.TooLong p) r is met other = fed_breaks limit held come read all piece taken from old new (wire.TooLong p) r is met
fed_broken limit held come read all piece taken from old new (wire.TooDeep p) r is met other = fed_breaks limit held come read all piece taken from old new (wire.TooDeep p) r is met
