-- What a decoder shows, by its parts, and what it holds.
use Rattle.std.proofs.Common.{◌≡◌, ℕ, ◌<◌, ◌⊎◌, inl, inr, List, [], ◌∷◌, ◌++◌, length, Option, Some, None}
use Rattle.std.proofs.Common.{refl, sym, ap, ◌∙◌, subst, arith}
use Rattle.bencode_wire.specs.Tree.{Tree}
use Rattle.bencode_wire.specs.Spelling.{put_sorted}
use Rattle.bencode_wire.specs.Inside.Cut.{OpenContainer, TakesValue, TakesKey}
use Rattle.bencode_wire.specs.Inside.Cut.{Token, between, after_i, after_minus, digits, count, part, Cut, cut}
use Rattle.bencode_wire.specs.Inside.Cut.{IsCut, sorted_frames, sorted_cut}
use Rattle.bencode_wire.specs.Fault.{counted_place, fault_at}
use Rattle.bencode_wire.specs.Inside.ByteSteps.{StreamReading, rests, ended_reading, stream_reading, start}
use Rattle.bencode_wire.specs.Stream.{StreamEnding, rest, fault, IsRest, Streams}
use Rattle.bencode_wire.specs.Inside.Course.{ready_view}
use Rattle.bencode_wire.specs.Inside.HasCome.{HasCome}
use Rattle.bencode_wire.specs.Inside.GoingBack.{IsInside}
use Rattle.bencode_wire.specs.Inside.Decoder.{limit_of, ready_of, held_of, rest_size, bytes_read, fault_of, Shows}
use Rattle.bencode_wire.specs.Inside.Decoder.{IsUnchanged, DecoderStands}
use Rattle.bencode_wire.specs.Inside.Decoding.{HoldsRest}
use Rattle.bencode_wire.specs.declared.ben.Ben.{Ben}
use Rattle.bencode_wire.specs.declared.decoder.Decoder.{Decoder}
use Rattle.bencode_wire.specs.declared.fault.WireFault.{WireFault}
use Rattle.bencode_wire.proofs.Kept.{Kept, kept_none, rest_of_kept, rest_kept, kept_cut, kept_is}
use Rattle.bencode_wire.proofs.Streams.{streams_stay}

same_cut : (a b : ℕ) (c d : Cut) (r : StreamReading) → r ≡ ended_reading (rests a c) → r ≡ ended_reading (rests b d) → c ≡ d
same_cut a b c d r e f = let g : rests a c ≡ rests b d = ap (λ r. r.end) (sym e ∙ f) in cc

-- what has come is what the machine makes of it
pub come_kept : (limit : ℕ) (held : Cut) (come : ℕ) (m : List ℕ) → IsRest limit m → HasCome held come m → Kept limit m held
come_kept limit held come m is h =
    let k = rest_kept limit m is in
    let same : k.0 ≡ held = kept_is limit m k.0 h.cut k.1 h.is_cut h.text ∙ sym h.sorted in
    subst (λ c. Kept limit m c) same k.1

pub kept_come : (limit : ℕ) (held : Cut) (come : ℕ) (m : List ℕ) → IsRest limit m → length m ≡ come
    → stream_reading limit put_sorted 0 start 0 m ≡ ended_reading (rests come held) → HasCome held come m
kept_come limit held come m is long e =
    let k = rest_kept limit m is in
    let same : k.0 ≡ held = same_cut _ _ k.0 held _ k.1.reads e in
    let d = kept_cut limit m k.0 k.1 in
    record { cut = d.0; is_cut = d.1; text = d.2; sorted = sym same ∙ d.3; long = sym long }

-- before any byte
none_come : HasCome start 0 []
none_come = record { cut = start; is_cut = tt; text = refl; sorted = refl; long = refl }

pub holds_none : (limit : ℕ) (held : Cut) → held ≡ start → HoldsRest limit held 0
holds_none limit held e = subst (λ c. HoldsRest limit c 0) (sym e) ([], rest_of_kept limit [] start (kept_none limit), none_come)

-- the same is held
pub holds_same : (limit : ℕ) (a b : Cut) (m n : ℕ) → b ≡ a → n ≡ m → HoldsRest limit a m → HoldsRest limit b n
holds_same limit a b m n e f h = subst (λ c. HoldsRest limit c n) (sym e) (subst (λ k. HoldsRest limit a k) (sym f) h)

-- a string comes inside of something
takes_some : (fs : List OpenContainer) → TakesValue fs ⊎ TakesKey fs → 0 < length (sorted_frames fs)
takes_some [] (inl h) = absurd h
takes_some [] (inr h) = absurd h
takes_some (f ∷ fs) h = omega arith

cut_inside : (fs : List OpenContainer) (token : Token) → IsCut (cut fs token) → IsInside (sorted_frames fs) token
cut_inside fs between h = tt
cut_inside fs after_i h = tt
cut_inside fs after_minus h = tt
cut_inside fs (digits negative n) h = tt
cut_inside fs (count n) h = tt
cut_inside fs (part bytes left) h = takes_some fs h.0

inside_at : (fs : List OpenContainer) (token : Token) (c : Cut) → IsCut c → cut fs token ≡ sorted_cut c → IsInside fs token
inside_at fs token (cut gs other) is e =
    let frames : sorted_frames gs ≡ fs = cc in
    let tokens : other ≡ token = cc in
    subst (λ t. IsInside fs t) tokens (subst (λ hs. IsInside hs other) frames (cut_inside gs other is))

pub holds_inside : (limit : ℕ) (fs : List OpenContainer) (token : Token) (come : ℕ) → HoldsRest limit (cut fs token) come → IsInside fs token
holds_inside limit fs token come h = let is = h.2 in inside_at fs token is.cut is.is_cut is.sorted

-- what stands, by its parts
pub record Standing (limit : ℕ) (held : Cut) (come read : ℕ) (found : Option WireFault) (all : List ℕ) (messages : List Tree) : Type 0 where
  pub end : StreamEnding
  pub streams : Streams limit 0 all messages end
  pub shows : Shows held come read found all end

pub standing_of : (limit : ℕ) (d : Decoder) (all : List ℕ) (taken : List Tree) → DecoderStands limit d all taken
    → Standing limit (held_of d) (rest_size d) (bytes_read d) (fault_of d) all (taken ++ ready_of d)
standing_of limit d all taken s = record { end = s.end; streams = s.streams; shows = s.shows }

pub decoder_stands : (limit : ℕ) (d : Decoder) (all : List ℕ) (taken : List Tree) → limit_of d ≡ limit
    → Standing limit (held_of d) (rest_size d) (bytes_read d) (fault_of d) all (taken ++ ready_of d) → DecoderStands limit d all taken
decoder_stands limit d all taken within s = record { end = s.end; streams = s.streams; shows = s.shows; within = within }

pub none_some : (f : WireFault) (o : Option WireFault) → o ≡ None → o ≡ Some f → ⊥
none_some f o e h = cc

-- where there is no fault, part of a message is held
pub record Resting (limit : ℕ) (held : Cut) (come read : ℕ) (all : List ℕ) (messages : List Tree) : Type 0 where
  pub m : List ℕ
  pub streams : Streams limit 0 all messages (rest m)
  pub has : HasCome held come m
  pub counted : read ≡ counted_place (length all)

resting_at : (limit : ℕ) (held : Cut) (come read : ℕ) (found : Option WireFault) (all : List ℕ) (messages : List Tree) (end : StreamEnding) → found ≡ None
    → Streams limit 0 all messages end → Shows held come read found all end → Resting limit held come read all messages
resting_at limit held come read found all messages (rest m) none streams shows = record { m = m; streams = streams; has = shows.1; counted = shows.2 }
resting_at limit held come read found all messages (fault rule at) none streams shows = absurd (none_some (fault_at rule (counted_place at)) found none shows)

pub resting_of : (limit : ℕ) (held : Cut) (come read : ℕ) (found : Option WireFault) (all : List ℕ) (messages : List Tree) → found ≡ None
    → Standing limit held come read found all messages → Resting limit held come read all messages
resting_of limit held come read found all messages none s = resting_at limit held come read found all messages s.end none s.streams s.shows

pub standing_at : (limit : ℕ) (held : Cut) (come read : ℕ) (found : Option WireFault) (all : List ℕ) (messages : List Tree) → found ≡ None → Resting limit held come read all messages
    → Standing limit held come read found all messages
standing_at limit held come read found all messages none r = record { end = rest r.m; streams = r.streams; shows = (none, r.has, r.counted) }

-- before any byte
pub standing_new : (limit : ℕ) (held : Cut) (ready : List Ben) → held ≡ start → ready ≡ [] → Standing limit held 0 0 None [] (ready_view ready)
standing_new limit held ready e none =
    subst (λ vs. Standing limit held 0 0 None [] (ready_view vs)) (sym none) (subst (λ c. Standing limit c 0 0 None [] []) (sym e)
    (record { end = rest []; streams = (rest_of_kept limit [] start (kept_none limit), refl); shows = (refl, none_come, refl) }))

stays_at : (limit : ℕ) (held : Cut) (come read : ℕ) (found : Option WireFault) (all piece : List ℕ) (messages : List Tree) (end : StreamEnding) (f : WireFault) → found ≡ Some f
    → Streams limit 0 all messages end → Shows held come read found all end → Standing limit held come read found (all ++ piece) messages
stays_at limit held come read found all piece messages (rest m) f is streams shows = absurd (none_some f found shows.0 is)
stays_at limit held come read found all piece messages (fault rule at) f is streams shows =
    record { end = fault rule at; streams = streams_stay limit 0 all piece messages rule at streams; shows = shows }

-- a fault stays
pub feed_stays : (limit : ℕ) (d : Decoder) (all : List ℕ) (taken : List Tree) (piece : List ℕ) (f : WireFault) → fault_of d ≡ Some f → DecoderStands limit d all taken → DecoderStands limit d (all ++ piece) taken
feed_stays limit d all taken piece f is s =
    decoder_stands limit d (all ++ piece) taken s.within
    (stays_at limit (held_of d) (rest_size d) (bytes_read d) (fault_of d) all piece (taken ++ ready_of d) s.end f is s.streams s.shows)

pub shows_same : (a b : Cut) (m n i j : ℕ) (f g : Option WireFault) (all : List ℕ) (end : StreamEnding) → b ≡ a → n ≡ m → j ≡ i → g ≡ f → Shows a m i f all end → Shows b n j g all end
shows_same a b m n i j f g all end c d e h s =
    subst (λ x. Shows x n j g all end) (sym c) (subst (λ x. Shows a x j g all end) (sym d) (subst (λ x. Shows a m x g all end) (sym e) (subst (λ x. Shows a m i x all end) (sym h) s)))

-- a decoder that shows the same stands for the same
pub stands_same : (limit : ℕ) (old new : Decoder) (all : List ℕ) (taken : List Tree) → IsUnchanged old new → DecoderStands limit old all taken → DecoderStands limit new all taken
stands_same limit old new all taken same s = record {
  end = s.end;
  streams = subst (λ ms. Streams limit 0 all (taken ++ ms) s.end) (sym same.ready) s.streams;
  shows = shows_same (held_of old) (held_of new) (rest_size old) (rest_size new) (bytes_read old) (bytes_read new) (fault_of old) (fault_of new) all s.end same.held same.come same.read same.fault s.shows;
  within = same.limit ∙ s.within;
}

pub unchanged_from : (old seen new : Decoder) → seen ≡ old → IsUnchanged seen new → IsUnchanged old new
unchanged_from old seen new e same = subst (λ d. IsUnchanged d new) e same
