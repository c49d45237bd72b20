-- How a decoder is kept. No public clause speaks of it.
use Rattle.std.specs.Prelude.{◌≡◌, ℕ, List, None, option_map, IfSome}
use Rattle.bencode_wire.specs.Inside.State.{DecoderState, Earlier}
use Rattle.bencode_wire.specs.Inside.Cut as cuts
use Rattle.bencode_wire.specs.Inside.Reader.{cut_view}
use Rattle.bencode_wire.specs.Inside.HasCome.{HasCome}
use Rattle.bencode_wire.specs.Inside.GoingBack.{WasBefore}
use Rattle.bencode_wire.specs.Stream.{IsRest}
use Rattle.bencode_wire.specs.declared.decoder.Before.{Before}
use Rattle.bencode_wire.specs.declared.decoder.Decoder.TheInside.{Inside}

abbrev pub earlier_in : Before → Earlier
earlier_in b = record { come = b.come; read = b.read }

abbrev pub shown_state : Inside → DecoderState
shown_state a = record {
  limit = a.limit;
  ready = a.ready.items;
  reader = a.message.reader;
  come = a.message.come;
  read = a.read;
  fault = a.fault;
  earlier = option_map earlier_in a.before;
}

-- so many bytes, part of a message, are held as this cut
abbrev pub HoldsRest : ℕ → cuts.Cut → ℕ → Type 0
HoldsRest limit held come = (m : List ℕ) × IsRest limit m × HasCome held come m

-- what is held is part of a message, and so is what was held before the last piece
pub record IsInStep (a : Inside) : Type 0 where
  pub rests : a.fault ≡ None → HoldsRest a.limit (cut_view a.message.reader) a.message.come
  pub before : IfSome a.before (λ b. (frames : List cuts.OpenContainer) × (token : cuts.Token)
      × WasBefore a.message.reader frames token × HoldsRest a.limit (cuts.cut frames token) b.come)
