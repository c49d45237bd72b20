-- A decoder after a piece can go back to what it was before it.
use Rattle.std.proofs.Common.{◌≡◌, ℕ, ◌==◌, List, [], ◌∷◌, ◌++◌, length, map, Option, Some, None, IfSome, option_map}
use Rattle.std.proofs.Common.{refl, sym, ap, ◌∙◌, subst, append-nil, Bool, true, false}
use Rattle.std.proofs.Common.{Result, Ok, Err, OnOk}
use Rattle.std.specs.Bool.{then_some}
use Rattle.std.specs.Result.{is_err}
use Rattle.std.specs.declared.alloc.AllocError.{AllocError}
use Rattle.bencode_wire.specs.Tree.{Tree}
use Rattle.bencode_wire.specs.Inside.View.{tree_view}
use Rattle.bencode_wire.specs.Inside.Cut.{OpenContainer, Token, Cut, cut}
use Rattle.bencode_wire.specs.Inside.State.{Earlier}
use Rattle.bencode_wire.specs.Stream.{Streams}
use Rattle.bencode_wire.specs.Inside.GoingBack.{WasBefore}
use Rattle.bencode_wire.specs.Inside.Decoding.{earlier_in, HoldsRest}
use Rattle.bencode_wire.specs.Inside.Decoder.{limit_of, ready_of, held_of, rest_size, bytes_read, fault_of, DecoderStands}
use Rattle.bencode_wire.specs.Inside.Return.{earlier_of, CanReturn}
use Rattle.bencode_wire.specs.declared.ben.Ben.{Ben}
use Rattle.bencode_wire.specs.declared.cut.Reader.{Reader}
use Rattle.bencode_wire.specs.declared.decoder.Before.{Before}
use Rattle.bencode_wire.specs.declared.decoder.Decoder.{Decoder}
use Rattle.bencode_wire.proofs.Decoders.{shows_same}

-- a decoder goes back to what it was
pub record IsEarlier (old : Decoder) (e : Earlier) (frames : List OpenContainer) (token : Token) : Type 0 where
  pub ready : ready_of old ≡ []
  pub fault : fault_of old ≡ None
  pub held : held_of old ≡ cut frames token
  pub come : e.come ≡ rest_size old
  pub read : e.read ≡ bytes_read old

pub can_return : (limit : ℕ) (all : List ℕ) (taken : List Tree) (old new : Decoder) (e : Earlier) (frames : List OpenContainer) (token : Token) → DecoderStands limit old all taken
    → IsEarlier old e frames token → limit_of new ≡ limit_of old → earlier_of new ≡ Some e → WasBefore new.reader frames token → CanReturn limit new all taken
can_return limit all taken old new e frames token s is within found was = record {
  earlier = e;
  is = found;
  frames = frames;
  token = token;
  was = was;
  end = s.end;
  streams = subst (λ ms. Streams limit 0 all ms s.end) (ap (λ ms. taken ++ ms) is.ready ∙ append-nil taken) s.streams;
  shows = shows_same (held_of old) (cut frames token) (rest_size old) e.come (bytes_read old) e.read (fault_of old) None all s.end (sym is.held) is.come is.read (sym is.fault) s.shows;
  within = within ∙ s.within;
}

-- it has gone back
pub record HasReturned (old new : Decoder) (e : Earlier) : Type 0 where
  pub limit : limit_of new ≡ limit_of old
  pub ready : ready_of new ≡ []
  pub fault : fault_of new ≡ None
  pub held : (frames : List OpenContainer) (token : Token) → WasBefore old.reader frames token → held_of new ≡ cut frames token
  pub come : rest_size new ≡ e.come
  pub read : bytes_read new ≡ e.read

same_some : (a b : Earlier) (o : Option Earlier) → o ≡ Some a → o ≡ Some b → a ≡ b
same_some a b o e f = let g : Some a ≡ Some b = sym e ∙ f in cc

pub returned : (limit : ℕ) (all : List ℕ) (taken : List Tree) (old new : Decoder) (e : Earlier) → earlier_of old ≡ Some e → HasReturned old new e → CanReturn limit old all taken → DecoderStands limit new all taken
returned limit all taken old new e found is can =
    let same : e ≡ can.earlier = same_some e can.earlier (earlier_of old) found can.is in
    record {
      end = can.end;
      streams = subst (λ ms. Streams limit 0 all ms can.end) (sym (ap (λ ms. taken ++ ms) is.ready ∙ append-nil taken)) can.streams;
      shows = shows_same (cut can.frames can.token) (held_of new) can.earlier.come (rest_size new) can.earlier.read (bytes_read new) None (fault_of new) all can.end
          (is.held can.frames can.token can.was) (is.come ∙ ap (λ e. e.come) same) (is.read ∙ ap (λ e. e.read) same) is.fault can.shows;
      within = is.limit ∙ can.within;
    }

-- what begins a piece has an outcome
pub ok_then : (r : Result (Unit {0}) AllocError) (P : Type 0) → false ≡ is_err r → OnOk r P → P
ok_then (Ok done) P e h = h
ok_then (Err none) P e h = absurd (cc)

pub none_ready : (values : List Ben) → map tree_view values ≡ [] → length values ≡ 0
none_ready [] e = refl
none_ready (value ∷ values) e = cc

-- how far it was is noted where no message was ready
pub noted_before : (b : Bool) (o : Option Before) (before : Before) (P : Before → Type 0) → o ≡ then_some b before → P before → IfSome o P
noted_before true o before P e p = subst (λ o. IfSome o P) (sym e) p
noted_before false o before P e p = subst (λ o. IfSome o P) (sym e) tt

pub not_noted : (o : Option Before) (P : Before → Type 0) → o ≡ None → IfSome o P
not_noted o P e = subst (λ o. IfSome o P) (sym e) tt

pub noted : (o : Option Before) (n : ℕ) (before : Before) → n ≡ 0 → o ≡ then_some (n == 0) before → option_map earlier_in o ≡ Some (earlier_in before)
noted o n before e is = ap (option_map earlier_in) (is ∙ ap (λ n. then_some (n == 0) before) e)

-- what was before a piece, and may be gone back to
abbrev pub StoodBefore : ℕ → Reader → Before → Type 0
StoodBefore limit reader b = (frames : List OpenContainer) × (token : Token) × WasBefore reader frames token × HoldsRest limit (cut frames token) b.come

pub stood_some : (o : Option Before) (before : Before) (P : Before → Type 0) → o ≡ Some before → IfSome o P → P before
stood_some o before P e h = subst (λ o. IfSome o P) e h

-- what is held after going back
pub holds_back : (limit : ℕ) (reader : Reader) (b : Before) (held : Cut) → StoodBefore limit reader b
    → ((frames : List OpenContainer) (token : Token) → WasBefore reader frames token → held ≡ cut frames token) → HoldsRest limit held b.come
holds_back limit reader b held s back = subst (λ c. HoldsRest limit c b.come) (sym (back s.0 s.1 s.2)) s.3
