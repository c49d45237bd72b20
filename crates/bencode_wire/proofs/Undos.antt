-- Reading on leaves the way back to what was before the last piece.
use Rattle.std.proofs.Common.{◌≡◌, ℕ, ◌+◌, ◌<◌, ◌≤◌, ◌⊎◌, inl, inr, List, [], ◌∷◌, ◌++◌, length, take, reverse, Option, Some, None, refl, sym, ap, ◌∙◌, subst, length-append, append-nil, arith}
use Rattle.std.proofs.lemmas.List.{reverse-append, length-reverse, take-append-le}
use Rattle.std.specs.Prelude.{option_to_list}
use Rattle.bencode_wire.specs.Tree.{Tree, integer, string, list, dictionary}
use Rattle.bencode_wire.specs.Inside.Cut as cuts
use Rattle.bencode_wire.specs.Inside.Reader.{frames_view, open_view}
use Rattle.bencode_wire.specs.Inside.Undoing.{settled_view, Changes, ChangedFrames, WereBefore, KeepsSettled, IsSame, Logs, Undoable, PutBy}
use Rattle.bencode_wire.specs.Inside.GoingBack.{IsStringToken, IsInside, HadCome, TokenWas, WasBefore, GoesBack}
use Rattle.bencode_wire.specs.declared.cut.Change.{Change}
use Rattle.bencode_wire.specs.declared.cut.Frames.{Frames}
use Rattle.bencode_wire.specs.declared.cut.Mark.{Mark}
use Rattle.bencode_wire.specs.declared.cut.OpenContainer.{OpenContainer}
use Rattle.bencode_wire.specs.declared.cut.Place.{Place}
use Rattle.bencode_wire.specs.declared.cut.Reader.{Reader}
use Rattle.bencode_wire.specs.declared.cut.Token.{Token}

-- one change more: the first, or on top of others
abbrev pub OneMore : List Change → Change → List cuts.OpenContainer → List cuts.OpenContainer → Option Tree → Option Tree → Type 0
OneMore cs c before now first value =
    ((cs ≡ []) × (first ≡ None) × ChangedFrames (c ∷ cs) before now value) ⊎ ChangedFrames (c ∷ cs) before now first

one_more : (cs : List Change) (c : Change) (before between now : List cuts.OpenContainer) (first value : Option Tree)
    → ChangedFrames cs before between first → Changes c between now value → OneMore cs c before now first value
one_more [] c before between now first value h made = inl (refl, h.1, subst (λ fs. Changes c fs now value) h.0 made)
one_more (d ∷ cs) c before between now first value h made = inr (between, value, made, h)

reverse-more : (cs : List Change) (c : Change) → reverse (cs ++ c ∷ []) ≡ c ∷ reverse cs
reverse-more cs c = reverse-append cs (c ∷ [])

reverse-none : (cs : List Change) → reverse cs ≡ [] → cs ≡ []
reverse-none [] e = refl
reverse-none (c ∷ cs) e =
    let size : length (c ∷ cs) ≡ 0 = sym (length-reverse (c ∷ cs)) ∙ ap length e in
    absurd (omega (arith, size))

abbrev pub WereStill : Frames → Frames → List cuts.OpenContainer → Option Tree → Option Tree → Type 0
WereStill old new before first value =
    ((old.changes.items ≡ []) × (first ≡ None) × WereBefore new before value) ⊎ WereBefore new before first

logged_by : (old new : Frames) (c : Change) (value : Option Tree) (before : List cuts.OpenContainer) (first : Option Tree)
    → c ∷ reverse old.changes.items ≡ reverse new.changes.items → length before ≡ length new.settled.items
    → OneMore (reverse old.changes.items) c before (settled_view new) first value → WereStill old new before first value
logged_by old new c value before first now long (inl h) =
    inl (reverse-none old.changes.items h.0, h.1, (subst (λ cs. ChangedFrames cs before (settled_view new) value) now h.2, long))
logged_by old new c value before first now long (inr h) = inr (subst (λ cs. ChangedFrames cs before (settled_view new) first) now h, long)

logged : (old new : Frames) (c : Change) (value : Option Tree) (before : List cuts.OpenContainer) (first : Option Tree)
    → Logs c value old new → WereBefore old before first → WereStill old new before first value
logged old new c value before first l w =
    let now : c ∷ reverse old.changes.items ≡ reverse new.changes.items = sym (reverse-more old.changes.items c) ∙ ap reverse (sym l.logged) in
    let long : length before ≡ length new.settled.items = w.1 ∙ sym l.long in
    logged_by old new c value before first now long (one_more (reverse old.changes.items) c before (settled_view old) (settled_view new) first value w.0 l.made)

kept : (old new : Frames) (before : List cuts.OpenContainer) (first : Option Tree) → KeepsSettled old new → WereBefore old before first → WereBefore new before first
kept old new before first k w = (
  subst (λ fs. ChangedFrames (reverse new.changes.items) before fs first) (sym k.settled)
      (subst (λ cs. ChangedFrames (reverse cs) before (settled_view old) first) (sym k.changes) w.0),
  w.1 ∙ sym k.long,
)

token_on : (t : Token) (old new : Reader) (first now : Option Tree) (token : cuts.Token)
    → ((bytes : List ℕ) (left : ℕ) → token ≡ cuts.part bytes left → HadCome old first bytes → HadCome new now bytes)
    → TokenWas t old first token → TokenWas t new now token
token_on Token.Between old new first now token on h = h
token_on Token.IntegerOpen old new first now token on h = h
token_on Token.IntegerMinus old new first now token on h = h
token_on (Token.IntegerDigits p) old new first now token on h = h
token_on (Token.Length n) old new first now token on h = h
token_on (Token.String p) old new first now token on h = (h.0, on h.0 p.left h.2 h.1, h.2)

-- where no string is read
had_on : (old new : Reader) (first : Option Tree) (bytes : List ℕ) → new.mark ≡ old.mark → (IsStringToken old.token → ⊥) → HadCome old first bytes → HadCome new first bytes
had_on old new None bytes mark other h = absurd (other h.3)
had_on old new (Some (integer n)) bytes mark other h = absurd h
had_on old new (Some (string all)) bytes mark other h = subst (λ (m : Mark). (m.come ≤ length all) × (bytes ≡ take m.come all)) (sym mark) h
had_on old new (Some (list ts)) bytes mark other h = absurd h
had_on old new (Some (dictionary ps)) bytes mark other h = absurd h

had_none : (old new : Reader) (first now : Option Tree) (bytes : List ℕ) → first ≡ None → (IsStringToken old.token → ⊥) → HadCome old first bytes → HadCome new now bytes
had_none old new first now bytes none other h =
    let g : HadCome old None bytes = subst (λ f. HadCome old f bytes) none h in
    absurd (other g.3)

was_still : (old new : Reader) (frames : List cuts.OpenContainer) (token : cuts.Token) (first now : Option Tree) → new.mark ≡ old.mark
    → WereBefore new.frames frames now → TokenWas old.mark.token new now token → IsInside frames token → WasBefore new frames token
was_still old new frames token first now mark were tw inside =
    (now, were, subst (λ (m : Mark). TokenWas m.token new now token) (sym mark) tw, inside)

still_by : (old new : Reader) (frames : List cuts.OpenContainer) (token : cuts.Token) (first value : Option Tree) → new.mark ≡ old.mark → (IsStringToken old.token → ⊥)
    → TokenWas old.mark.token old first token → IsInside frames token → WereStill old.frames new.frames frames first value → WasBefore new frames token
still_by old new frames token first value mark other tw inside (inl h) =
    was_still old new frames token first value mark h.2 (token_on old.mark.token old new first value token (λ bytes left is. had_none old new first value bytes h.1 other) tw) inside
still_by old new frames token first value mark other tw inside (inr h) =
    was_still old new frames token first first mark h (token_on old.mark.token old new first first token (λ bytes left is. had_on old new first bytes mark other) tw) inside

-- reading on from a token that is no string
pub read_back : (old new : Reader) → Undoable old.frames new.frames → new.mark ≡ old.mark → (IsStringToken old.token → ⊥) → GoesBack old new
read_back old new (inl k) mark other frames token w =
    was_still old new frames token w.0 w.0 mark (kept old.frames new.frames frames w.0 k w.1)
    (token_on old.mark.token old new w.0 w.0 token (λ bytes left is. had_on old new w.0 bytes mark other) w.2) w.3
read_back old new (inr l) mark other frames token w =
    still_by old new frames token w.0 l.1 mark other w.2 w.3 (logged old.frames new.frames l.0 l.1 frames w.0 l.2 w.1)

open_none : (f : Frames) → f.fresh.items ≡ [] → f.ended ≡ None → open_view f ≡ [] → settled_view f ≡ []
open_none f fresh ended e =
    ap (λ o. frames_view (option_to_list o ++ take f.live f.settled.items)) ended
    ∙ ap frames_view (sym (append-nil (take f.live f.settled.items)) ∙ ap (λ (fs : List OpenContainer). take f.live f.settled.items ++ fs) (sym fresh)) ∙ e

were_none : (cs : List Change) (before now : List cuts.OpenContainer) (first : Option Tree) → cs ≡ [] → ChangedFrames (reverse cs) before now first → now ≡ before
were_none cs before now first none h =
    let g : ChangedFrames [] before now first = subst (λ ds. ChangedFrames (reverse ds) before now first) none h in g.0

-- nothing is open where a string comes
not_outside : (old : Reader) (frames : List cuts.OpenContainer) (token : cuts.Token) (bytes s : List ℕ) (left : ℕ) → WereBefore old.frames frames None → HadCome old None bytes
    → open_view old.frames ≡ [] → token ≡ cuts.part s left → IsInside frames token → ⊥
not_outside old frames token bytes s left w h none is inside =
    let inside : 0 < length frames = subst (λ t. IsInside frames t) is inside in
    let empty : frames ≡ [] = sym (were_none old.frames.changes.items frames (settled_view old.frames) None h.0 w.0) ∙ open_none old.frames h.1 h.2 none in
    let size : length frames ≡ 0 = ap length empty in
    absurd (omega (arith, inside, size))

had_some : (old new : Reader) (t : Tree) (bytes : List ℕ) → new.mark ≡ old.mark → HadCome old (Some t) bytes → HadCome new (Some t) bytes
had_some old new (integer n) bytes mark h = absurd h
had_some old new (string all) bytes mark h = subst (λ (m : Mark). (m.come ≤ length all) × (bytes ≡ take m.come all)) (sym mark) h
had_some old new (list ts) bytes mark h = absurd h
had_some old new (dictionary ps) bytes mark h = absurd h

completed : (old new : Reader) (run all bytes : List ℕ) → new.mark ≡ old.mark → all ≡ old.string.items ++ run → HadCome old None bytes → HadCome new (Some (string all)) bytes
completed old new run all bytes mark more h =
    let come : new.mark.come ≡ old.mark.come = ap (λ (m : Mark). m.come) mark in
    let size : length all ≡ length old.string.items + length run = ap length more ∙ length-append old.string.items run in
    let was = h.4 in (
      omega (arith, come, size, was),
      h.5 ∙ sym (ap (λ n. take n all) come ∙ ap (λ (s : List ℕ). take old.mark.come s) more ∙ take-append-le old.mark.come old.string.items run h.4),
    )

none_some : (t : Tree) (o : Option Tree) → o ≡ None → o ≡ Some t → ⊥
none_some t o e h = cc

put_none : (new : Frames) (place : Place) (cs : List Change) (before now : List cuts.OpenContainer) → new.changes.items ≡ cs ++ Change.Put place ∷ [] → cs ≡ []
    → ChangedFrames (reverse new.changes.items) before now None → ⊥
put_none new place cs before now logged none h =
    let one : new.changes.items ≡ Change.Put place ∷ [] = logged ∙ ap (λ ds. ds ++ Change.Put place ∷ []) none in
    let made : Changes (Change.Put place) before now None = subst (λ ds. ChangedFrames (reverse ds) before now None) one h in
    none_some made.0 None refl made.2

put_first : (old new : Reader) (run all : List ℕ) (place : Place) (frames : List cuts.OpenContainer) (token : cuts.Token) → Logs (Change.Put place) (Some (string all)) old.frames new.frames
    → new.mark ≡ old.mark → all ≡ old.string.items ++ run → TokenWas old.mark.token old None token → IsInside frames token
    → WereStill old.frames new.frames frames None (Some (string all)) → WasBefore new frames token
put_first old new run all place frames token l mark more tw inside (inl h) =
    was_still old new frames token None (Some (string all)) mark h.2
    (token_on old.mark.token old new None (Some (string all)) token (λ bytes left is had. completed old new run all bytes mark more had) tw) inside
put_first old new run all place frames token l mark more tw inside (inr h) =
    was_still old new frames token None None mark h
    (token_on old.mark.token old new None None token
    (λ bytes left is had. absurd (put_none new.frames place old.frames.changes.items frames (settled_view new.frames) l.logged had.0 h.0)) tw) inside

put_later : (old new : Reader) (t v : Tree) (frames : List cuts.OpenContainer) (token : cuts.Token) → new.mark ≡ old.mark → TokenWas old.mark.token old (Some t) token → IsInside frames token
    → WereStill old.frames new.frames frames (Some t) (Some v) → WasBefore new frames token
put_later old new t v frames token mark tw inside (inl h) = absurd (none_some t (Some t) h.1 refl)
put_later old new t v frames token mark tw inside (inr h) =
    was_still old new frames token (Some t) (Some t) mark h (token_on old.mark.token old new (Some t) (Some t) token (λ bytes left is had. had_some old new t bytes mark had) tw) inside

none_fresh : (fs : List OpenContainer) → 0 < length fs → fs ≡ [] → ⊥
none_fresh fs some none = let size : length fs ≡ 0 = ap length none in absurd (omega (arith, some, size))

put_at : (old new : Reader) (run all : List ℕ) (frames : List cuts.OpenContainer) (token : cuts.Token) (first : Option Tree) → PutBy (string all) old.frames new.frames → new.mark ≡ old.mark
    → all ≡ old.string.items ++ run → WereBefore old.frames frames first → TokenWas old.mark.token old first token → IsInside frames token → WasBefore new frames token
put_at old new run all frames token None (inl (k, inl some)) mark more w tw inside =
    was_still old new frames token None None mark (kept old.frames new.frames frames None k w)
    (token_on old.mark.token old new None None token (λ bytes left is had. absurd (none_fresh old.frames.fresh.items some had.1)) tw) inside
put_at old new run all frames token None (inl (k, inr none)) mark more w tw inside =
    was_still old new frames token None None mark (kept old.frames new.frames frames None k w)
    (token_on old.mark.token old new None None token (λ bytes left is had. absurd (not_outside old frames token bytes bytes left w had none is inside)) tw) inside
put_at old new run all frames token None (inr l) mark more w tw inside =
    put_first old new run all l.0 frames token l.1 mark more tw inside (logged old.frames new.frames (Change.Put l.0) (Some (string all)) frames None l.1 w)
put_at old new run all frames token (Some t) (inl k) mark more w tw inside =
    was_still old new frames token (Some t) (Some t) mark (kept old.frames new.frames frames (Some t) k.0 w)
    (token_on old.mark.token old new (Some t) (Some t) token (λ bytes left is had. had_some old new t bytes mark had) tw) inside
put_at old new run all frames token (Some t) (inr l) mark more w tw inside =
    put_later old new t (string all) frames token mark tw inside (logged old.frames new.frames (Change.Put l.0) (Some (string all)) frames (Some t) l.1 w)

-- a string is whole and was put
pub put_back : (old new : Reader) (run all : List ℕ) → PutBy (string all) old.frames new.frames → new.mark ≡ old.mark → all ≡ old.string.items ++ run → GoesBack old new
put_back old new run all put mark more frames token w = put_at old new run all frames token w.0 put mark more w.1 w.2 w.3

none_long : (fs gs : List OpenContainer) → length gs ≡ length fs → fs ≡ [] → gs ≡ []
none_long fs [] e none = refl
none_long fs (g ∷ gs) e none = let size : length fs ≡ 0 = ap length none in absurd (omega (arith, e, size))

same_had : (old new : Reader) (first : Option Tree) (bytes : List ℕ) → IsSame old.frames new.frames → new.mark ≡ old.mark → new.token ≡ old.token → new.string.items ≡ old.string.items
    → HadCome old first bytes → HadCome new first bytes
same_had old new None bytes same mark token come h =
    let at : new.mark.come ≡ old.mark.come = ap (λ (m : Mark). m.come) mark in
    let size : length new.string.items ≡ length old.string.items = ap length come in
    let was = h.4 in (
      same.kept.changes ∙ h.0,
      none_long old.frames.fresh.items new.frames.fresh.items same.fresh h.1,
      same.ended ∙ h.2,
      subst (λ (t : Token). IsStringToken t) (sym token) h.3,
      omega (arith, at, size, was),
      h.5 ∙ sym (ap (λ n. take n new.string.items) at ∙ ap (λ (s : List ℕ). take old.mark.come s) come),
    )
same_had old new (Some t) bytes same mark token come h = had_some old new t bytes mark h

-- nothing has changed
pub same_back : (old new : Reader) → IsSame old.frames new.frames → new.mark ≡ old.mark → new.token ≡ old.token → new.string.items ≡ old.string.items → GoesBack old new
same_back old new same mark token come frames t w =
    was_still old new frames t w.0 w.0 mark (kept old.frames new.frames frames w.0 same.kept w.1)
    (token_on old.mark.token old new w.0 w.0 t (λ bytes left is had. same_had old new w.0 bytes same mark token come had) w.2) w.3

-- a put can be taken back
pub put_undoable : (t : Tree) (old new : Frames) → PutBy t old new → Undoable old new
put_undoable t old new (inl k) = inl k.0
put_undoable t old new (inr l) = inr (Change.Put l.0, Some t, l.1)
