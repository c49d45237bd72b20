use Rattle.std.proofs.Common.{◌≡◌, take, ◌++◌, ◌≤◌, vec_len, cond}
use Rattle.std.specs.Prelude.{is_some}
use Rattle.bencode_wire.specs.Inside.Reader.{frames_view}
use Rattle.bencode_wire.proofs.cut.Frames.copy.Given as goal

-- the copy's settled, live, ended, changes and fresh
abbrev pub invariant-loop-container : goal.invariant-loop-container
invariant-loop-container l = record {
  within : l.copied.1.0 ≤ vec_len l.copied.0;
  ended_alone : cond (is_some l.copied.1.1.0) l.copied.1.0 0 ≡ 0;
  copied : frames_view (take l.copied.1.0 l.copied.0.items ++ l.copied.1.1.1.1.0.items) ≡ frames_view (take l.container-index l.container-items);
}

abbrev pub invariant-loop-container-2 : goal.invariant-loop-container-2
invariant-loop-container-2 l = record {
  within : l.copied.1.0 ≤ vec_len l.copied.0;
  ended_alone : cond (is_some l.copied.1.1.0) l.copied.1.0 0 ≡ 0;
  copied : frames_view (take l.copied.1.0 l.copied.0.items ++ l.copied.1.1.1.1.0.items) ≡ frames_view (take l.self.live l.self.settled.items ++ take l.container-index l.container-items);
}
