-- What the tenants of the tables send.
use Rattle.std.specs.Prelude.{ℕ, zero, suc, List, [], ◌∷◌, ◌++◌, codes, slice_get, unwrap_or}
use Rattle.bencode_wire.specs.Tree as wire
use Rattle.bencode_wire.specs.Tree.{no_pairs, pair}

-- Messages

-- the first two ids of the tenants 0 and 1 where the seed is zero
abbrev pub first_id : ℕ → List ℕ
first_id zero = codes "76b8e0ad-a0f1-4d90-805d-6ae55386bd28"
first_id (suc t) = codes "ef3fdfd6-c615-48fb-b5cf-35bd3dd33b80"

abbrev pub second_id : ℕ → List ℕ
second_id zero = codes "bdd219b8-a08d-4d1a-a836-efcc8b770dc7"
second_id (suc t) = codes "09631634-d21e-42ac-b396-0bd138e50d32"

abbrev pub text_tree : List ℕ → wire.Tree
text_tree bytes = wire.string bytes

-- with an id, in a session
abbrev pub eval_of : List ℕ → List ℕ → List ℕ → wire.Tree
eval_of id session code = wire.dictionary (pair (codes "op") (text_tree (codes "eval"))
    (pair (codes "id") (text_tree id) (pair (codes "session") (text_tree session)
    (pair (codes "code") (text_tree code) no_pairs))))

abbrev pub cloning : wire.Tree
cloning = wire.dictionary (pair (codes "op") (text_tree (codes "clone")) no_pairs)

abbrev pub closing_of : List ℕ → List ℕ → wire.Tree
closing_of id session = wire.dictionary (pair (codes "op") (text_tree (codes "close"))
    (pair (codes "id") (text_tree id) (pair (codes "session") (text_tree session) no_pairs)))

-- what a tenant sends: a clone, evals of the forms `d`, `r`, `s`, `h` and `t` in one of its
-- sessions, a close, evals of the form `c` in both, and evals of the forms `a`, `w`, `x`, `g` and
-- `p`
abbrev pub messages : ℕ → List wire.Tree
messages t =
    cloning
    ∷ eval_of (codes "1") (first_id t) (codes "d")
    ∷ eval_of (codes "2") (first_id t) (codes "r")
    ∷ eval_of (codes "3") (second_id t) (codes "s")
    ∷ eval_of (codes "4") (first_id t) (codes "h")
    ∷ eval_of (codes "5") (second_id t) (codes "t")
    ∷ closing_of (codes "7") (first_id t)
    ∷ eval_of (codes "8") (first_id t) (codes "c")
    ∷ eval_of (codes "9") (second_id t) (codes "c")
    ∷ eval_of (codes "10") (first_id t) (codes "a")
    ∷ eval_of (codes "11") (first_id t) (codes "w")
    ∷ eval_of (codes "12") (second_id t) (codes "x")
    ∷ eval_of (codes "13") (first_id t) (codes "g")
    ∷ eval_of (codes "14") (first_id t) (codes "p") ∷ []

-- the message at this place among those of the tenants 0 and 1
abbrev pub message_of : ℕ → wire.Tree
message_of n = unwrap_or (slice_get (messages 0 ++ messages 1) n) cloning
