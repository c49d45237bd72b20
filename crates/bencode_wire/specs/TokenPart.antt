-- How much of a token has come where bytes of a message break off.
use Rattle.std.specs.Prelude.{◌≡◌, ℕ, ◌≤◌, ◌⊎◌, List, [], ◌++◌, length}
use Rattle.bencode_wire.specs.Stream.{AwaitsString}

-- no token is open behind these bytes: a string may begin there, or the message
abbrev pub IsBetweenTokens : List ℕ → Type 0
IsBetweenTokens m = (m ≡ []) ⊎ AwaitsString m

-- so many of the last bytes are part of a token: those behind the last place between two tokens
abbrev pub HoldsOfToken : List ℕ → ℕ → Type 0
HoldsOfToken m n =
    (front : List ℕ) × (token : List ℕ) × IsBetweenTokens front × (m ≡ front ++ token)
    × (length token ≡ n)
    × ((other more : List ℕ) → IsBetweenTokens other → m ≡ other ++ more
    → length other ≤ length front)
