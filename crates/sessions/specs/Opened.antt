-- Sessions, and what a new last number leaves of the open ones.
use Rattle.std.specs.Prelude.{◌≡◌, ℕ, ◌<◌, Bool, ◌&&◌, List, [], length, ◌==◌, ◌≢◌, slice_index_or, slice_set}
use Rattle.std.specs.Str.{bytes_eq}
use Rattle.sessions.specs.declared.types.Session.{Session}
use Rattle.sessions.specs.declared.types.SessionName.{SessionName}

-- a session goes by its id and its signer
abbrev pub name_of : Session → SessionName
name_of s = record { id = s.id; signer = s.signer }

abbrev pub same_name : SessionName → SessionName → Bool
same_name a b = a.id == b.id && bytes_eq a.signer b.signer

-- the session with n as its last number
abbrev pub with_last : ℕ → Session → Session
with_last n s = record { id = s.id; signer = s.signer; key = s.key; last = n }

-- a session of zeros, which no table answers
abbrev pub blank_session : Session
blank_session = record { id = 0; signer = []; key = []; last = 0 }

-- the list with n as the last number of the session at place i, and the list itself where there is none
abbrev pub used_at : List Session → ℕ → ℕ → List Session
used_at ss i n = slice_set ss i (with_last n (slice_index_or ss i blank_session))

-- from ss to ts the last number of the session at place i became n, and nothing else changed
unfoldable pub OnlyLast : List Session → ℕ → ℕ → List Session → Type 0
OnlyLast ss i n ts =
    (length ts ≡ length ss)
    × ((j : ℕ) (d : Session) → (j ≢ i) → slice_index_or ts j d ≡ slice_index_or ss j d)
    × ((d : Session) → i < length ss → slice_index_or ts i d ≡ with_last n (slice_index_or ss i d))
