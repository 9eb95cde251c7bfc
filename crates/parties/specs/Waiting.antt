-- Commands that are kept in place.
use Rattle.std.specs.Prelude.{ℕ, Bool, ◌&&◌, List, length, nat_le}

-- A name of 1 to 16 bytes, and a payload of at most 16.
unfoldable pub is_sendable : List ℕ → List ℕ → Bool
is_sendable name payload = (nat_le 1 (length name) && nat_le (length name) 16) && nat_le (length payload) 16
