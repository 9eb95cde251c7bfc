-- What a state of the streaming form has taken in.
use Rattle.std.specs.Prelude.{◌≡◌, ℕ, ◌*◌, ◌/◌, ◌%◌, ◌^◌, List, ◌++◌, length, take, drop}
use Rattle.sha1_hmac.specs.Message.{hashed}
use Rattle.sha1_hmac.specs.declared.stream.Sha1.{Sha1}

-- The state has absorbed the message: the words are the hash value after its whole blocks,
-- the buffer begins with the bytes past them, and the total is its length.
pub record Absorbed (state : Sha1) (message : List ℕ) : Type 0 where
  pub words : state.words ≡ hashed message (length message / 64)
  pub held : take (length message % 64) state.buffer ≡ drop (64 * (length message / 64)) message
  pub total : state.total ≡ length message % 2 ^ 64

-- Whatever message the state had absorbed, it has absorbed that message and then the part.
abbrev pub Absorbs : Sha1 → Sha1 → List ℕ → Type 0
Absorbs before after part = (message : List ℕ) → Absorbed before message → Absorbed after (message ++ part)
