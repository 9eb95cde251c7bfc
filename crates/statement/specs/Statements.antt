-- What a line says.
use Rattle.std.specs.Prelude.{ℕ, cond, ◌||◌, List, codes}
use Rattle.std.specs.Str.{bytes_eq}
use Rattle.statement.specs.declared.Statement.{Statement}
use Rattle.statement.specs.declared.Statement.TheVariants.{Nothing, Hash, Text, Covers, Sha1, Hmac, Unknown}
use Rattle.statement.specs.Lines.{before, after, blank, comment}

-- nothing, or a statement with the bytes of its argument
pub data Said : Type 0 where
  nothing : Said
  hash : List ℕ → Said
  text : List ℕ → Said
  covers : List ℕ → Said
  sha1 : List ℕ → Said
  hmac : List ℕ → Said
  unknown : Said

abbrev pub says : List ℕ → Said
says line =
    cond (blank line || comment line) nothing
    (cond (bytes_eq (before 32 line) (codes "hash")) (hash (after 32 line))
    (cond (bytes_eq (before 32 line) (codes "text")) (text (after 32 line))
    (cond (bytes_eq (before 32 line) (codes "covers")) (covers (after 32 line))
    (cond (bytes_eq (before 32 line) (codes "sha1")) (sha1 (after 32 line))
    (cond (bytes_eq (before 32 line) (codes "hmac")) (hmac (after 32 line)) unknown)))))

-- the same of a statement that was read
abbrev pub said : Statement → Said
said Nothing = nothing
said (Hash argument) = hash argument.now
said (Text argument) = text argument.now
said (Covers argument) = covers argument.now
said (Sha1 argument) = sha1 argument.now
said (Hmac argument) = hmac argument.now
said Unknown = unknown
