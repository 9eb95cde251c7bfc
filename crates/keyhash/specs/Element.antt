-- The text of a key hash as consoles send it: the escaped hash element.
use Rattle.std.specs.Prelude.{ℕ, List, ◌++◌, drop, codes, Result}
use Rattle.refusal.specs.declared.Refusal.{Refusal}
use Rattle.keyhash.specs.Base64.{text, spelled}
use Rattle.keyhash.specs.Canonical.{read_by}

-- what stands before and after the 28 characters: 64 and 27 bytes
unfoldable pub opening : List ℕ
opening = codes "&lt;hash&gt;&lt;algorithm&gt;SHA1&lt;/algorithm&gt;&lt;value&gt;"

unfoldable pub closing : List ℕ
closing = codes "&lt;/value&gt;&lt;/hash&gt;"

-- the element of a hash
unfoldable pub element : List ℕ → List ℕ
element hash = opening ++ (text hash ++ closing)

-- the hash whose element the bytes are; all other bytes are malformed
unfoldable pub reading_element : List ℕ → Result (List ℕ) Refusal
reading_element = read_by element (λ bytes. spelled (drop 64 bytes))
