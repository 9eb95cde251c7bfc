-- What is answered to a statement, and the line that says so.
use Rattle.std.specs.Prelude.{ℕ, Bool, true, false, cond, List, [], ◌∷◌, ◌++◌, length, Some, None, Ok, Err, codes, decimal, Option, Result, ◌==◌}
use Rattle.refusal.specs.declared.Refusal.{Refusal}
use Rattle.sha1_hmac.specs.Keyed.{hmac_of, key_from}
use Rattle.sha1_hmac.specs.Message.{digest}
use Rattle.permission.specs.Reading.{covering}
use Rattle.keyhash.specs.Element.{element, reading_element}
use Rattle.reply.specs.declared.Mistake.{Mistake}
use Rattle.reply.specs.declared.Mistake.TheVariants.{UnknownStatement, NoText, NotFortyDigits, NoTermAndName, NoBytes, NoKeyAndBytes}
use Rattle.reply.specs.declared.Reply.{Reply}
use Rattle.reply.specs.declared.Reply.TheVariants.{Hash, Malformed, Text, Covers, Digest, Mistaken}
use Rattle.hexadecimal.specs.Hex.{hex_text, hex_bytes, bytes_named}
use Rattle.statement.specs.Lines.{before, after}
use Rattle.statement.specs.Statements.{Said, nothing, hash, text, covers, sha1, hmac, unknown}

abbrev pub read_reply : Result (List ℕ) Refusal → Reply
read_reply (Ok value) = Hash value
read_reply (Err refusal) = Malformed

abbrev pub hash_reply : List ℕ → Reply
hash_reply [] = Mistaken NoText
hash_reply (c ∷ cs) = read_reply (reading_element (c ∷ cs))

abbrev pub text_reply : Option (List ℕ) → Reply
text_reply None = Mistaken NotFortyDigits
text_reply (Some value) = cond (length value == 20) (Text (element value)) (Mistaken NotFortyDigits)

-- the answer for a term, if there is one, and a name
abbrev pub term_reply : Option (List ℕ) → List ℕ → Reply
term_reply None name = Mistaken NoTermAndName
term_reply (Some term) name = Covers (covering term name)

abbrev pub covers_reply : List ℕ → List ℕ → Reply
covers_reply digits [] = Mistaken NoTermAndName
covers_reply digits (c ∷ cs) = term_reply (bytes_named digits) (c ∷ cs)

abbrev pub sha1_reply : Option (List ℕ) → Reply
sha1_reply None = Mistaken NoBytes
sha1_reply (Some bytes) = Digest (digest bytes)

abbrev pub tag_reply : Option (List ℕ) → List ℕ → Reply
tag_reply None bytes = Mistaken NoKeyAndBytes
tag_reply (Some key) bytes = Digest (hmac_of key bytes)

abbrev pub keyed_reply : List ℕ → Option (List ℕ) → Reply
keyed_reply key None = Mistaken NoKeyAndBytes
keyed_reply key (Some bytes) = tag_reply (key_from key) bytes

abbrev pub hmac_reply : Option (List ℕ) → Option (List ℕ) → Reply
hmac_reply None bytes = Mistaken NoKeyAndBytes
hmac_reply (Some key) bytes = keyed_reply key bytes

-- the answer to what a line says, if it says something
abbrev pub reply_to : Said → Option Reply
reply_to nothing = None
reply_to (hash bytes) = Some (hash_reply bytes)
reply_to (text hex) = Some (text_reply (hex_bytes hex))
reply_to (covers argument) = Some (covers_reply (before 32 argument) (after 32 argument))
reply_to (sha1 word) = Some (sha1_reply (bytes_named word))
reply_to (hmac argument) = Some (hmac_reply (bytes_named (before 32 argument)) (bytes_named (after 32 argument)))
reply_to unknown = Some (Mistaken UnknownStatement)

-- the reason that is given for a mistake
abbrev pub reason : Mistake → List ℕ
reason UnknownStatement = codes "unknown statement, expected: hash TEXT, text HEX, covers TERMHEX NAME, sha1 HEX or hmac KEYHEX HEX"
reason NoText = codes "no text, expected: hash TEXT"
reason NotFortyDigits = codes "not 40 hexadecimal digits, expected: text HEX"
reason NoBytes = codes "not hexadecimal digits, expected: sha1 HEX"
reason NoKeyAndBytes = codes "not a key of at most 20 bytes and hexadecimal digits, expected: hmac KEYHEX HEX"
reason NoTermAndName = codes "not hexadecimal digits and a name, expected: covers TERMHEX NAME"

-- yes, no or malformed
abbrev pub verdict : Result Bool Refusal → List ℕ
verdict (Ok true) = codes "yes"
verdict (Ok false) = codes "no"
verdict (Err refusal) = codes "malformed"

-- the line that is printed for an answer to the statement on a line
abbrev pub printed : ℕ → Reply → List ℕ
printed number (Hash value) = codes "hash " ++ hex_text value
printed number Malformed = codes "malformed"
printed number (Text value) = codes "text " ++ value
printed number (Covers answer) = verdict answer
printed number (Digest value) = hex_text value
printed number (Mistaken mistake) = codes "error " ++ (decimal number ++ (codes ": " ++ reason mistake))
