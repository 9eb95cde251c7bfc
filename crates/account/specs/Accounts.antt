-- An account of the answers given.
use Rattle.std.specs.Prelude.{ℕ, ◌+◌, ◌-◌, ◌^◌, min, List, [], ◌∷◌, ◌++◌, length, codes, decimal}
use Rattle.reply.specs.declared.Reply.{Reply}
use Rattle.reply.specs.declared.Reply.TheVariants.{Hash, Malformed, Text, Covers, Digest, Mistaken}

-- each hash that a text read as, in the order of the texts, and how many answers of each other kind there were that an account is given of
pub record Tally : Type 0 where
  pub hashes : List (List ℕ)
  pub malformed : ℕ
  pub written : ℕ
  pub judged : ℕ
  pub mistakes : ℕ

abbrev pub empty : Tally
empty = record { hashes = []; malformed = 0; written = 0; judged = 0; mistakes = 0 }

-- one more; a count stays at the largest number of 64 bits
abbrev pub one_more : ℕ → ℕ
one_more n = min (n + 1) (2 ^ 64 - 1)

-- with one answer more
abbrev pub noted : Tally → Reply → Tally
noted t (Hash value) = record { hashes = t.hashes ++ value ∷ []; malformed = t.malformed; written = t.written; judged = t.judged; mistakes = t.mistakes }
noted t Malformed = record { hashes = t.hashes; malformed = one_more t.malformed; written = t.written; judged = t.judged; mistakes = t.mistakes }
noted t (Text value) = record { hashes = t.hashes; malformed = t.malformed; written = one_more t.written; judged = t.judged; mistakes = t.mistakes }
noted t (Covers answer) = record { hashes = t.hashes; malformed = t.malformed; written = t.written; judged = one_more t.judged; mistakes = t.mistakes }
noted t (Digest value) = t
noted t (Mistaken mistake) = record { hashes = t.hashes; malformed = t.malformed; written = t.written; judged = t.judged; mistakes = one_more t.mistakes }

-- counts as lines of commentary
abbrev pub count_text : ℕ → ℕ → ℕ → ℕ → ℕ → List ℕ
count_text read malformed written judged mistakes =
    codes "# texts read as a hash: " ++ (decimal read
    ++ (codes "\n# texts malformed: " ++ (decimal malformed
    ++ (codes "\n# texts written: " ++ (decimal written
    ++ (codes "\n# terms judged: " ++ (decimal judged
    ++ (codes "\n# lines in error: " ++ (decimal mistakes ++ codes "\n")))))))))

abbrev pub count_lines : Tally → List ℕ
count_lines t = count_text (length t.hashes) t.malformed t.written t.judged t.mistakes
