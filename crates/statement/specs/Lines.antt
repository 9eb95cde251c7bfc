-- The lines of an input, and the words of a line.
use Rattle.std.specs.List.{list_all, before_first, after_first}
use Rattle.std.specs.Prelude.{ℕ, ◌-◌, Bool, false, cond, ◌||◌, List, [], ◌∷◌, length, take, ◌==◌, slice_index}

-- the bytes before the first separator, or all where there is none
abbrev pub before : ℕ → List ℕ → List ℕ
before sep bytes = before_first (λ c. c == sep) bytes

-- the bytes after the first separator
abbrev pub after : ℕ → List ℕ → List ℕ
after sep bytes = after_first (λ c. c == sep) bytes

-- a space or a tab
abbrev pub space : ℕ → Bool
space c = c == 32 || c == 9

-- spaces and tabs only
abbrev pub blank : List ℕ → Bool
blank line = list_all space line

-- a line that begins with '#'
abbrev pub comment : List ℕ → Bool
comment [] = false
comment (c ∷ cs) = c == 35

-- a byte before the lines of what follows it
abbrev pub longer : ℕ → List (List ℕ) → List (List ℕ)
longer c [] = (c ∷ []) ∷ []
longer c (l ∷ ls) = (c ∷ l) ∷ ls

-- the lines of an input: each ends with a line feed, and the last may lack it
abbrev pub lines_of : List ℕ → List (List ℕ)
lines_of [] = []
lines_of (c ∷ cs) = cond (c == 10) ([] ∷ lines_of cs) (longer c (lines_of cs))

-- without the carriage return that may stand before the line feed
abbrev pub trimmed : List ℕ → List ℕ
trimmed line = cond (slice_index line (length line - 1) == 13) (take (length line - 1) line) line
