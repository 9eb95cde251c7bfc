-- Four rounds at a time, with four words of the schedule, as the program takes them.
use Rattle.std.specs.Prelude.{ℕ, zero, suc, ◌+◌, List, [], ◌∷◌, slice_index}
use Rattle.sha1_hmac.specs.Words.{choice}
use Rattle.sha1_hmac.specs.Compression.{constant, big_endian, mixed, round}
use Rattle.sha1_hmac.specs.declared.compression.Window.{Window}

-- four rounds with one function and one constant
unfoldable pub four : (ℕ → ℕ → ℕ → ℕ) → ℕ → List ℕ → List ℕ → List ℕ
four f k w s = round f k (slice_index w 3) (round f k (slice_index w 2) (round f k (slice_index w 1) (round f k (slice_index w 0) s)))

-- the four words of the schedule that follow sixteen
unfoldable pub next_words : List ℕ → List ℕ → List ℕ → List ℕ → List ℕ
next_words a b c d =
    let first = mixed (slice_index d 1) (slice_index c 0) (slice_index a 2) (slice_index a 0) in
    first ∷ mixed (slice_index d 2) (slice_index c 1) (slice_index a 3) (slice_index a 1) ∷ mixed (slice_index d 3) (slice_index c 2) (slice_index b 0) (slice_index a 2) ∷ mixed first (slice_index c 3) (slice_index b 1) (slice_index a 3) ∷ []

-- the words of the sixteen bytes from i on
abbrev pub words_at : List ℕ → ℕ → List ℕ
words_at block i = big_endian block i ∷ big_endian block (i + 4) ∷ big_endian block (i + 8) ∷ big_endian block (i + 12) ∷ []

-- W_0 .. W_15
abbrev pub first_window : List ℕ → Window
first_window block = record { oldest = words_at block 0; older = words_at block 16; newer = words_at block 32; newest = words_at block 48 }

-- the sixteen words that begin four words on
unfoldable pub advanced : Window → Window
advanced w = record { oldest = w.older; older = w.newer; newer = w.newest; newest = next_words w.oldest w.older w.newer w.newest }

-- n times four words on
abbrev pub onward : ℕ → Window → Window
onward zero w = w
onward (suc n) w = onward n (advanced w)

-- n times four words on, each time with four rounds over the newest
abbrev pub rounds_over : (ℕ → ℕ → ℕ → ℕ) → ℕ → ℕ → List ℕ → Window → List ℕ
rounds_over f k zero s w = s
rounds_over f k (suc n) s w = rounds_over f k n (four f k (advanced w).newest s) (advanced w)

-- the sixteen rounds over the first window
abbrev pub first_rounds : List ℕ → Window → List ℕ
first_rounds s w = four choice (constant 0) w.newest (four choice (constant 0) w.newer (four choice (constant 0) w.older (four choice (constant 0) w.oldest s)))
