-- The window of sixteen words runs through the message schedule four words at a time.
use Rattle.std.proofs.Common.{◌≡◌, ℕ, zero, suc, ◌+◌, ◌-◌, ◌*◌, ◌<◌, ◌≤◌, false, ltb, ◌≢◌, List, [], ◌∷◌, length, get_or, sym, refl, ap, ◌∙◌, subst, ⊎_elim, add_assoc, add-one, arith}
use Rattle.std.proofs.lemmas.List.{length_push, get_or_push, get_or_append_left}
use Rattle.std.proofs.lemmas.Bool.{cases_eq}
use Rattle.std.proofs.lemmas.Bool.Decides.{nat_tests}
use Rattle.sha1_hmac.specs.Words.{choice, parity, majority}
use Rattle.sha1_hmac.specs.Compression.{constant, big_endian, mixed, next, schedule, scheduled, rounds}
use Rattle.sha1_hmac.specs.Laws.{ScheduleFollowsTheRecurrence}
use Rattle.sha1_hmac.specs.Fours.{words_at, four, next_words, first_window, advanced, rounds_over, onward, first_rounds}
use Rattle.sha1_hmac.specs.declared.compression.Window.{Window}

length-schedule : (block : List ℕ) (t : ℕ) → length (schedule block t) ≡ t
unfolding schedule
length-schedule block zero = refl
length-schedule block (suc t) = length_push (schedule block t) _ ∙ ap (λ n. n + 1) (length-schedule block t) ∙ add-one t

scheduled_is_next : (block : List ℕ) (t : ℕ) → scheduled block t ≡ next block (schedule block t) t
unfolding schedule scheduled
scheduled_is_next block t = get_or_push (schedule block t) _ 0 t (length-schedule block t)

scheduled_last : (block : List ℕ) (n : ℕ) → get_or (schedule block (suc n)) n 0 ≡ scheduled block n
unfolding scheduled
scheduled_last block n = refl

get_or_schedule : (block : List ℕ) (n t : ℕ) → t < n → get_or (schedule block n) t 0 ≡ scheduled block t
unfolding schedule
get_or_schedule block zero t h = absurd (omega arith)
get_or_schedule block (suc n) t h =
    ⊎_elim
    (λ (e : t ≡ n). subst (λ k. get_or (schedule block (suc n)) k 0 ≡ scheduled block k) (sym e) (scheduled_last block n))
    (λ (ne : t ≢ n).
    let l : t < n = omega arith in
    let e = length-schedule block n in
    get_or_append_left (schedule block n) _ 0 t (omega arith) ∙ get_or_schedule block n t l)
    (cases_eq t n)

scheduled_early : (block : List ℕ) (t : ℕ) → t < 16 → scheduled block t ≡ big_endian block (4 * t)
unfolding next
scheduled_early block t h = scheduled_is_next block t ∙ grind (arith, nat_tests)

scheduled_late : (block : List ℕ) (t : ℕ) → 16 ≤ t → scheduled block t ≡ mixed (scheduled block (t - 3)) (scheduled block (t - 8)) (scheduled block (t - 14)) (scheduled block (t - 16))
unfolding next
scheduled_late block t h =
    let a = get_or_schedule block t (t - 3) (omega arith) in
    let b = get_or_schedule block t (t - 8) (omega arith) in
    let c = get_or_schedule block t (t - 14) (omega arith) in
    let d = get_or_schedule block t (t - 16) (omega arith) in
    let late : ltb t 16 ≡ false = grind (arith, nat_tests) in
    scheduled_is_next block t ∙ simp (late, a, b, c, d)

pub schedule_follows_the_recurrence : ScheduleFollowsTheRecurrence
schedule_follows_the_recurrence block t = (scheduled_early block t, scheduled_late block t)

scheduled_on : (block : List ℕ) (t : ℕ) → scheduled block (t + 16) ≡ mixed (scheduled block (t + 13)) (scheduled block (t + 8)) (scheduled block (t + 2)) (scheduled block t)
scheduled_on block t =
    let i : t + 16 - 3 ≡ t + 13 = omega arith in
    let j : t + 16 - 8 ≡ t + 8 = omega arith in
    let k : t + 16 - 14 ≡ t + 2 = omega arith in
    let l : t + 16 - 16 ≡ t = omega arith in
    simp (i, j, k, l) at (scheduled_late block (t + 16) (omega arith))

-- W_t .. W_{t+3}
abbrev pub four_words : List ℕ → ℕ → List ℕ
four_words block t = scheduled block t ∷ scheduled block (t + 1) ∷ scheduled block (t + 2) ∷ scheduled block (t + 3) ∷ []

-- the window that begins at W_t
unfoldable pub window_at : List ℕ → ℕ → Window
window_at block t =
    record {
      oldest = four_words block t;
      older = four_words block (t + 4);
      newer = four_words block (t + 8);
      newest = four_words block (t + 12);
    }

four_words_early : (block : List ℕ) (t : ℕ) → t < 13 → words_at block (4 * t) ≡ four_words block t
four_words_early block t h =
    let a = scheduled_early block t (omega arith) in
    let b = scheduled_early block (t + 1) (omega arith) in
    let c = scheduled_early block (t + 2) (omega arith) in
    let d = scheduled_early block (t + 3) (omega arith) in
    let i : 4 * (t + 1) ≡ 4 * t + 4 = omega arith in
    let j : 4 * (t + 2) ≡ 4 * t + 8 = omega arith in
    let k : 4 * (t + 3) ≡ 4 * t + 12 = omega arith in
    simp (a, b, c, d, i, j, k)

pub first_window_is : (block : List ℕ) → first_window block ≡ window_at block 0
unfolding window_at
first_window_is block =
    let a = four_words_early block 0 (omega arith) in
    let b = four_words_early block 4 (omega arith) in
    let c = four_words_early block 8 (omega arith) in
    let d = four_words_early block 12 (omega arith) in
    simp (a, b, c, d)

advanced_window : (block : List ℕ) (t : ℕ) → advanced (window_at block t) ≡ window_at block (t + 4)
unfolding advanced next_words window_at
advanced_window block t =
    let a = scheduled_on block t in
    let b = simp add_assoc at (scheduled_on block (t + 1)) in
    let c = simp add_assoc at (scheduled_on block (t + 2)) in
    let d = simp add_assoc at (scheduled_on block (t + 3)) in
    simp (add_assoc, a, b, c, d)

oldest_window : (block : List ℕ) (t : ℕ) → (window_at block t).oldest ≡ four_words block t
unfolding window_at
oldest_window block t = refl

older_window : (block : List ℕ) (t : ℕ) → (window_at block t).older ≡ four_words block (t + 4)
unfolding window_at
older_window block t = refl

newer_window : (block : List ℕ) (t : ℕ) → (window_at block t).newer ≡ four_words block (t + 8)
unfolding window_at
newer_window block t = refl

newest_window : (block : List ℕ) (t : ℕ) → (window_at block t).newest ≡ four_words block (t + 12)
unfolding window_at
newest_window block t = refl

-- the eighty rounds, over a window that moves on
pub halves_are_rounds : (block h : List ℕ) (w : Window) → w ≡ window_at block 0
    → rounds_over parity (constant 60) 5 (rounds_over majority (constant 40) 5 (rounds_over parity (constant 20) 5 (rounds_over choice (constant 0) 1 (first_rounds h w) w) (onward 1 w)) (onward 6 w)) (onward 11 w)
    ≡ rounds block 80 h
unfolding rounds four
halves_are_rounds block h w e = simp (e, advanced_window, oldest_window, older_window, newer_window, newest_window)
