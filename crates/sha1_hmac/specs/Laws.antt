-- What the definitions come to, in the words of the two standards.
use Rattle.std.specs.Prelude.{◌≡◌, ℕ, ◌+◌, ◌-◌, ◌*◌, ◌%◌, ◌<◌, ◌≤◌, List, length}
use Rattle.sha1_hmac.specs.Compression.{big_endian, mixed, scheduled}
use Rattle.sha1_hmac.specs.Message.{zeros, padded}
use Rattle.sha1_hmac.specs.Keyed.{hmac_of, filled}

-- FIPS 180-4, section 6.1.2, step 1: W_t is M_t below 16, and ROTL¹(W_{t-3} ⊕ W_{t-8} ⊕ W_{t-14} ⊕ W_{t-16}) from there on.
abbrev pub ScheduleFollowsTheRecurrence : Type 0
ScheduleFollowsTheRecurrence =
    (block : List ℕ) (t : ℕ)
    → (t < 16 → scheduled block t ≡ big_endian block (4 * t))
    × (16 ≤ t → scheduled block t ≡ mixed (scheduled block (t - 3)) (scheduled block (t - 8)) (scheduled block (t - 14)) (scheduled block (t - 16)))

-- Section 5.1.1: behind a message of l bits and the bit 1 stand k bits 0, the least k with l + 1 + k ≡ 448 modulo 512.
-- Seven of them stand in the byte 128, and eight in each byte of zeros.
abbrev pub PaddingIsTheLeast : Type 0
PaddingIsTheLeast =
    (n : ℕ)
    → ((8 * n + 1 + (7 + 8 * zeros n)) % 512 ≡ 448)
    × ((k : ℕ) → (8 * n + 1 + k) % 512 ≡ 448 → 7 + 8 * zeros n ≤ k)

-- A padded message is whole blocks.
abbrev pub PaddingEndsABlock : Type 0
PaddingEndsABlock = (message : List ℕ) → length (padded message) % 64 ≡ 0

-- RFC 2104, section 2: a key shorter than a block stands for itself with zeros appended, so twenty bytes serve any key of at most twenty.
abbrev pub ZerosDoNotChangeAKey : Type 0
ZerosDoNotChangeAKey =
    (key text : List ℕ) → length key ≤ 20 → hmac_of (filled key) text ≡ hmac_of key text
