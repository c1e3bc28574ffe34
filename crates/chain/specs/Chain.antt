-- chain.rs: the direction of a chain, the inner lengths, and `Receiver::window` with document 01's refusals.
-- Assumes nothing.
use Rattle.std.specs.Prelude.{◌≡◌, ℕ, zero, suc, ◌+◌, ◌-◌, ◌*◌, ◌/◌, ◌^◌, ◌≤◌, min, Bool, true, false, cond, ◌||◌, List, [], ◌∷◌, ◌++◌, map, reverse, length, take, ◌==◌, nat_le, nat_lt, slice_index, Option, Some, None, Result, Ok, Err}
use mathlib.Core.List.{flat_map}
use Rattle.octets.specs.Bytes.{part, splice, num, be}
use Rattle.courier_core.specs.Core.{refusal_number, first_of}
use Rattle.courier_core.specs.declared.Refusal.{Refusal}
use Rattle.courier_core.specs.declared.Refusal.TheVariants as refusal
use Rattle.table.specs.Lists.{any}
use Rattle.table.specs.Rows.{all_rows, join, ragged}
use Rattle.chain.specs.declared.Dir.{Dir}
use Rattle.chain.specs.declared.Dir.TheVariants.{I, R}

-- `Dir::label`: the byte of a direction, `I` or `R`
abbrev pub dir_label : Dir → ℕ
dir_label I = 73
dir_label R = 82

-- the direction of a byte: every byte but those two has none
abbrev pub dir_of : ℕ → Option Dir
dir_of b = cond (b == 73) (Some I) (cond (b == 82) (Some R) None)

-- a byte that is no direction's
abbrev pub no_dir : Option Dir → Bool
no_dir (Some d) = false
no_dir None = true

-- INNER_BUCKETS: the lengths of an inner plaintext
abbrev pub inner_buckets : List ℕ
inner_buckets = 32 ∷ 64 ∷ 128 ∷ 256 ∷ 512 ∷ 1024 ∷ 2048 ∷ 4048 ∷ []

abbrev pub contains : List ℕ → ℕ → Bool
contains [] n = false
contains (x ∷ xs) n = n == x || contains xs n

abbrev pub is_bucket : ℕ → Bool
is_bucket n = contains inner_buckets n

-- the length of the inner plaintext that so many bytes seal: 16 less
abbrev pub inner_of : ℕ → Option ℕ
inner_of len = cond (nat_le 16 len) (Some (len - 16)) None

-- MAX_SKIPPED, u32::MAX, and the size of the window call's answer
abbrev pub max_skipped : ℕ
max_skipped = 500

abbrev pub last_index : ℕ
last_index = 4294967295

abbrev pub answer_size : ℕ
answer_size = 3000

-- n numbers from k on; the numbers from k up to last, both included
unfoldable pub count : ℕ → ℕ → List ℕ
count k zero = []
count k (suc n) = k ∷ count (suc k) n

abbrev pub up_to : ℕ → ℕ → List ℕ
up_to k last = count k (last + 1 - k)

-- a chain row: direction, generation, next (8 bytes)
unfoldable pub next : List ℕ → ℕ
next chain = num (part chain 2 8)

-- the row of a chain's key: direction, generation, index (4 bytes)
unfoldable pub key_row : List ℕ → ℕ → List ℕ
key_row chain idx = part chain 0 2 ++ be 4 idx

-- the keys of a chain: from next on, as far as reach, and never past the last index
unfoldable pub chain_keys : ℕ → List ℕ → List (List ℕ)
chain_keys reach chain = map (key_row chain) (up_to (next chain) (min (next chain + reach) last_index))

-- `Receiver::window`: skipped keys, then the chains' keys from the last chain to the first, MAX_SKIPPED in all
unfoldable pub window : List ℕ → List ℕ → List (List ℕ)
window skipped chains =
    let keys : List (List ℕ) = all_rows 6 skipped in
    let reach : ℕ = max_skipped - length keys in
    take max_skipped (keys ++ flat_map (chain_keys reach) (reverse (all_rows 10 chains)))

-- number 12: not whole rows, a direction that is neither `I` nor `R`, over 500 skipped, a next above 2^32
abbrev pub wrong_dir : List ℕ → Bool
wrong_dir row = no_dir (dir_of (slice_index row 0))

abbrev pub next_above : List ℕ → Bool
next_above chain = nat_lt (2 ^ 32) (next chain)

unfoldable pub wrong_table : ℕ → List ℕ → Bool
wrong_table w a = ragged w a || any wrong_dir (all_rows w a)

unfoldable pub wrong_rows : List ℕ → List ℕ → Bool
wrong_rows skipped chains =
    wrong_table 6 skipped || wrong_table 10 chains || nat_lt max_skipped (length skipped / 6) || any next_above (all_rows 10 chains)

-- the refusals of the window call, in document 01's order
unfoldable pub window_tests : List ℕ → List ℕ → List ℕ → List (Bool × Refusal)
window_tests answer skipped chains =
    (nat_lt (length answer) answer_size, refusal.ShortArea) ∷ (wrong_rows skipped chains, refusal.WindowRows) ∷ []

-- the window call: its answer, the number of its refusal, and the answer area with the listed rows at its front
unfoldable pub window_says : List ℕ → List ℕ → List ℕ → Result ℕ Refusal
window_says answer skipped chains =
    first_of (window_tests answer skipped chains) Err (Ok (length (window skipped chains)))

unfoldable pub window_number : List ℕ → List ℕ → List ℕ → ℕ
window_number answer skipped chains = first_of (window_tests answer skipped chains) refusal_number 0

unfoldable pub window_area : List ℕ → List ℕ → List ℕ → List ℕ
window_area answer skipped chains =
    first_of (window_tests answer skipped chains) (λ _. answer) (splice answer 0 (join (window skipped chains)))

-- the walk, in steps: the keys of a chain and those of all chains, where there is room for so many
unfoldable pub listed_keys : ℕ → List ℕ → List (List ℕ)
listed_keys room chain = map (key_row chain) (count (next chain) (min room (2 ^ 32 - next chain)))

unfoldable pub chains_keys : ℕ → List (List ℕ) → List (List ℕ)
chains_keys reach chains = take reach (flat_map (chain_keys reach) (reverse chains))

-- rows were written to the front of a room, and n is how many
pub record ChainsListed (rs : List (List ℕ)) (before after : List ℕ) (n : ℕ) : Type 0 where
  pub total : n ≡ length rs
  pub room : n * 6 ≤ length before
  pub width : length (join rs) ≡ n * 6
  pub area : after ≡ splice before 0 (join rs)
