-- The encoding, byte by byte. Assumes nothing.
use Rattle.std.proofs.Common.{◌≡◌, ℕ, zero, suc, ◌+◌, ◌-◌, ◌/◌, ◌%◌, ◌^◌, ◌≤◌, ◌<◌, List, [], ◌∷◌, ◌++◌, length, get_or, take, drop, set, replicate, refl, sym, ap, ◌∙◌, arith, append_assoc, take-append-drop}
use Rattle.std.proofs.lemmas.List.{length-set}
use Rattle.std.proofs.lemmas.Grind.{common_steps}
use lib.Seq.{drop-drop}
use borrow.Author.Tests.{le-leb, lt-leb}
use Rattle.data.specs.Leb128.{leb_in, leb128, encoded}
use Rattle.data.specs.declared.Encoded.{Encoded}

pub leb_last : (k v : ℕ) → v < 128 → leb_in k v ≡ v ∷ []
unfolding leb_in
leb_last zero v h = refl
leb_last (suc k) v h = rw (lt-leb 128 v h)

pub leb_more : (k v : ℕ) → 128 ≤ v → leb_in (suc k) v ≡ (v % 128 + 128) ∷ leb_in k (v / 128)
unfolding leb_in
leb_more k v h = rw (le-leb 128 v h)

-- what is left of 32 bits after n bytes is below this
unfoldable pub left : ℕ → ℕ
left n = get_or (2 ^ 32 ∷ 2 ^ 25 ∷ 2 ^ 18 ∷ 2 ^ 11 ∷ 2 ^ 4 ∷ []) n 0

pub left_step : (n v : ℕ) → v < left n → 128 ≤ v → (n < 4) × (v / 128 < left (n + 1))
unfolding left
left_step zero v h g = (omega arith, omega arith)
left_step (suc zero) v h g = (omega arith, omega arith)
left_step (suc (suc zero)) v h g = (omega arith, omega arith)
left_step (suc (suc (suc zero))) v h g = (omega arith, omega arith)
left_step (suc (suc (suc (suc zero)))) v h g = absurd (omega arith)
left_step (suc (suc (suc (suc (suc n))))) v h g = absurd (omega arith)

-- n bytes are written, and v is to be encoded yet
pub record Encoding (value : ℕ) (bytes : List ℕ) (v n : ℕ) : Type 0 where
  pub few : n < 5
  pub small : v < left n
  pub room : length bytes ≡ 5
  pub zeros : drop n bytes ≡ replicate (5 - n) 0
  pub whole : take n bytes ++ leb_in (4 - n) v ≡ leb128 value

pub encode_first : (value : ℕ) → value < 2 ^ 32 → Encoding value (replicate 5 0) value 0
unfolding left leb128
encode_first value h = record { few = omega arith; small = omega arith; room = refl; zeros = refl; whole = refl }

module _ (value : ℕ) (bytes : List ℕ) (v n : ℕ) (s : Encoding value bytes v n) where
  -- behind a byte written at n
  zeros_behind : (b : ℕ) → drop (n + 1) (set bytes n b) ≡ replicate (5 - (n + 1)) 0
  zeros_behind b = let h : n < 5 = s.few in grind (arith, common_steps, s.zeros, drop-drop 1 n bytes)

  front : (b : ℕ) → take (n + 1) (set bytes n b) ≡ take n bytes ++ (b ∷ [])
  front b = let h : n < 5 = s.few in grind (arith, common_steps, s.room)

  pub encode_more : 128 ≤ v → Encoding value (set bytes n (v % 128 + 128)) (v / 128) (n + 1)
  encode_more g =
      let h : n < 4 = (left_step n v s.small g).0 in
      let e : 4 - n ≡ suc (4 - (n + 1)) = omega arith in
      record {
        few = omega arith;
        small = (left_step n v s.small g).1;
        room = length-set bytes n (v % 128 + 128) ∙ s.room;
        zeros = zeros_behind (v % 128 + 128);
        whole = grind (arith, front (v % 128 + 128), leb_more (4 - (n + 1)) v, append_assoc, s.whole);
      }

  pub encode_last : v < 128 → ◌≡◌ {A = Encoded} (record { bytes = set bytes n v; len = n + 1 }) (encoded (leb128 value))
  unfolding encoded
  encode_last g =
      let h : n < 5 = s.few in
      let b : List ℕ = take n bytes ++ (v ∷ []) in
      let whole : b ≡ leb128 value = grind (arith, leb_last (4 - n) v, s.whole) in
      let len : length b ≡ n + 1 = grind (arith, common_steps, s.room) in
      let all : set bytes n v ≡ b ++ replicate (5 - length b) 0 = grind (arith, take-append-drop (n + 1) (set bytes n v), front v, zeros_behind v) in
      (λ i. record { bytes = all i; len = sym len i }) ∙ ap encoded whole
