-- What is built byte by byte: the padded end of a message, and the digest.
-- Assumes nothing.
use mathlib.Core.Path.{◌≡◌, refl, sym, ap, ap₂, ◌∙◌}
use Rattle.std.proofs.lemmas.Grind.{common_steps}
use mathlib.Core.List.{List, [], ◌∷◌, ◌++◌, append_assoc, append-nil}
use Prim.Native.Nat.{ℕ, suc, ◌+◌, ◌-◌, ◌*◌, ◌/◌, ◌%◌, ◌≤◌, ◌<◌}
use native.Mathlib.Numerals.{add-one}
use native.Mathlib.Omega.{arith}
use lib.ListN.{length, take, drop, set, get_or, replicate, length-append, length-drop, length-replicate, replicate-append-replicate}
use lib.Seq.{take_at, set_at, take-suc, take_all}
use Rattle.octets.specs.Bytes.{splice, be}
use Rattle.octets.proofs.Parts.{splice_zeros, take_written}
use Rattle.octets.proofs.Numbers.{length_be}
use Rattle.sha384.specs.Padding.{zero_bits, padding}
use Rattle.sha384.specs.Sha384.{bytes, digest}

-- ---- the padded end

-- the rest v of a message, the byte 0x80, z zeros, and sixteen bytes more: e in all
built : (v b : List ℕ) (r z e : ℕ) {x y : List ℕ} → length v ≡ r → e ≡ r + 17 + z → e ≤ 256 → length b ≡ 16
    → x ≡ splice (replicate 256 0) 0 v → y ≡ splice (set x r 0x80) (e - 16) b → take e y ≡ v ++ (0x80 ∷ replicate z 0 ++ b)
built v b r z e {x} {y} lv ee h lb ex ey =
    let k : ℕ = 255 - r - z in
    let front : List ℕ = v ++ (0x80 ∷ replicate z 0) in
    let room : 256 - length v ≡ suc (z + k) = omega arith in
    let copied : x ≡ v ++ (0 ∷ replicate z 0 ++ replicate k 0) =
    ex ∙ splice_zeros 256 v ∙ ap (λ (j : ℕ). v ++ replicate j 0) room
    ∙ ap (λ (l : List ℕ). v ++ (0 ∷ l)) (sym (replicate-append-replicate z k 0)) in
    let marked : set x r 0x80 ≡ front ++ replicate k 0 =
    ap (λ (l : List ℕ). set l r 0x80) copied ∙ set_at v 0 (replicate z 0 ++ replicate k 0) 0x80 r lv
    ∙ sym (append_assoc v (0x80 ∷ replicate z 0) (replicate k 0)) in
    let lf : length front ≡ e - 16 = omega (arith, length-append v (0x80 ∷ replicate z 0), length-replicate {A = ℕ} z 0) in
    let lx : length (set x r 0x80) ≡ 256 = omega (arith, ap length marked, length-append front (replicate k 0), length-replicate {A = ℕ} k 0) in
    let end : e ≡ e - 16 + length b = omega arith in
    ap₂ take end ey
    ∙ take_written (set x r 0x80) (e - 16) b (omega arith)
    ∙ ap (λ (l : List ℕ). l ++ b) (ap (take (e - 16)) marked ∙ take_at front (replicate k 0) (e - 16) lf)
    ∙ append_assoc v (0x80 ∷ replicate z 0) b

pub padded_end : (m b : List ℕ) (n e : ℕ) {x y : List ℕ} → length m % 128 ≡ n % 128 → e ≡ n % 128 + 17 + zero_bits (8 * n) / 8
    → x ≡ splice (replicate 256 0) 0 (take (length m - 128 * (length m / 128)) (drop (128 * (length m / 128)) m))
    → b ≡ be 16 (8 * n) → y ≡ splice (set x (n % 128) 0x80) (e - 16) b → take e y ≡ drop (128 * (length m / 128)) m ++ padding n
unfolding padding
padded_end m b n e lm ee ex eb ey =
    let v : List ℕ = drop (128 * (length m / 128)) m in
    let z : ℕ = zero_bits (8 * n) / 8 in
    let lv : length v ≡ length m - 128 * (length m / 128) = length-drop (128 * (length m / 128)) m in
    built v b (n % 128) z e (omega arith) ee (omega arith) (ap length eb ∙ length_be 16 _)
    (ex ∙ ap (splice (replicate 256 0) 0) (take_all (length m - 128 * (length m / 128)) v (omega arith))) ey
    ∙ ap (λ (l : List ℕ). v ++ (0x80 ∷ replicate z 0 ++ l)) eb

-- ---- the digest

bytes_snoc : (ws : List ℕ) (w : ℕ) → bytes (ws ++ (w ∷ [])) ≡ bytes ws ++ be 8 w
unfolding bytes
bytes_snoc [] w = append-nil (be 8 w)
bytes_snoc (x ∷ ws) w = grind (arith, bytes_snoc ws w, append_assoc)

-- none yet
pub bytes_none : bytes [] ≡ []
unfolding bytes
bytes_none = refl

-- one word more
pub digested : (h d : List ℕ) (i : ℕ) {e : List ℕ} → i < length h → 8 * i + 8 ≤ length d → take (8 * i) d ≡ bytes (take i h)
    → e ≡ splice d (8 * i) (be 8 (get_or h i 0)) → take (8 * (i + 1)) e ≡ bytes (take (i + 1) h)
digested h d i li ld et ee =
    let v : List ℕ = be 8 (get_or h i 0) in
    grind (arith, take_written d (8 * i) v, length_be 8 (get_or h i 0), bytes_snoc (take i h) (get_or h i 0), take-suc h i 0 li, add-one)

pub digest_is : (h d : List ℕ) (i : ℕ) → i ≡ 6 → length d ≡ 48 → take (8 * i) d ≡ bytes (take i h) → d ≡ digest h
unfolding digest
digest_is h d i ei ld e = grind (arith, common_steps)
