-- A route tag is 16 bytes: the digests of FIPS 180-4's definitions are 48 bytes.
-- Assumes nothing.
use Rattle.std.proofs.Common.{◌≡◌, ℕ, zero, suc, ◌+◌, ◌*◌, ◌/◌, List, [], ◌∷◌, length, take, refl, arith, length-append, length-take}
use Rattle.octets.specs.Bytes.{Bytes, be}
use Rattle.octets.proofs.Numbers.{length_be, bytes_take, bytes_append, bytes_be}
use Rattle.sha_block.specs.Loop.{turns}
use Rattle.sha_block.specs.Block.{compress, summed}
use Rattle.sha384.specs.Padding as padding
use Rattle.sha384.specs.Sha384.{H0, next, hashed, bytes, digest, sha384}
use Rattle.hmac.specs.Hmac as hmac
use Rattle.kdf.specs.Kdf.{mac, hash}
use Rattle.chain.specs.declared.Dir.{Dir}
use Rattle.courier.specs.Tags.{route_tag, commitment_of}
use Rattle.rows.specs.Proper.{Run}

-- ---- digests

words_bytes : (ws : List ℕ) → Bytes (bytes ws)
unfolding bytes Bytes
words_bytes [] i = omega arith
words_bytes (w ∷ ws) i = bytes_append (be 8 w) (bytes ws) (bytes_be 8 w) (words_bytes ws) i

words_length : (ws : List ℕ) → length (bytes ws) ≡ 8 * length ws
unfolding bytes
words_length [] = refl
words_length (w ∷ ws) = omega (arith, length-append (be 8 w) (bytes ws), length_be 8 w, words_length ws)

-- eight words stay eight
eight : (p : List ℕ) (n t : ℕ) (h : List ℕ) → length h ≡ 8 → length (turns (next p) n t h) ≡ 8
unfolding turns next compress summed
eight p zero t h e = e
eight p (suc n) t h e = eight p n (t + 1) (next p h t) refl

pub sha384_run : (m : List ℕ) → Run 48 (sha384 m)
unfolding sha384 digest hashed H0
sha384_run m =
    let h : List ℕ = turns (next (padding.padded m)) (length (padding.padded m) / 128) 0 H0 in
    record {
      size = omega (arith, words_length (take 6 h), length-take 6 h, eight (padding.padded m) (length (padding.padded m) / 128) 0 H0 refl);
      bytes = words_bytes (take 6 h);
    }

-- a route tag is a MAC and a commitment a hash: the first 16 bytes of a digest
first_16 : {d : List ℕ} → Run 48 d → Run 16 (take 16 d)
first_16 {d} r = record { size = omega (arith, length-take 16 d, r.size); bytes = bytes_take 16 d r.bytes }

pub route_tag_run : (key : List ℕ) (dir : Dir) (generation idx : ℕ) → Run 16 (route_tag key dir generation idx)
unfolding route_tag mac hmac.hmac hmac.keyed
route_tag_run key dir generation idx = first_16 (sha384_run _)

pub commitment_run : (s : List ℕ) → Run 16 (commitment_of s)
unfolding commitment_of hash
commitment_run s = first_16 (sha384_run _)
