-- Laws of route tags and commitments: what goes into the hashes, and what comes out of them.
-- Assumes nothing.
use mathlib.Core.Path.{◌≡◌, ap, ap₂, ◌∙◌}
use mathlib.Core.Bool.{Bool, true, false, cond}
use mathlib.Core.List.{List, [], ◌∷◌, ◌++◌, append-nil}
use Prim.Native.Nat.{ℕ, zero, suc, ◌+◌, ◌-◌, ◌/◌, ◌%◌, ◌≤◌}
use native.Mathlib.Omega.{arith}
use lib.ListN.{length, take, drop, set, replicate, length-append, length-replicate}
use lib.Seq.{take-append_seam}
use lib.Dec.{leb}
use Rattle.octets.specs.Bytes.{splice, part, same_bytes}
use Rattle.octets.proofs.Parts.{part_whole}
use Rattle.data.specs.declared.Encoded.{Encoded}
use Rattle.data.specs.Leb128.{leb_in, leb128, encoded}
use Rattle.std.specs.Prelude.{Some}
use Rattle.std.proofs.lemmas.Option.{same_Some}
use Rattle.kdf.specs.Kdf.{mac, answered, key_as}
use Rattle.chain.specs.declared.Dir.{Dir}
use Rattle.chain.specs.Chain.{dir_label}
use Rattle.courier.specs.Tags.{route_label, route_input, route_tag, commitment_of, tombstone_matches}

-- an index has at most five bytes
leb_length : (n v : ℕ) → length (leb_in n v) ≤ suc n
unfolding leb_in
leb_length zero v = omega arith
leb_length (suc n) v = go (leb 128 v) (leb_length n (v / 128))
  where
    go : (b : Bool) → length (leb_in n (v / 128)) ≤ suc n → length (cond b ((v % 128 + 128) ∷ leb_in n (v / 128)) (v ∷ [])) ≤ suc (suc n)
    go true h = omega arith
    go false h = omega arith

pub index_fits : (i : ℕ) (e : Encoded) → e ≡ encoded (leb128 i) → (length e.bytes ≡ 5) × (e.len ≤ 5)
unfolding leb128 encoded
index_fits i e q =
    let l : length (leb128 i) ≤ 5 = leb_length 4 i in
    let z : length (leb128 i ++ replicate (5 - length (leb128 i)) 0) ≡ 5 =
    omega (arith, length-append (leb128 i) (replicate (5 - length (leb128 i)) 0), length-replicate {A = ℕ} (5 - length (leb128 i)) 0) in
    (ap (λ (x : Encoded). length x.bytes) q ∙ z, omega (arith, ap (λ (x : Encoded). x.len) q))

-- an array whose first len bytes are a route tag's input
pub record RouteBytes (dir : Dir) (generation idx : ℕ) (bytes : List ℕ) (len : ℕ) : Type 0 where
  pub fits : len ≤ length bytes
  pub input : take len bytes ≡ route_input dir generation idx

-- the direction, the generation and the index, written one after the other
pub route_made : (dir : Dir) (generation i label : ℕ) (e : Encoded) (x : List ℕ) → label ≡ dir_label dir → e ≡ encoded (leb128 i)
    → x ≡ splice (set (set (replicate 7 0) 0 label) 1 generation) 2 e.bytes → RouteBytes dir generation i x (2 + e.len)
unfolding encoded route_input splice
route_made dir generation i label e x el ee ex =
    let f = index_fits i e ee in
    let b : e.bytes ≡ leb128 i ++ replicate (5 - length (leb128 i)) 0 = ap (λ (y : Encoded). y.bytes) ee in
    let n : e.len ≡ length (leb128 i) = ap (λ (y : Encoded). y.len) ee in
    let z : drop (2 + length e.bytes) (set (set (replicate 7 0) 0 label) 1 generation) ≡ [] = ap (λ (k : ℕ). drop (2 + k) (label ∷ generation ∷ replicate 5 0)) f.0 in
    let x' : x ≡ label ∷ generation ∷ e.bytes = ex ∙ ap (λ (l : List ℕ). label ∷ generation ∷ (e.bytes ++ l)) z ∙ append-nil (label ∷ generation ∷ e.bytes) in
    let s : 2 + e.len ≡ suc (suc (length (leb128 i))) = omega arith in
    record {
      fits = omega (arith, ap length x', f.0, f.1);
      input = ap₂ take s x' ∙ ap (λ (l : List ℕ). label ∷ generation ∷ take (length (leb128 i)) l) b
          ∙ ap (λ (l : List ℕ). label ∷ generation ∷ l) (take-append_seam (leb128 i) (replicate (5 - length (leb128 i)) 0))
          ∙ ap (λ (k : ℕ). k ∷ generation ∷ leb128 i) el;
    }

-- ---- what comes out: both labels are short

pub route_sent : (key : List ℕ) (dir : Dir) (generation i : ℕ) (x : List ℕ) (n : ℕ) (r : List ℕ) → RouteBytes dir generation i x n
    → Some r ≡ key_as route_label (mac key route_label (take n x)) → r ≡ route_tag key dir generation i
unfolding key_as answered route_tag
route_sent key dir generation i x n r p e = same_Some _ _ e ∙ ap (mac key route_label) p.input

pub matched : (c s x : List ℕ) (r : Bool) → length c ≡ 16 → length x ≡ 16 → x ≡ commitment_of s
    → r ≡ same_bytes (part x 0 (length c)) c → r ≡ tombstone_matches c s
unfolding tombstone_matches
matched c s x r lc lx ex e = e ∙ ap (λ (y : List ℕ). same_bytes y c) (ap (part x 0) lc ∙ part_whole x 16 lx ∙ ex)
