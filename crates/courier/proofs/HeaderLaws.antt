-- Laws of an envelope's 37 bytes: written, read back, written again.
-- Assumes nothing.
use mathlib.Core.Path.{◌≡◌, refl, sym, ap, ap₂, ◌∙◌}
use mathlib.Core.Bool.{Bool, true, false, cond}
use Rattle.std.specs.Prelude.{Option, Some, None}
use Rattle.std.proofs.lemmas.Option.{cond_some}
use mathlib.Core.List.{List, [], ◌∷◌, ◌++◌}
use Prim.Native.Nat.{ℕ, ◌+◌, ◌^◌, ◌≤◌, ◌<◌}
use native.Mathlib.Nat.{add-zero}
use native.Mathlib.Omega.{arith}
use lib.ListN.{length, get_or, set, length-append}
use lib.Dec.{leb}
use borrow.Author.Tests.{le-leb, leb-true, leb-false}
use Rattle.octets.specs.Bytes.{Bytes, splice, part, num, be}
use Rattle.octets.proofs.Parts.{part_left, part_part, part_add, part_whole, part_right, splice_then, splice_all, length_splice}
use Rattle.octets.proofs.Numbers.{length_be, num_be}
use Rattle.octets.proofs.Parts.{set_splice, part_hit, part_one}
use Rattle.octets.proofs.Numbers.{num_one, be_num_part}
use Rattle.courier.specs.declared.Header.{Header}
use Rattle.courier.specs.Courier.{header_bytes, header_of, envelope_decode}

-- what the types of a header's fields say of them
pub record Proper (h : Header) : Type 0 where
  pub tag : length h.tag ≡ 16
  pub c : length h.c ≡ 16
  pub expiry : h.expiry_min < 2 ^ 32
  pub copies : h.copies < 2 ^ 8

-- a header has 37 bytes
pub length_header : (h : Header) → length h.tag ≡ 16 → length h.c ≡ 16 → length (header_bytes h) ≡ 37
unfolding header_bytes
length_header h t c = simp length-append (omega (arith, length_be 4 h.expiry_min))

module _ (h : Header) (p : Proper h) where
  -- the bytes up to the commitment, up to the expiry, all
  abbrev to_c : List ℕ
  to_c = h.tag ++ h.c

  abbrev to_expiry : List ℕ
  to_expiry = to_c ++ be 4 h.expiry_min

  abbrev one : List ℕ
  one = h.copies ∷ []

  l_c : length to_c ≡ 32
  l_c = omega (arith, length-append h.tag h.c, p.tag, p.c)

  l_expiry : length to_expiry ≡ 36
  l_expiry = omega (arith, length-append to_c (be 4 h.expiry_min), l_c, length_be 4 h.expiry_min)

  in_expiry : (o n : ℕ) → o + n ≤ 36 → part (to_expiry ++ one) o n ≡ part to_expiry o n
  in_expiry o n k = part_left to_expiry one o n (omega (arith, l_expiry))

  in_c : (o n : ℕ) → o + n ≤ 32 → part (to_expiry ++ one) o n ≡ part to_c o n
  in_c o n k = in_expiry o n (omega arith) ∙ part_left to_c (be 4 h.expiry_min) o n (omega (arith, l_c))

  -- a header that is written is read back
  pub header_of_bytes : header_of (header_bytes h) ≡ h
  unfolding header_of header_bytes num
  header_of_bytes =
      let t : part (to_expiry ++ one) 0 16 ≡ h.tag =
      in_c 0 16 (omega arith) ∙ part_left h.tag h.c 0 16 (omega (arith, p.tag)) ∙ part_whole h.tag 16 p.tag in
      let u : part (to_expiry ++ one) 16 16 ≡ h.c = in_c 16 16 (omega arith) ∙ part_hit h.tag h.c 16 16 p.tag p.c in
      let e : num (part (to_expiry ++ one) 32 4) ≡ h.expiry_min =
      ap num (in_expiry 32 4 (omega arith) ∙ part_hit to_c (be 4 h.expiry_min) 32 4 l_c (length_be 4 h.expiry_min))
      ∙ num_be 4 h.expiry_min p.expiry in
      let n : num (part (to_expiry ++ one) 36 1) ≡ h.copies = ap num (part_hit to_expiry one 36 1 l_expiry refl) ∙ omega arith in
      λ i. record { tag = t i; c = u i; expiry_min = e i; copies = n i }

  -- the header written field by field
  pub header_made : (z x y w : List ℕ) → length z ≡ 37 → x ≡ splice z 0 h.tag → y ≡ splice x 16 h.c
      → w ≡ splice y 32 (be 4 h.expiry_min) → set w 36 h.copies ≡ header_bytes h
  unfolding header_bytes
  header_made z x y w lz ex ey ew =
      let y' : y ≡ splice z 0 to_c = splice_then z x y 0 16 h.tag h.c ex ey (omega (arith, p.tag)) (omega (arith, p.c)) in
      let w' : w ≡ splice z 0 to_expiry =
      splice_then z y w 0 32 to_c (be 4 h.expiry_min) y' ew (omega (arith, l_c)) (omega (arith, length_be 4 h.expiry_min)) in
      let lw : length w ≡ 37 = ap length w' ∙ length_splice z 0 to_expiry (omega (arith, l_expiry)) ∙ lz in
      splice_then z w (set w 36 h.copies) 0 36 to_expiry one w' (set_splice w 36 h.copies (omega arith)) (omega (arith, l_expiry)) (omega arith)
      ∙ splice_all z (to_expiry ++ one) (omega (arith, length-append to_expiry one, l_expiry))

-- 37 bytes that are read, written again
pub bytes_of_header : (b : List ℕ) → Bytes b → length b ≡ 37 → header_bytes (header_of b) ≡ b
unfolding header_of header_bytes
bytes_of_header b by l =
    ap₂ (λ (e n : List ℕ). part b 0 16 ++ part b 16 16 ++ e ++ n) (be_num_part b 32 4 (omega arith) by)
    (ap (λ (k : ℕ). k ∷ []) (num_one b 36 (omega arith)) ∙ sym (part_one b 36 (omega arith)))
    ∙ ap (λ (x : List ℕ). x ++ part b 32 4 ++ part b 36 1) (sym (part_add b 0 16 16))
    ∙ ap (λ (x : List ℕ). x ++ part b 36 1) (sym (part_add b 0 32 4))
    ∙ sym (part_add b 0 36 1) ∙ part_whole b 37 l

-- what is read field by field is what the part says
pub header_read : (s : List ℕ) (at : ℕ) (t u : List ℕ) (e n : ℕ) → at + 37 ≤ length s → t ≡ part s at 16 → u ≡ part s (at + 16) 16
    → e ≡ num (part s (at + 32) 4) → n ≡ get_or s (at + 36) 0 → record { tag = t; c = u; expiry_min = e; copies = n } ≡ header_of (part s at 37)
unfolding header_of
header_read s at t u e n h et eu ee en =
    let t' : t ≡ part (part s at 37) 0 16 = et ∙ ap (λ (k : ℕ). part s k 16) (sym (add-zero at)) ∙ sym (part_part s at 37 0 16 (omega arith)) in
    let u' : u ≡ part (part s at 37) 16 16 = eu ∙ sym (part_part s at 37 16 16 (omega arith)) in
    let e' : e ≡ num (part (part s at 37) 32 4) = ee ∙ ap num (sym (part_part s at 37 32 4 (omega arith))) in
    let n' : n ≡ num (part (part s at 37) 36 1) = en ∙ sym (num_one s (at + 36) (omega arith)) ∙ ap num (sym (part_part s at 37 36 1 (omega arith))) in
    λ i. record { tag = t' i; c = u' i; expiry_min = e' i; copies = n' i }

-- ---- whole or not

pub decode_whole : (s : List ℕ) (at : ℕ) → at + 37 ≤ length s → Some (header_of (part s at 37)) ≡ envelope_decode s at
unfolding envelope_decode
decode_whole s at k = rw (le-leb (at + 37) (length s) k)

-- what an envelope that was read says of the bytes
pub whole_header : {r : Option Header} (s : List ℕ) (at : ℕ) (h : Header) → r ≡ envelope_decode s at → r ≡ Some h
    → (at + 37 ≤ length s) × (h ≡ header_of (part s at 37))
unfolding envelope_decode
whole_header s at h e w = let p = cond_some (leb (at + 37) (length s)) _ h (sym e ∙ w) in (leb-true (at + 37) (length s) p.0, sym p.1)

pub not_whole : {r : Option Header} (s : List ℕ) (at : ℕ) → r ≡ envelope_decode s at → r ≡ None → length s < at + 37
unfolding envelope_decode
not_whole s at e w = go (leb (at + 37) (length s)) refl (sym e ∙ w)
  where
    go : (b : Bool) → leb (at + 37) (length s) ≡ b → cond b (Some (header_of (part s at 37))) None ≡ None → length s < at + 37
    go false p q = leb-false (at + 37) (length s) p
    go true p q = cc

-- an envelope that is written is read back, whatever stands before and after it
pub decode_encode : (x ct : List ℕ) (h : Header) → Proper h → envelope_decode (x ++ (header_bytes h ++ ct)) (length x) ≡ Some h
decode_encode x ct h p =
    let l : length (x ++ (header_bytes h ++ ct)) ≡ length x + (37 + length ct) =
    length-append x (header_bytes h ++ ct) ∙ ap (λ (k : ℕ). length x + k) (length-append (header_bytes h) ct ∙ ap (λ (k : ℕ). k + length ct) (length_header h p.tag p.c)) in
    let e : part (x ++ (header_bytes h ++ ct)) (length x) 37 ≡ header_bytes h =
    ap (λ (k : ℕ). part (x ++ (header_bytes h ++ ct)) k 37) (sym (add-zero (length x))) ∙ part_right x (header_bytes h ++ ct) (length x) 0 37 refl
    ∙ part_left (header_bytes h) ct 0 37 (omega (arith, length_header h p.tag p.c)) ∙ part_whole (header_bytes h) 37 (length_header h p.tag p.c) in
    sym (decode_whole (x ++ (header_bytes h ++ ct)) (length x) (omega (arith, l))) ∙ ap Some (ap header_of e ∙ header_of_bytes h p)
