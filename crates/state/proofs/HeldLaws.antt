-- Laws of held rows: what is read of a blob, a row written and read back, a row read and written again.
-- Assumes nothing.
use Rattle.std.proofs.Common.{◌≡◌, ℕ, suc, ◌+◌, ◌-◌, ◌^◌, ◌<◌, ◌≤◌, Bool, true, false, cond, ◌&&◌, eqb, leb, List, [], ◌∷◌, ◌++◌, length, get_or, take, drop, sym, refl, ap, ◌∙◌, subst, ap₂, arith, length-append, length-drop, take-append-drop, take_all, drop_at, eq-eqb, ne_eqb, eqb-true, le-leb, lt-ltb, leb-true, ltb-true, leb-false, ltb, true≢false}
use Rattle.std.specs.Prelude.{Some, None}
use Rattle.std.proofs.lemmas.Bool.{false_from_ne_true}
use Rattle.octets.specs.Bytes.{Bytes, part, num, be}
use Rattle.octets.proofs.Parts.{part_left, part_whole, part_add, length_part}
use Rattle.octets.proofs.Numbers.{length_be, num_be}
use Rattle.courier.specs.declared.Header.{Header}
use Rattle.courier.specs.Courier.{header_bytes, header_of, carried_length, envelope_decode}
use Rattle.octets.proofs.Parts.{part_hit, part_one}
use Rattle.octets.proofs.Numbers.{num_one, bytes_part, be_num_part}
use Rattle.courier.proofs.HeaderLaws.{Proper, length_header, header_of_bytes, bytes_of_header, whole_header, not_whole}
use Rattle.courier.proofs.Laws.{both, carried_fits}
use Rattle.state.specs.declared.Carried.{Carried}
use Rattle.state.specs.declared.Tombstone.{Tombstone}
use Rattle.state.specs.Held.{Held, carried, tombstone, carried_head, held_row, carried_of, reads_back, carried_in, tombstone_of, tombstone_in, held_decode, held_read}
use Rattle.state.specs.declared.Reader.{Reader}
use Rattle.state.specs.declared.Held.TheVariants as row
use Rattle.state.specs.Reader.{take_at, byte_at, u32_at, u64_at, array_at, StandsAt, Steps}
use Rattle.state.proofs.ReaderLaws.{take_some, take_none}
use Rattle.state.proofs.RowLaws.{ProperTombstone}

-- ---- what `decode` finds

-- a carried row is read back exactly if its ciphertext has a carried length and its expiry is above 0
pub reads_back_parts : (len expiry : ℕ) → reads_back len expiry ≡ true → (carried_length len ≡ true) × (0 < expiry)
unfolding reads_back
reads_back_parts len expiry e = let f = both (carried_length len) (ltb 0 expiry) e in (f.0, ltb-true 0 expiry f.1)

pub reads_back_if : (len expiry : ℕ) → carried_length len ≡ true → 0 < expiry → reads_back len expiry ≡ true
unfolding reads_back
reads_back_if len expiry e k = rw (e, lt-ltb 0 expiry k)

pub reads_back_not : (len expiry : ℕ) → (carried_length len ≡ true → 0 < expiry → ⊥) → reads_back len expiry ≡ false
reads_back_not len expiry k = false_from_ne_true (reads_back len expiry) (λ e. let p = reads_back_parts len expiry e in k p.0 p.1)

-- does a carried blob pass, as `decode` asks it
abbrev pub passes : List ℕ → Bool
passes b = reads_back (length b - 46) (carried_of b).header.expiry_min

module _ (b : List ℕ) where
  pub carried_some : 46 ≤ length b → passes b ≡ true → carried_in b ≡ Some (carried (carried_of b) (drop 46 b))
  unfolding carried_in
  carried_some h e = rw (le-leb 46 (length b) h, e)

  pub carried_none : (46 ≤ length b → passes b ≡ true → ⊥) → carried_in b ≡ None
  unfolding carried_in
  carried_none k = go (leb 46 (length b) && passes b) refl
    where
      go : (t : Bool) → (leb 46 (length b) && passes b) ≡ t → cond t (Some (carried (carried_of b) (drop 46 b))) None ≡ None
      go false e = refl
      go true e = let f = both (leb 46 (length b)) (passes b) e in absurd (k (leb-true 46 (length b) f.0) f.1)

  pub tombstone_none : (length b ≡ 37 → ⊥) → tombstone_in b ≡ None
  unfolding tombstone_in
  tombstone_none k = rw (ne_eqb (length b) 37 k)

  pub tombstone_some : length b ≡ 37 → tombstone_in b ≡ Some (tombstone (tombstone_of b))
  unfolding tombstone_in
  tombstone_some e = rw (eq-eqb (length b) 37 e)

  -- by the kind byte
  pub kind_0 : get_or b 0 0 ≡ 0 → held_decode b ≡ carried_in b
  unfolding held_decode
  kind_0 e = rw (eq-eqb (get_or b 0 0) 0 e)

  pub kind_1 : get_or b 0 0 ≡ 1 → held_decode b ≡ tombstone_in b
  unfolding held_decode
  kind_1 e = rw e

  pub kind_other : (get_or b 0 0 ≡ 0 → ⊥) → (get_or b 0 0 ≡ 1 → ⊥) → held_decode b ≡ None
  unfolding held_decode
  kind_other k l = rw (ne_eqb (get_or b 0 0) 0 k, ne_eqb (get_or b 0 0) 1 l)

-- an empty blob is no row
pub nothing : (b : List ℕ) → length b < 1 → held_decode b ≡ None
unfolding held_decode carried_in
nothing [] h = refl
nothing (x ∷ b) h = absurd (omega arith)

-- ---- the steps of `decode`

pub standing : {k : ℕ} (r : Reader) → r.at ≡ k → StandsAt r r.blob.now k
standing r e = record { blob = refl; at = e }

module _ {r : Reader} {b : List ℕ} {k : ℕ} (p : StandsAt r b k) where
  -- a step on
  pub stepped : {A : Type 0} {x : A} {s : Reader} {n : ℕ} → Steps r (Some x) n s → StandsAt s b (k + n)
  stepped {n = n} q = record { blob = q.blob ∙ p.blob; at = q.at ∙ ap (λ (m : ℕ). m + n) p.at }

  -- what it finds stands at k
  pub stands : {A : Type 0} {x : A} (f : List ℕ → ℕ → A) → x ≡ f r.blob.now r.at → x ≡ f b k
  stands f e = e ∙ (λ i. f (p.blob i) (p.at i))

-- by the kind byte, at the start of the blob
module _ (b : List ℕ) {r : Reader} (p : StandsAt r b 0) where
  pub kind_short : None ≡ byte_at r.blob.now r.at → None ≡ held_read (held_decode b)
  kind_short e = ap held_read (sym (nothing b (omega (arith, take_none 1 b 0 num (sym (stands p byte_at e))))))

  module _ {k : ℕ} (e : Some k ≡ byte_at r.blob.now r.at) where
    first_byte : get_or b 0 0 ≡ k
    first_byte = let q = take_some 1 b 0 num k (sym (stands p byte_at e)) in sym (num_one b 0 (omega (arith, q.0))) ∙ q.1

    pub kind_carried : {s : Reader} → k ≡ 0 → Steps r (Some k) 1 s → held_read (carried_in s.blob.now) ≡ held_read (held_decode b)
    kind_carried z q = ap (λ (l : List ℕ). held_read (carried_in l)) (stepped p q).blob ∙ ap held_read (sym (kind_0 b (first_byte ∙ z)))

    pub kind_tombstone : {s : Reader} → k ≡ 1 → Steps r (Some k) 1 s → held_read (tombstone_in s.blob.now) ≡ held_read (held_decode b)
    kind_tombstone z q = ap (λ (l : List ℕ). held_read (tombstone_in l)) (stepped p q).blob ∙ ap held_read (sym (kind_1 b (first_byte ∙ z)))

    pub kind_neither : (k ≡ 0 → ⊥) → (k ≡ 1 → ⊥) → None ≡ held_read (held_decode b)
    kind_neither f g = ap held_read (sym (kind_other b (λ z. f (sym first_byte ∙ z)) (λ z. g (sym first_byte ∙ z))))

-- a carried row, whose kind was read
module _ (b : List ℕ) {r : Reader} where
  pub depositor_short : StandsAt r b 1 → None ≡ u64_at r.blob.now r.at → None ≡ held_read (carried_in b)
  depositor_short p e = ap held_read (sym (carried_none b (λ h v. omega (arith, take_none 8 b 1 num (sym (stands p u64_at e))))))

  pub envelope_short : StandsAt r b 9 → None ≡ envelope_decode r.blob.now r.at → None ≡ held_read (carried_in b)
  envelope_short p e = ap held_read (sym (carried_none b (λ h v. omega (arith, not_whole b 9 refl (sym (stands p envelope_decode e))))))

  module _ {h : Header} (p : StandsAt r b 9) (e : Some h ≡ envelope_decode r.blob.now r.at) where
    whole : (46 ≤ length b) × (h ≡ header_of (part b 9 37))
    whole = whole_header b 9 h refl (sym (stands p envelope_decode e))

    pub envelope_fits : 46 ≤ length r.blob.now
    envelope_fits = subst (λ (l : List ℕ). 46 ≤ length l) (sym p.blob) whole.0

    module _ {t : Bool} (et : t ≡ reads_back (length r.blob.now - 46) h.expiry_min) where
      passed : passes b ≡ t
      unfolding carried_of
      passed =
          sym (et ∙ ap (λ (l : List ℕ). reads_back (length l - 46) h.expiry_min) p.blob
          ∙ ap (λ (x : Header). reads_back (length b - 46) x.expiry_min) whole.1)

      pub envelope_unread : t ≡ false → None ≡ held_read (carried_in b)
      envelope_unread f = ap held_read (sym (carried_none b (λ k v. absurd (true≢false (sym v ∙ passed ∙ f)))))

      pub carried_read : {q : Reader} {d : ℕ} → t ≡ true → StandsAt q b 1 → Some d ≡ u64_at q.blob.now q.at
          → Some (row.Carried (record { depositor = record { 0 = d }; header = h })) ≡ held_read (carried_in b)
      unfolding carried_of
      carried_read {d = d} f z ed =
          let number = take_some 8 b 1 num d (sym (stands z u64_at ed)) in
          let q : record { depositor = record { 0 = d }; header = h } ≡ carried_of b =
          λ i. record { depositor = record { 0 = sym number.1 i }; header = whole.1 i } in
          ap (λ (x : Carried). Some (row.Carried x)) q ∙ ap held_read (sym (carried_some b whole.0 (passed ∙ f)))

-- a tombstone, whose kind was read
module _ (b : List ℕ) {r : Reader} where
  pub tombstone_short : {A : Type 0} {k : ℕ} (n : ℕ) (got : List ℕ → A) → StandsAt r b k → None ≡ take_at n r.blob.now r.at got → k + n ≤ 37
      → None ≡ held_read (tombstone_in b)
  tombstone_short {k = k} n got p e h =
      ap held_read (sym (tombstone_none b (λ l. omega (arith, take_none n b k got (sym (stands p (λ (s : List ℕ) (at : ℕ). take_at n s at got) e))))))

  module _ {t : Bool} (p : StandsAt r b 37) (e : t ≡ leb (length r.blob.now) r.at) where
    ends : t ≡ leb (length b) 37
    ends = stands p (λ (l : List ℕ) (k : ℕ). leb (length l) k) e

    pub tombstone_long : t ≡ false → None ≡ held_read (tombstone_in b)
    tombstone_long f = ap held_read (sym (tombstone_none b (λ l. omega (arith, leb-false (length b) 37 (sym ends ∙ f)))))

    pub tombstone_read : {q₁ q₂ q₃ : Reader} {x y : List ℕ} {v : ℕ} → t ≡ true → StandsAt q₁ b 1 → Some x ≡ array_at 16 q₁.blob.now q₁.at
        → StandsAt q₂ b 17 → Some y ≡ array_at 16 q₂.blob.now q₂.at → StandsAt q₃ b 33 → Some v ≡ u32_at q₃.blob.now q₃.at
        → Some (row.Tombstone (record { tag = x; s = y; expiry_min = v })) ≡ held_read (tombstone_in b)
    unfolding tombstone_of
    tombstone_read {x = x} {y = y} {v = v} f z₁ ex z₂ ey z₃ ev =
        let tag = take_some 16 b 1 (λ (z : List ℕ). z) x (sym (stands z₁ (array_at 16) ex)) in
        let secret = take_some 16 b 17 (λ (z : List ℕ). z) y (sym (stands z₂ (array_at 16) ey)) in
        let expiry = take_some 4 b 33 num v (sym (stands z₃ u32_at ev)) in
        let q : record { tag = x; s = y; expiry_min = v } ≡ tombstone_of b =
        λ i. record { tag = sym tag.1 i; s = sym secret.1 i; expiry_min = sym expiry.1 i } in
        ap (λ (z : Tombstone). Some (row.Tombstone z)) q ∙ ap held_read (sym (tombstone_some b (omega (arith, expiry.0, leb-true (length b) 37 (sym ends ∙ f)))))

-- ---- written and read back

-- what the types of a carried row's fields say of them
pub record ProperCarried (r : Carried) : Type 0 where
  pub depositor : r.depositor.0 < 2 ^ 64
  pub header : Proper r.header

module _ (r : Carried) (p : ProperCarried r) where
  abbrev front : List ℕ
  front = (0 ∷ []) ++ be 8 r.depositor.0

  length_front : length front ≡ 9
  length_front = ap suc (length_be 8 r.depositor.0)

  pub length_head : length (carried_head r) ≡ 46
  unfolding carried_head
  length_head = length-append front (header_bytes r.header) ∙ omega (arith, length_front, length_header r.header p.header.tag p.header.c)

  -- whatever stands after a head, its fields are read back
  pub head_back : (x : List ℕ) → carried_of (carried_head r ++ x) ≡ r
  unfolding carried_of carried_head
  head_back x =
      let h : List ℕ = front ++ header_bytes r.header in
      let lh : length h ≡ 46 = length-append front (header_bytes r.header) ∙ omega (arith, length_front, length_header r.header p.header.tag p.header.c) in
      let d : num (part (h ++ x) 1 8) ≡ r.depositor.0 =
      ap num (part_left h x 1 8 (omega arith) ∙ part_left front (header_bytes r.header) 1 8 (omega (arith, length_front))
      ∙ part_hit (0 ∷ []) (be 8 r.depositor.0) 1 8 refl (length_be 8 r.depositor.0))
      ∙ num_be 8 r.depositor.0 p.depositor in
      let e : header_of (part (h ++ x) 9 37) ≡ r.header =
      ap header_of (part_left h x 9 37 (omega arith) ∙ part_hit front (header_bytes r.header) 9 37 length_front (length_header r.header p.header.tag p.header.c))
      ∙ header_of_bytes r.header p.header in
      λ i. record { depositor = record { 0 = d i }; header = e i }

  module _ (ct : List ℕ) where
    pub length_row : length (held_row (carried r ct)) ≡ 46 + length (take 2064 ct)
    unfolding held_row
    length_row = length-append (carried_head r) (take 2064 ct) ∙ ap (λ (k : ℕ). k + length (take 2064 ct)) length_head

    -- what is asked of a row that is read back is what is asked of the row
    passes_row : passes (held_row (carried r ct)) ≡ reads_back (length (take 2064 ct)) r.header.expiry_min
    unfolding held_row
    passes_row =
        let l : length (carried_head r ++ take 2064 ct) - 46 ≡ length (take 2064 ct) =
        omega (arith, length-append (carried_head r) (take 2064 ct), length_head) in
        ap₂ (λ (n : ℕ) (q : Carried). reads_back n q.header.expiry_min) l (head_back (take 2064 ct))

    decode_row : held_decode (held_row (carried r ct)) ≡ carried_in (held_row (carried r ct))
    unfolding held_row carried_head
    decode_row = kind_0 (held_row (carried r ct)) refl

    -- A carried row written and read back is equal, if its expiry is above 0 and its ciphertext has a carried length; its copies are any.
    pub carried_back : carried_length (length ct) ≡ true → 0 < r.header.expiry_min → held_decode (held_row (carried r ct)) ≡ Some (carried r ct)
    unfolding held_row
    carried_back e k =
        let t : take 2064 ct ≡ ct = take_all 2064 ct (carried_fits (length ct) e).1 in
        let v : passes (held_row (carried r ct)) ≡ true =
        passes_row ∙ ap (λ (l : List ℕ). reads_back (length l) r.header.expiry_min) t ∙ reads_back_if (length ct) r.header.expiry_min e k in
        decode_row ∙ carried_some (held_row (carried r ct)) (omega (arith, length_row)) v
        ∙ ap₂ (λ (q : Carried) (l : List ℕ). Some (carried q l)) (head_back (take 2064 ct)) (drop_at (carried_head r) (take 2064 ct) 46 length_head ∙ t)

    -- A row of another length, or of expiry 0, is written all the same, and refused by `decode`.
    pub carried_refused : reads_back (length (take 2064 ct)) r.header.expiry_min ≡ false
        → held_decode (held_row (carried r ct)) ≡ None
    carried_refused e =
        decode_row ∙ carried_none (held_row (carried r ct)) (λ h v. let z : true ≡ false = sym v ∙ passes_row ∙ e in
        cc)

module _ (t : Tombstone) (p : ProperTombstone t) where
  abbrev to_tag : List ℕ
  to_tag = (1 ∷ []) ++ t.tag

  abbrev to_s : List ℕ
  to_s = to_tag ++ t.s

  abbrev expiry : List ℕ
  expiry = be 4 t.expiry_min

  l_tag : length to_tag ≡ 17
  l_tag = ap suc p.tag

  l_s : length to_s ≡ 33
  l_s = omega (arith, length-append to_tag t.s, l_tag, p.s)

  length_tombstone : length (held_row (tombstone t)) ≡ 37
  unfolding held_row
  length_tombstone = omega (arith, length-append to_s expiry, l_s, length_be 4 t.expiry_min)

  tombstone_of_lem : tombstone_of (held_row (tombstone t)) ≡ t
  unfolding tombstone_of held_row
  tombstone_of_lem =
      let a : part (to_s ++ expiry) 1 16 ≡ t.tag =
      part_left to_s expiry 1 16 (omega (arith, l_s)) ∙ part_left to_tag t.s 1 16 (omega (arith, l_tag)) ∙ part_hit (1 ∷ []) t.tag 1 16 refl p.tag in
      let b : part (to_s ++ expiry) 17 16 ≡ t.s =
      part_left to_s expiry 17 16 (omega (arith, l_s)) ∙ part_hit to_tag t.s 17 16 l_tag p.s in
      let e : num (part (to_s ++ expiry) 33 4) ≡ t.expiry_min =
      ap num (part_hit to_s expiry 33 4 l_s (length_be 4 t.expiry_min)) ∙ num_be 4 t.expiry_min p.expiry in
      λ i. record { tag = a i; s = b i; expiry_min = e i }

  decode_tombstone_row : held_decode (held_row (tombstone t)) ≡ tombstone_in (held_row (tombstone t))
  unfolding held_row
  decode_tombstone_row = kind_1 (held_row (tombstone t)) refl

  -- A tombstone written and read back is equal.
  pub tombstone_back : held_decode (held_row (tombstone t)) ≡ Some (tombstone t)
  tombstone_back =
      decode_tombstone_row ∙ tombstone_some (held_row (tombstone t)) length_tombstone ∙ ap (λ (q : Tombstone). Some (tombstone q)) tombstone_of_lem

-- ---- read and written again

module _ (b : List ℕ) (by : Bytes b) where
  first : (k : ℕ) → get_or b 0 0 ≡ k → 1 ≤ length b → k ∷ [] ≡ part b 0 1
  first k e h = ap (λ (x : ℕ). x ∷ []) (sym e) ∙ sym (part_one b 0 (omega arith))

  again_carried : get_or b 0 0 ≡ 0 → 46 ≤ length b → passes b ≡ true → held_row (carried (carried_of b) (drop 46 b)) ≡ b
  unfolding held_row carried_head carried_of part
  again_carried k h v =
      let f = carried_fits (length b - 46) (reads_back_parts (length b - 46) (carried_of b).header.expiry_min v).0 in
      let hd : (0 ∷ []) ++ be 8 (num (part b 1 8)) ++ header_bytes (header_of (part b 9 37)) ≡ part b 0 46 =
      (λ i. first 0 k (omega arith) i ++ be_num_part b 1 8 (omega arith) by i
      ++ bytes_of_header (part b 9 37) (bytes_part b 9 37 by) (length_part b 9 37 (omega arith)) i)
      ∙ ap (λ (x : List ℕ). x ++ part b 9 37) (sym (part_add b 0 1 8)) ∙ sym (part_add b 0 9 37) in
      ap₂ (λ (x y : List ℕ). x ++ y) hd (take_all 2064 (drop 46 b) (omega (arith, length-drop 46 b))) ∙ take-append-drop 46 b

  again_tombstone : get_or b 0 0 ≡ 1 → length b ≡ 37 → held_row (tombstone (tombstone_of b)) ≡ b
  unfolding held_row tombstone_of
  again_tombstone k h =
      ap₂ (λ (x y : List ℕ). x ++ part b 1 16 ++ part b 17 16 ++ y) (first 1 k (omega arith)) (be_num_part b 33 4 (omega arith) by)
      ∙ ap (λ (x : List ℕ). x ++ part b 17 16 ++ part b 33 4) (sym (part_add b 0 1 16))
      ∙ ap (λ (x : List ℕ). x ++ part b 33 4) (sym (part_add b 0 17 16)) ∙ sym (part_add b 0 33 4) ∙ part_whole b 37 h

  -- What `decode` takes, written again, is the same bytes.
  pub decoded_again : (x : Held) → held_decode b ≡ Some x → held_row x ≡ b
  unfolding held_decode carried_in tombstone_in
  decoded_again x e = go (eqb (get_or b 0 0) 0) refl (eqb (get_or b 0 0) 1) refl (leb 46 (length b) && passes b) refl (eqb (length b) 37) refl e
    where
      go : (k : Bool) → eqb (get_or b 0 0) 0 ≡ k → (l : Bool) → eqb (get_or b 0 0) 1 ≡ l → (v : Bool) → (leb 46 (length b) && passes b) ≡ v
          → (n : Bool) → eqb (length b) 37 ≡ n
          → cond k (cond v (Some (carried (carried_of b) (drop 46 b))) None) (cond l (cond n (Some (tombstone (tombstone_of b))) None) None) ≡ Some x
          → held_row x ≡ b
      go true ek l el true ev n en e =
          let f = both (leb 46 (length b)) (passes b) ev in
          let q : x ≡ carried (carried_of b) (drop 46 b) = cc in
          ap held_row q ∙ again_carried (eqb-true (get_or b 0 0) 0 ek) (leb-true 46 (length b) f.0) f.1
      go true ek l el false ev n en e = cc
      go false ek true el v ev true en e =
          let q : x ≡ tombstone (tombstone_of b) = cc in
          ap held_row q ∙ again_tombstone (eqb-true (get_or b 0 0) 1 el) (eqb-true (length b) 37 en)
      go false ek true el v ev false en e = cc
      go false ek false el v ev n en e = cc
