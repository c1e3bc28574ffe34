-- Laws of `part` and `splice`, over any place and length.
-- Assumes nothing.
use Rattle.std.proofs.Common.{◌≡◌, ℕ, zero, suc, ◌+◌, ◌-◌, ◌≤◌, ◌<◌, List, [], ◌∷◌, ◌++◌, length, take, drop, get_or, set, replicate, refl, sym, ap, ◌∙◌, arith, add-one, take-append-drop}
use Rattle.std.proofs.lemmas.Grind.{common_steps}
use Rattle.std.proofs.lemmas.List.{drop-replicate}
use lib.Seq.{append_snoc, take-add, drop-drop, set_split}
use Rattle.octets.specs.Bytes.{splice, part}

-- ---- parts

pub length_part : (a : List ℕ) (at n : ℕ) → at + n ≤ length a → length (part a at n) ≡ n
unfolding part
length_part a at n h = grind (arith, common_steps)

pub part_nil : (a : List ℕ) (at : ℕ) → part a at 0 ≡ []
unfolding part
part_nil a at = refl

pub part_add : (a : List ℕ) (at n m : ℕ) → part a at (n + m) ≡ part a at n ++ part a (at + n) m
unfolding part
part_add a at n m = grind (arith, take-add n m (drop at a), drop-drop)

pub part_whole : (a : List ℕ) (n : ℕ) → length a ≡ n → part a 0 n ≡ a
unfolding part
part_whole a n e = grind (arith, common_steps)

-- a part lies within a front that reaches its end
pub part_take : (a : List ℕ) (at n m : ℕ) → at + n ≤ m → part (take m a) at n ≡ part a at n
unfolding part
part_take a zero n m h = grind (arith, common_steps)
part_take a (suc at) n zero h = absurd (omega arith)
part_take [] (suc at) n (suc m) h = refl
part_take (x ∷ xs) (suc at) n (suc m) h = part_take xs at n m (omega arith)

-- a part of a part, of the first of two lists, and of the second
pub part_part : (a : List ℕ) (at n o m : ℕ) → o + m ≤ n → part (part a at n) o m ≡ part a (at + o) m
unfolding part
part_part a at n o m h = grind (arith, part_take (drop at a) o m n h, drop-drop o at a)

pub part_left : (x y : List ℕ) (o n : ℕ) → o + n ≤ length x → part (x ++ y) o n ≡ part x o n
unfolding part
part_left x y o n h = grind (arith, common_steps)

pub part_right : (x y : List ℕ) (k o n : ℕ) → length x ≡ k → part (x ++ y) (k + o) n ≡ part y o n
unfolding part
part_right x y k o n e = grind (arith, common_steps, drop-drop o k (x ++ y))

-- a run that stands behind k bytes
pub part_hit : (x v : List ℕ) (k n : ℕ) → length x ≡ k → length v ≡ n → part (x ++ v) k n ≡ v
unfolding part
part_hit x v k n e f = grind (arith, common_steps)

-- a part of one byte
pub part_one : (a : List ℕ) (at : ℕ) → at < length a → part a at 1 ≡ get_or a at 0 ∷ []
unfolding part
part_one a at h = grind (arith, common_steps)

-- ---- splices

pub length_splice : (a : List ℕ) (at : ℕ) (v : List ℕ) → at + length v ≤ length a → length (splice a at v) ≡ length a
unfolding splice
length_splice a at v h = grind (arith, common_steps)

pub splice_nil : (a : List ℕ) (at : ℕ) → splice a at [] ≡ a
unfolding splice
splice_nil a at = grind (arith, common_steps)

pub splice_all : (a v : List ℕ) → length v ≡ length a → splice a 0 v ≡ v
unfolding splice
splice_all a v e = grind (arith, common_steps)

pub splice_zeros : (n : ℕ) (v : List ℕ) → splice (replicate n 0) 0 v ≡ v ++ replicate (n - length v) 0
unfolding splice
splice_zeros n v = grind (arith, drop-replicate)

-- one byte stored is a run of one byte written
pub set_splice : (a : List ℕ) (at x : ℕ) → at < length a → set a at x ≡ splice a at (x ∷ [])
unfolding splice
set_splice a at x h = grind (arith, set_split a at x h, append_snoc, add-one)

-- what is read of the part that is lent as `&a[at..at + n]`
pub lent_part : {A : Type 0} (f : List ℕ → A) (a : List ℕ) (at n : ℕ) {r : A} → r ≡ f (take (at + n - at) (drop at a)) → r ≡ f (part a at n)
unfolding part
lent_part f a at n e = grind arith

-- a part from at on that was lent and came back as ys: the whole is a splice
pub lent_splice : (a ys : List ℕ) (at k : ℕ) → length ys ≡ k → take at a ++ (ys ++ drop k (drop at a)) ≡ splice a at ys
unfolding splice
lent_splice a ys at k e = grind (arith, common_steps)

pub take_splice : (a : List ℕ) (at : ℕ) (v : List ℕ) → at + length v ≤ length a → take at (splice a at v) ≡ take at a
unfolding splice
take_splice a at v h = grind (arith, common_steps)

-- up to its end, what is written stands behind what stood before it
pub take_written : (a : List ℕ) (at : ℕ) (v : List ℕ) → at + length v ≤ length a → take (at + length v) (splice a at v) ≡ take at a ++ v
unfolding splice
take_written a at v h = grind (arith, common_steps)

pub drop_splice : (a : List ℕ) (at : ℕ) (v : List ℕ) → at + length v ≤ length a → drop (at + length v) (splice a at v) ≡ drop (at + length v) a
unfolding splice
drop_splice a at v h = grind (arith, common_steps)

-- the next run, written right after what was written so far: two runs side by side are one
pub splice_next : (a : List ℕ) (at : ℕ) (v w : List ℕ) → at + length v + length w ≤ length a
    → splice (splice a at v) (at + length v) w ≡ splice a at (v ++ w)
unfolding splice
splice_next a at v w h =
    let s : List ℕ = take at a ++ v ++ drop (at + length v) a in
    grind (arith, common_steps, drop-drop (length w) (at + length v) s, drop-drop (length w) (at + length v) a)

pub splice_then : (a x y : List ℕ) (at to : ℕ) (v w : List ℕ) → x ≡ splice a at v → y ≡ splice x to w → to ≡ at + length v
    → to + length w ≤ length a → y ≡ splice a at (v ++ w)
splice_then a x y at to v w ex ey et h = grind (arith, splice_next a at v w (omega arith))

-- a run written right before one that was written
pub splice_under : (a u v : List ℕ) (at to : ℕ) → to ≡ at + length u → to + length v ≤ length a
    → splice (splice a to v) at u ≡ splice a at (u ++ v)
unfolding splice
splice_under a u v at to e h = grind (arith, common_steps)

-- a written run, with what stands behind it said too
pub splice_grow : (a u : List ℕ) (at n to : ℕ) → to ≡ at + length u → to + n ≤ length a → splice a at u ≡ splice a at (u ++ part a to n)
unfolding splice part
splice_grow a u at n to e h = grind (arith, common_steps, take-append-drop n (drop to a), drop-drop n to a)

-- what is read where it was written, before it, and past it
pub read_same : (a : List ℕ) (at : ℕ) (v : List ℕ) → at + length v ≤ length a → part (splice a at v) at (length v) ≡ v
unfolding part splice
read_same a at v h = grind (arith, common_steps)

pub read_before : (a : List ℕ) (at : ℕ) (v : List ℕ) (i n : ℕ) → at + length v ≤ length a → i + n ≤ at → part (splice a at v) i n ≡ part a i n
read_before a at v i n h k = grind (arith, part_take (splice a at v) i n at k, take_splice a at v h, part_take a i n at k)

pub read_past : (a : List ℕ) (at : ℕ) (v : List ℕ) (i n : ℕ) → at + length v ≤ length a → at + length v ≤ i → part (splice a at v) i n ≡ part a i n
unfolding part
read_past a at v i n h k =
    let past : ℕ = i - (at + length v) in
    grind (arith, drop_splice a at v h, drop-drop past (at + length v) a, drop-drop past (at + length v) (splice a at v))

-- ---- a run copied byte by byte

-- a byte before or past what is written is the one that was there
get_apart : (a : List ℕ) (at : ℕ) (v : List ℕ) (j : ℕ) → at + length v ≤ length a → j < length a
    → part (splice a at v) j 1 ≡ part a j 1 → get_or (splice a at v) j 0 ≡ get_or a j 0
get_apart a at v j h g e =
    let l : length (splice a at v) ≡ length a = length_splice a at v h in
    ap (λ (x : List ℕ). get_or x 0 0) (sym (part_one (splice a at v) j (omega (arith, l))) ∙ e ∙ part_one a j g)

-- from its first byte on: one byte more
pub copied_more : (a v : List ℕ) (at from k : ℕ) → at + k < length a → from + k < length v
    → set (splice a at (part v from k)) (at + k) (get_or v (from + k) 0) ≡ splice a at (part v from (k + 1))
copied_more a v at from k h g =
    let w : List ℕ = part v from k in
    let l : length w ≡ k = length_part v from k (omega arith) in
    grind (
      arith,
      set_splice (splice a at w) (at + k) (get_or v (from + k) 0),
      length_splice a at w (omega arith),
      splice_next a at w (get_or v (from + k) 0 ∷ []),
      part_add v from k 1,
      part_one v (from + k) g,
    )

-- from its last byte on: one byte more, in front
copied_under : (a v : List ℕ) (to from n k : ℕ) → to + n ≤ length a → from + n ≤ length v → k < n
    → set (splice a (to + (k + 1)) (part v (from + (k + 1)) (n - (k + 1)))) (to + k) (get_or v (from + k) 0) ≡ splice a (to + k) (part v (from + k) (n - k))
copied_under a v to from n k h g e =
    let w : List ℕ = part v (from + (k + 1)) (n - (k + 1)) in
    let l : length w ≡ n - (k + 1) = length_part v (from + (k + 1)) (n - (k + 1)) (omega arith) in
    let m : n - k ≡ 1 + (n - (k + 1)) = omega arith in
    grind (
      arith,
      set_splice (splice a (to + (k + 1)) w) (to + k) (get_or v (from + k) 0),
      length_splice a (to + (k + 1)) w (omega arith),
      splice_under a (get_or v (from + k) 0 ∷ []) w (to + k) (to + (k + 1)),
      part_add v (from + k) 1 (n - (k + 1)),
      part_one v (from + k) (omega arith),
    )

-- the same of a run that moves down or up in one area
pub moved_more : (a x : List ℕ) (to from k : ℕ) → to ≤ from → from + k < length a → x ≡ splice a to (part a from k)
    → set x (to + k) (get_or x (from + k) 0) ≡ splice a to (part a from (k + 1))
moved_more a x to from k h g e =
    let w : List ℕ = part a from k in
    let l : length w ≡ k = length_part a from k (omega arith) in
    let b : get_or (splice a to w) (from + k) 0 ≡ get_or a (from + k) 0 =
    get_apart a to w (from + k) (omega arith) g (read_past a to w (from + k) 1 (omega arith) (omega arith)) in
    grind (arith, e, b, copied_more a a to from k (omega arith) g)

pub moved_under : (a x : List ℕ) (to from n k : ℕ) → from ≤ to → to + n ≤ length a → k < n → x ≡ splice a (to + (k + 1)) (part a (from + (k + 1)) (n - (k + 1)))
    → set x (to + k) (get_or x (from + k) 0) ≡ splice a (to + k) (part a (from + k) (n - k))
moved_under a x to from n k h g f e =
    let w : List ℕ = part a (from + (k + 1)) (n - (k + 1)) in
    let l : length w ≡ n - (k + 1) = length_part a (from + (k + 1)) (n - (k + 1)) (omega arith) in
    let b : get_or (splice a (to + (k + 1)) w) (from + k) 0 ≡ get_or a (from + k) 0 =
    get_apart a (to + (k + 1)) w (from + k) (omega arith) (omega arith) (read_before a (to + (k + 1)) w (from + k) 1 (omega arith) (omega arith)) in
    grind (arith, e, b, copied_under a a to from n k g (omega arith) f)
