-- A hasher takes more bytes. Assumes nothing.
use mathlib.Core.Path.{◌≡◌, refl, sym, subst, ap, ap₂, ◌∙◌}
use mathlib.Core.List.{List, [], ◌++◌, append_assoc}
use Rattle.std.proofs.lemmas.Grind.{common_steps}
use Prim.Native.Nat.{ℕ, ◌+◌, ◌-◌, ◌*◌, ◌/◌, ◌%◌, ◌≤◌, ◌<◌}
use native.Mathlib.Omega.{arith}
use lib.ListN.{length, take, drop, length-append, length-drop, take-append-drop}
use lib.Seq.{drop-drop, drop-append-le, length-take-le, take_all}
use Rattle.octets.specs.Bytes.{splice}
use Rattle.octets.proofs.Parts.{length_splice, take_written}
use Rattle.sha_block.specs.Loop.{turns}
use Rattle.sha384.specs.Padding.{padding, padded}
use Rattle.sha384.specs.Sha384.{H0, hashed, digest, sha384}
use Rattle.sha384.proofs.Whole.{hashed_append}
use Rattle.hasher.specs.Taken.{behind, Taken, Adds}
use Rattle.hasher.specs.declared.Hasher.{Hasher}

-- ---- less than a block, and a block

hashed_short : (h p : List ℕ) → length p < 128 → hashed h p ≡ h
unfolding hashed turns
hashed_short h p l = let e : length p / 128 ≡ 0 = omega arith in rw e

behind_short : (p : List ℕ) → length p < 128 → behind p ≡ p
unfolding behind
behind_short p l = grind (arith, common_steps)

behind_whole : (p : List ℕ) → length p % 128 ≡ 0 → behind p ≡ []
unfolding behind
behind_whole p l = grind (arith, common_steps)

length_behind : (x : List ℕ) → length (behind x) ≡ length x % 128
unfolding behind
length_behind x = grind (arith, common_steps)

behind_append : (x y : List ℕ) → behind (x ++ y) ≡ behind (behind x ++ y)
unfolding behind
behind_append x y =
    let n : ℕ = 128 * (length x / 128) in
    let z : List ℕ = drop n x ++ y in
    grind (arith, length-append x y, length-append (drop n x) y, length-drop n x, drop-drop (128 * (length z / 128)) n (x ++ y), drop-append-le n x y)

-- ---- a hasher that has taken nothing

pub taken_none : (h block : List ℕ) → h ≡ H0 → Taken (record { state = h; block = block; len = 0 }) []
unfolding behind
taken_none h block e = record { state = e ∙ sym (hashed_short H0 [] (omega arith)); held = refl; len = refl }

-- ---- a hasher that has taken x takes y

module _ (s r : Hasher) (x y : List ℕ) (t : Taken s x) where
  -- what it held, with y behind it
  abbrev now : List ℕ
  now = take (length x % 128) s.block ++ y

  pub taken : r.state ≡ hashed s.state now → take (length (x ++ y) % 128) r.block ≡ behind now → r.len ≡ s.len + length y → Taken r (x ++ y)
  unfolding behind
  taken p q l = record {
    state = p ∙ ap₂ (λ (h z : List ℕ). hashed h (z ++ y)) t.state t.held ∙ sym (hashed_append H0 x y);
    held = q ∙ ap (λ (z : List ℕ). behind (z ++ y)) t.held ∙ sym (behind_append x y);
    len = l ∙ ap (λ (n : ℕ). n + length y) t.len ∙ sym (length-append x y);
  }

  -- less than a block in all: it is held
  pub taken_short : length now < 128 → r.state ≡ s.state → take (length now) r.block ≡ now → r.len ≡ s.len + length y → Taken r (x ++ y)
  taken_short h p q l =
      let n : length (x ++ y) % 128 ≡ length now = omega (arith, length-append x y, length-append (take (length x % 128) s.block) y, ap length t.held, length_behind x) in
      taken (p ∙ sym (hashed_short s.state now h)) (ap (λ (k : ℕ). take k r.block) n ∙ q ∙ sym (behind_short now h)) l

  -- whole blocks in all: they are hashed
  pub taken_whole : length now % 128 ≡ 0 → r.state ≡ hashed s.state now → r.len ≡ s.len + length y → Taken r (x ++ y)
  taken_whole h p l =
      let n : length (x ++ y) % 128 ≡ 0 = omega (arith, length-append x y, length-append (take (length x % 128) s.block) y, ap length t.held, length_behind x) in
      taken p (ap (λ (k : ℕ). take k r.block) n ∙ sym (behind_whole now h)) l

-- ---- a run of bytes, and whole blocks

-- where x ends, by the hasher's count
at_end : (s : Hasher) (x : List ℕ) → Taken s x → s.len % 128 ≡ length x % 128
at_end s x t = ap (λ (n : ℕ). n % 128) t.len

-- b is the block with m behind what is held
module _ (s : Hasher) (m b : List ℕ) (room : length s.block ≡ 128) (fits : s.len % 128 + length m ≤ 128) (e : b ≡ splice s.block (s.len % 128) m) where
  abbrev at : ℕ
  at = s.len % 128

  held_run : (x : List ℕ) → Taken s x → take (length x % 128) s.block ++ m ≡ take (at + length m) b
  held_run x t =
      ap (λ (n : ℕ). take n s.block ++ m) (sym (at_end s x t)) ∙ sym (take_written s.block at m (omega arith)) ∙ ap (take (at + length m)) (sym e)

  length_held_run : (x : List ℕ) → Taken s x → length (take (length x % 128) s.block ++ m) ≡ at + length m
  length_held_run x t =
      ap length (held_run x t) ∙ length-take-le (at + length m) b (omega (arith, ap length e, length_splice s.block at m (omega arith)))

  pub push_held : (at + length m ≡ 128 → ⊥) → (x : List ℕ) → Taken s x → Taken (record { state = s.state; block = b; len = s.len + length m }) (x ++ m)
  push_held h x t =
      let n = length_held_run x t in
      let l : at + length m < 128 = omega (arith, h) in
      taken_short s _ x m t (omega arith) refl (ap (λ (k : ℕ). take k b) n ∙ sym (held_run x t)) refl

  pub push_full : (h : List ℕ) → at + length m ≡ 128 → h ≡ hashed s.state b → (x : List ℕ) → Taken s x
      → Taken (record { state = h; block = b; len = s.len + length m }) (x ++ m)
  push_full h n eh x t =
      let lb : length b ≡ 128 = ap length e ∙ length_splice s.block at m (omega arith) ∙ room in
      let whole : take (length x % 128) s.block ++ m ≡ b = held_run x t ∙ ap (λ (k : ℕ). take k b) n ∙ take_all 128 b (omega arith) in
      taken_whole s _ x m t (omega (arith, ap length whole)) (eh ∙ ap (hashed s.state) (sym whole)) refl

pub push_whole : (s : Hasher) (m h : List ℕ) → length m % 128 ≡ 0 → s.len % 128 ≡ 0 → h ≡ hashed s.state m → (x : List ℕ) → Taken s x
    → Taken (record { state = h; block = s.block; len = s.len + length m }) (x ++ m)
push_whole s m h l z eh x t =
    let e : take (length x % 128) s.block ++ m ≡ m = ap (λ (k : ℕ). take k s.block ++ m) (sym (at_end s x t) ∙ z) in
    taken_whole s _ x m t (omega (arith, ap length e)) (eh ∙ ap (hashed s.state) (sym e)) refl

-- ---- the end

pub finished : (s : Hasher) (h d v : List ℕ) → length s.block ≡ 128 → v ≡ take (s.len % 128) s.block
    → h ≡ hashed s.state (v ++ padding (s.len - s.len % 128 + length v)) → d ≡ digest h → (x : List ℕ) → Taken s x → d ≡ sha384 x
unfolding sha384 padded behind
finished s h d v room ev eh ed x t =
    let e : v ≡ behind x = ev ∙ ap (λ (k : ℕ). take k s.block) (at_end s x t) ∙ t.held in
    let n : s.len - s.len % 128 + length v ≡ length x = omega (arith, ap length e, length_behind x, t.len) in
    ed ∙ ap digest (eh ∙ (λ i. hashed (t.state i) (e i ++ padding (n i))) ∙ sym (hashed_append H0 x (padding (length x))))

-- ---- a message in parts

-- three parts of m, one behind the other
pub added_by : (s r t u : Hasher) {a b c : List ℕ} (m : List ℕ) → Adds s a r → Adds r b t → Adds t c u → a ++ b ++ c ≡ m → Adds s m u
added_by s r t u {a} {b} {c} m p q k e = record {
  by_index = λ x h. subst (Taken u) (regroup x a b c ∙ ap (λ (z : List ℕ). x ++ z) e) (k.by_index _ (q.by_index _ (p.by_index _ h)));
  count =
      let l : length (a ++ b ++ c) ≡ length m = ap length e in
      omega (arith, p.count, q.count, k.count, length-append (a ++ b) c, length-append a b, l);
}
  where
    regroup : (x a b c : List ℕ) → ((x ++ a) ++ b) ++ c ≡ x ++ (a ++ b ++ c)
    regroup x a b c = simp append_assoc

-- cut in two places
pub cut_twice : (m : List ℕ) (i j : ℕ) {f r w e : List ℕ} → f ≡ take i m → r ≡ drop i m → w ≡ take j r → e ≡ drop j r → f ++ w ++ e ≡ m
cut_twice m i j {f} {r} {w} {e} ef er ew ee = grind (arith, take-append-drop j r, take-append-drop i m, append_assoc)
