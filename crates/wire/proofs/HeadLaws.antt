-- Laws of a record's head. Assumes nothing.
use Rattle.std.proofs.Common.{◌≡◌, ℕ, ◌+◌, ◌-◌, ◌<◌, ◌≤◌, Bool, true, false, cond, ltb, leb, List, length, sym, refl, ap, ◌∙◌, subst, true≢false, arith, ltb-false, ltb-true, le-ltb, eqb-true, le-leb, leb-false, leb-true, Ok, Err, Some, None}
use Rattle.courier.proofs.Laws.{both}
use Rattle.courier_core.specs.declared.Refusal.{Refusal}
use Rattle.courier_core.specs.declared.Refusal.TheVariants as refusal
use Rattle.wire.specs.declared.Mark.{Mark}
use Rattle.wire.specs.declared.Mark.TheVariants as mark
use Rattle.wire.specs.declared.Head.{Head}
use Rattle.wire.specs.Log.{ReadHead, whole, shaped, fits, mark_at, size_at, head_of}

-- how many bytes a body has at least that fits its mark
abbrev pub least_size : Mark → ℕ
least_size mark.Clock = 8
least_size mark.Contact = 9
least_size mark.Session = 8
least_size mark.Envelope = 45
least_size mark.Inventory = 8
least_size mark.Fetch = 24
least_size mark.Custody = 25
least_size mark.Tomb = 40
least_size mark.Maintenance = 0
least_size mark.Setting = 4
least_size mark.Unknown = 0

shape_size : (m : Mark) (n : ℕ) → shaped m n ≡ true → least_size m ≤ n
unfolding shaped
shape_size mark.Clock n e = omega (arith, eqb-true n 8 e)
shape_size mark.Contact n e = omega (arith, eqb-true n 9 e)
shape_size mark.Session n e = omega (arith, eqb-true n 8 e)
shape_size mark.Envelope n e = leb-true 45 n e
shape_size mark.Inventory n e = leb-true 8 n (both (leb 8 n) _ e).0
shape_size mark.Fetch n e = omega (arith, eqb-true n 24 e)
shape_size mark.Custody n e = omega (arith, eqb-true n 25 e)
shape_size mark.Tomb n e = omega (arith, eqb-true n 40 e)
shape_size mark.Maintenance n e = omega arith
shape_size mark.Setting n e = omega (arith, eqb-true n 4 e)
shape_size mark.Unknown n e = absurd (true≢false (sym e))

pub fit_size : (m : Mark) (n : ℕ) → fits m n ≡ true → least_size m ≤ n
unfolding fits
fit_size m n e = shape_size m n (both (leb n 8192) (shaped m n) e).1

pub fit_most : (m : Mark) (n : ℕ) → fits m n ≡ true → n ≤ 8192
unfolding fits
fit_most m n e = leb-true n 8192 (both (leb n 8192) (shaped m n) e).0

-- the same of a mark that is known
pub size_of : {m : Mark} (n : ℕ) (k : Mark) → m ≡ k → fits m n ≡ true → least_size k ≤ n
size_of n k q e = fit_size k n (ap (λ (x : Mark). fits x n) (sym q) ∙ e)

-- ---- what stands at the front of some bytes

module _ (s : List ℕ) where
  module _ {n : ℕ} {m : Mark} {t : Bool} (em : m ≡ mark_at s) (en : n ≡ size_at s) (et : t ≡ fits m n) (room : 4 ≤ length s) where
    told : fits (mark_at s) (size_at s) ≡ t
    told = sym (et ∙ ap (λ (x : Mark). fits x n) em ∙ ap (λ (x : ℕ). fits (mark_at s) x) en)

    pub head_wrong : t ≡ false → Err refusal.LogRecord ≡ head_of s
    unfolding head_of
    head_wrong e = rw (le-ltb (length s) 4 room, told ∙ e)

    pub head_whole : t ≡ true → n ≤ length s - 4 → whole m n ≡ head_of s
    unfolding head_of
    head_whole e h = rw (le-ltb (length s) 4 room, told ∙ e, le-leb (size_at s) (length s - 4) (omega (arith, en))) (λ i. whole (em i) (en i))

-- ---- what a head says of the bytes: a whole record is among them, one that is not all there is less than the longest, and a wrong head is number 13

abbrev pub Sound : ReadHead → ℕ → Type 0
Sound (Ok (Some h)) k = 4 + h.len ≤ k
Sound (Ok None) k = k < 8196
Sound (Err why) k = why ≡ refusal.LogRecord

sound_cond : (t : Bool) (x y : ReadHead) (k : ℕ) → (t ≡ true → Sound x k) → (t ≡ false → Sound y k) → Sound (cond t x y) k
sound_cond true x y k hx hy = hx refl
sound_cond false x y k hx hy = hy refl

sound : (s : List ℕ) → Sound (head_of s) (length s)
unfolding head_of
sound s =
    sound_cond (ltb (length s) 4) (Ok None) _ (length s) (λ e. omega (arith, ltb-true (length s) 4 e))
    (λ e. sound_cond (fits (mark_at s) (size_at s)) _ (Err refusal.LogRecord) (length s)
    (λ f. sound_cond (leb (size_at s) (length s - 4)) (whole (mark_at s) (size_at s)) (Ok None) (length s)
    (λ g. omega (arith, leb-true (size_at s) (length s - 4) g, ltb-false (length s) 4 e))
    (λ g. omega (arith, leb-false (size_at s) (length s - 4) g, fit_most (mark_at s) (size_at s) f)))
    (λ f. refl))

pub of_whole : {r : ReadHead} {h : Head} (s : List ℕ) → r ≡ head_of s → r ≡ Ok (Some h) → 4 + h.len ≤ length s
of_whole s e w = subst (λ (x : ReadHead). Sound x (length s)) (sym e ∙ w) (sound s)

pub of_more : {r : ReadHead} (s : List ℕ) → r ≡ head_of s → r ≡ Ok None → length s < 8196
of_more s e w = subst (λ (x : ReadHead). Sound x (length s)) (sym e ∙ w) (sound s)

pub of_wrong : {r : ReadHead} {why : Refusal} (s : List ℕ) → r ≡ head_of s → r ≡ Err why → why ≡ refusal.LogRecord
of_wrong s e w = subst (λ (x : ReadHead). Sound x (length s)) (sym e ∙ w) (sound s)
