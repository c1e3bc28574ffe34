-- Labels, and what is made with them. Assumes nothing.
use mathlib.Core.Path.{◌≡◌, refl, ap, ap₂, ◌∙◌}
use mathlib.Core.Bool.{Bool, true, false, cond}
use mathlib.Core.List.{List, ◌++◌}
use Prim.Native.Nat.{ℕ, ◌+◌, ◌≤◌, ◌<◌}
use native.Mathlib.Omega.{arith}
use lib.ListN.{length, take, replicate, length-append}
use lib.Dec.{leb}
use borrow.Author.Tests.{le-leb, lt-leb}
use Rattle.octets.specs.Bytes.{splice, be}
use Rattle.octets.proofs.Parts.{splice_then, splice_all}
use Rattle.octets.proofs.Numbers.{length_be}
use Rattle.sha384.specs.Sha384.{sha384}
use Rattle.hmac.specs.Hmac.{hmac}
use Rattle.hmac.specs.Hkdf.{extract, expand, hkdf}
use Rattle.std.specs.Prelude.{Option, Some, None, Result, Ok, Err}
use Rattle.std.specs.Result.{is_ok}
use Rattle.kdf.specs.declared.Refused.{Refused}
use Rattle.kdf.specs.declared.Refused.TheVariants.{LabelTooLong, OutTooLong}
use Rattle.kdf.specs.Kdf.{protocol, head, labelled, tag, kdf, hash, commit_label, commit, longest_label, answered, key_as, told, kept}

-- ---- the answers

pub label_fits : {A : Type 0} (label : List ℕ) (made none : A) → length label ≤ longest_label → made ≡ answered label made none
unfolding answered
label_fits label made none h = rw (le-leb (length label) longest_label h)

pub label_too_long : {A : Type 0} (label : List ℕ) (made none : A) → longest_label < length label → none ≡ answered label made none
unfolding answered
label_too_long label made none h = rw (lt-leb (length label) longest_label h)

-- ---- the head

pub head_written : (label x y : List ℕ) → x ≡ splice (replicate 11 0) 0 (be 2 (9 + length label)) → y ≡ splice x 2 protocol → y ≡ head label
unfolding head
head_written label x y ex ey =
    let l : length (be 2 (9 + length label)) ≡ 2 = length_be 2 (9 + length label) in
    splice_then (replicate 11 0) x y 0 2 (be 2 (9 + length label)) protocol ex ey (omega arith) (omega arith)
    ∙ splice_all (replicate 11 0) (be 2 (9 + length label) ++ protocol) (length-append (be 2 (9 + length label)) protocol ∙ ap (λ (n : ℕ). n + 9) l)

-- ---- a lent area: what is answered, and what it holds

module _ (label : List ℕ) (most n : ℕ) where
  pub told_done : length label ≤ longest_label → n ≤ most → Ok tt ≡ told label most n
  unfolding told
  told_done h k = rw (le-leb n most k) (label_fits label _ _ h)

  pub told_out : length label ≤ longest_label → most < n → Err OutTooLong ≡ told label most n
  unfolding told
  told_out h k = rw (lt-leb n most k) (label_fits label _ _ h)

  pub told_label : longest_label < length label → Err LabelTooLong ≡ told label most n
  unfolding told
  told_label h = label_too_long label _ _ h

module _ (label : List ℕ) (most : ℕ) (asked out : List ℕ) where
  pub kept_done : length label ≤ longest_label → length out ≤ most → asked ≡ kept label most asked out
  unfolding kept
  kept_done h k = rw (le-leb (length out) most k) (label_fits label _ _ h)

  pub kept_refused : {e : Refused} → Err e ≡ told label most (length out) → out ≡ kept label most asked out
  unfolding told kept answered
  kept_refused {e} h = go (leb (length label) longest_label) (leb (length out) most) h
    where
      go : (t u : Bool) → ◌≡◌ {A = Result (Unit {0}) Refused} (Err e) (cond t (cond u (Ok tt) (Err OutTooLong)) (Err LabelTooLong)) → out ≡ cond t (cond u asked out) out
      go true true h = let z : ◌≡◌ {A = ℕ} 0 1 = cc in absurd (omega arith)
      go true false h = refl
      go false u h = refl

-- an area of 16 bytes that was lent, and its answer, are a key by value
module _ (label key : List ℕ) (most : ℕ) {r : Result (Unit {0}) Refused} (h : 16 ≤ most) (er : r ≡ told label most 16) where
  pub key_made : {b : List ℕ} → true ≡ is_ok r → b ≡ kept label most key (replicate 16 0) → Some b ≡ key_as label key
  unfolding told kept key_as answered
  key_made {b} e eb = go (leb (length label) longest_label) (leb 16 most) (le-leb 16 most h) (e ∙ ap is_ok er) eb
    where
      go : (t u : Bool) → u ≡ true → true ≡ is_ok {T = Unit {0}} {E = Refused} (cond t (cond u (Ok tt) (Err OutTooLong)) (Err LabelTooLong))
          → b ≡ cond t (cond u key (replicate 16 0)) (replicate 16 0) → ◌≡◌ {A = Option (List ℕ)} (Some b) (cond t (Some key) None)
      go true true p e f = ap Some f
      go true false p e f = let z : ◌≡◌ {A = ℕ} 0 1 = cc in absurd (omega arith)
      go false u p e f = let z : ◌≡◌ {A = ℕ} 0 1 = cc in absurd (omega arith)

  pub key_refused : false ≡ is_ok r → None ≡ key_as label key
  unfolding told key_as answered
  key_refused e = go (leb (length label) longest_label) (leb 16 most) (le-leb 16 most h) (e ∙ ap is_ok er)
    where
      go : (t u : Bool) → u ≡ true → false ≡ is_ok {T = Unit {0}} {E = Refused} (cond t (cond u (Ok tt) (Err OutTooLong)) (Err LabelTooLong))
          → ◌≡◌ {A = Option (List ℕ)} None (cond t (Some key) None)
      go true true p e = let z : ◌≡◌ {A = ℕ} 0 1 = cc in absurd (omega arith)
      go true false p e = let z : ◌≡◌ {A = ℕ} 0 1 = cc in absurd (omega arith)
      go false u p e = refl

-- ---- the bytes

pub tag_bytes : (n : ℕ) (key label x h : List ℕ) {d out : List ℕ} → h ≡ head label → d ≡ hmac key (h ++ label ++ x) → out ≡ take n d → out ≡ tag n key label x
unfolding labelled
tag_bytes n key label x h eh ed eo = eo ∙ ap (take n) (ed ∙ ap (λ (l : List ℕ). hmac key (l ++ label ++ x)) eh)

pub kdf_bytes : (ikm salt label info h prk out out' : List ℕ) → h ≡ head label → prk ≡ extract salt ikm
    → out' ≡ expand prk (h ++ label ++ info) (length out) → out' ≡ kdf ikm salt label info (length out)
unfolding kdf hkdf labelled
kdf_bytes ikm salt label info h prk out out' eh ep eo = eo ∙ ap₂ (λ (p l : List ℕ). expand p (l ++ label ++ info) (length out)) ep eh

pub hash_bytes : (label x h : List ℕ) {b : List ℕ} → h ≡ head label → b ≡ sha384 (h ++ label ++ x) → b ≡ hash label x
unfolding hash labelled
hash_bytes label x h eh e = e ∙ ap (λ (l : List ℕ). sha384 (l ++ label ++ x)) eh

pub commit_bytes : (nonce : List ℕ) {d b : List ℕ} → d ≡ hash commit_label nonce → b ≡ take 32 d → b ≡ commit nonce
unfolding commit
commit_bytes nonce ed eb = eb ∙ ap (take 32) ed
